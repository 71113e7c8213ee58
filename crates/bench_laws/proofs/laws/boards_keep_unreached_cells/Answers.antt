use Rattle.bench_laws.proofs.Openings.{keeps_unreached, opens_reached}
use Rattle.bench_laws.proofs.StaysSettled.{stays_settled}
use Rattle.bench_laws.proofs.laws.boards_keep_unreached_cells.Goals as goal

pub returns : goal.returns
returns c = record { kept = keeps_unreached; opened = opens_reached; lasting = stays_settled }
