use Rattle.bench_instance.proofs.Posted.{posted_is_shown}
use Rattle.bench_instance.proofs.view_laws.posted_cells_are_shown.Goals as goal

pub returns : goal.returns
returns c = λ t ops sound after legal. posted_is_shown t ops sound after legal
