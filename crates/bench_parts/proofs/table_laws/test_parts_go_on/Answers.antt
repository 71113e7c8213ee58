use Rattle.bench_parts.proofs.TestRows.{parts_now}
use Rattle.bench_parts.proofs.table_laws.test_parts_go_on.Goals as goal

pub returns : goal.returns
returns c = parts_now
