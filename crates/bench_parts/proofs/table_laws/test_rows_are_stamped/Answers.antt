use Rattle.bench_parts.proofs.TestRows.{test_stamped}
use Rattle.bench_parts.proofs.table_laws.test_rows_are_stamped.Goals as goal

pub returns : goal.returns
returns c = test_stamped
