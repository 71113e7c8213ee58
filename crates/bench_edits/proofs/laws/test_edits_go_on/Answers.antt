use Rattle.bench_edits.proofs.TestEdits.{tests_go_on}
use Rattle.bench_edits.proofs.laws.test_edits_go_on.Goals as goal

pub returns : goal.returns
returns c = tests_go_on
