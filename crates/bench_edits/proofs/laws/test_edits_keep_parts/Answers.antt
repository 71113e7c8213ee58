use Rattle.bench_edits.proofs.TestEdits.{tests_keep}
use Rattle.bench_edits.proofs.laws.test_edits_keep_parts.Goals as goal

pub returns : goal.returns
returns c = tests_keep
