use Rattle.bench_instance.specs.Lemmas.Commits.{commits_edit}
use Rattle.bench_instance.proofs.stamped_laws.prepared_edits_are_made.Goals as goal

pub returns : goal.returns
returns c = commits_edit
