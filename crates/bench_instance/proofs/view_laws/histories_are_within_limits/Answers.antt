use Rattle.bench_instance.proofs.Contents.{history_is_within}
use Rattle.bench_instance.proofs.view_laws.histories_are_within_limits.Goals as goal

pub returns : goal.returns
returns c = history_is_within
