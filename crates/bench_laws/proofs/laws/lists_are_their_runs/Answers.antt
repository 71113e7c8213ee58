use Rattle.bench_laws.proofs.ListRuns.{lists_are_their_runs}
use Rattle.bench_laws.specs.Live.{live_meaning, live_refusing, live_last}
use Rattle.bench_laws.proofs.laws.lists_are_their_runs.Goals as goal

pub returns : goal.returns
returns c = lists_are_their_runs live_meaning live_refusing live_last
