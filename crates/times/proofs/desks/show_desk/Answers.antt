-- What crosses to the workers holds no thread's own.
use Rattle.bench_instance.proofs.Crossings.{bench_crosses}
use Rattle.times.proofs.desks.show_desk.Goals as goal

pub measure-requires-send-X : goal.measure-requires-send-X
measure-requires-send-X g c κs within = search bench_crosses depth 100 fits 20000

pub measure-requires-send-X-Given : goal.measure-requires-send-X-Given
measure-requires-send-X-Given g c κs within = search bench_crosses depth 100 fits 20000

pub measure-requires-send-X-Prepared : goal.measure-requires-send-X-Prepared
measure-requires-send-X-Prepared g c κs within = search bench_crosses depth 100 fits 20000

pub measure-requires-send-X-Op : goal.measure-requires-send-X-Op
measure-requires-send-X-Op g c κs within = search bench_crosses depth 100 fits 20000

pub measure-requires-sync-X : goal.measure-requires-sync-X
measure-requires-sync-X g c κs within = search bench_crosses depth 100 fits 20000

pub measure-requires-sync-X-Given : goal.measure-requires-sync-X-Given
measure-requires-sync-X-Given g c κs within = search bench_crosses depth 100 fits 20000

pub measure-requires-sync-X-Prepared : goal.measure-requires-sync-X-Prepared
measure-requires-sync-X-Prepared g c κs within = search bench_crosses depth 100 fits 20000

pub measure-requires-sync-X-Op : goal.measure-requires-sync-X-Op
measure-requires-sync-X-Op g c κs within = search bench_crosses depth 100 fits 20000
