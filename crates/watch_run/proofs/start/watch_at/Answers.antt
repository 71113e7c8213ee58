-- What crosses to the workers holds no thread's own.
use Rattle.bench_instance.proofs.Crossings.{bench_crosses}
use Rattle.watch_run.proofs.start.watch_at.Goals as goal

pub beside_workers-worked-requires-send-X : goal.beside_workers-worked-requires-send-X
beside_workers-worked-requires-send-X g c κs within = search bench_crosses depth 100 fits 20000

pub beside_workers-worked-requires-send-X-Given : goal.beside_workers-worked-requires-send-X-Given
beside_workers-worked-requires-send-X-Given g c κs within =
    search bench_crosses depth 100 fits 20000

pub beside_workers-worked-requires-send-X-Prepared : goal.beside_workers-worked-requires-send-X-Prepared
beside_workers-worked-requires-send-X-Prepared g c κs within =
    search bench_crosses depth 100 fits 20000

pub beside_workers-worked-requires-sync-X : goal.beside_workers-worked-requires-sync-X
beside_workers-worked-requires-sync-X g c κs within = search bench_crosses depth 100 fits 20000

pub beside_workers-worked-requires-sync-X-Given : goal.beside_workers-worked-requires-sync-X-Given
beside_workers-worked-requires-sync-X-Given g c κs within =
    search bench_crosses depth 100 fits 20000

pub beside_workers-worked-requires-sync-X-Prepared : goal.beside_workers-worked-requires-sync-X-Prepared
beside_workers-worked-requires-sync-X-Prepared g c κs within =
    search bench_crosses depth 100 fits 20000
