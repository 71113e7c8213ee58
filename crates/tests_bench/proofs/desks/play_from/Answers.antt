-- What crosses to a thread holds no thread's own.
use Rattle.bench_instance.proofs.Crossings.{bench_crosses}
use Rattle.tests_bench.proofs.desks.play_from.Goals as goal

pub play_at-requires-send-X : goal.play_at-requires-send-X
play_at-requires-send-X g c κs within = search bench_crosses depth 100 fits 20000

pub play_at-requires-send-X-Given : goal.play_at-requires-send-X-Given
play_at-requires-send-X-Given g c κs within = search bench_crosses depth 100 fits 20000

pub play_at-requires-send-X-Prepared : goal.play_at-requires-send-X-Prepared
play_at-requires-send-X-Prepared g c κs within = search bench_crosses depth 100 fits 20000

pub play_at-requires-send-X-Op : goal.play_at-requires-send-X-Op
play_at-requires-send-X-Op g c κs within = search bench_crosses depth 100 fits 20000

pub play_at-requires-sync-X : goal.play_at-requires-sync-X
play_at-requires-sync-X g c κs within = search bench_crosses depth 100 fits 20000

pub play_at-requires-sync-X-Given : goal.play_at-requires-sync-X-Given
play_at-requires-sync-X-Given g c κs within = search bench_crosses depth 100 fits 20000

pub play_at-requires-sync-X-Prepared : goal.play_at-requires-sync-X-Prepared
play_at-requires-sync-X-Prepared g c κs within = search bench_crosses depth 100 fits 20000

pub play_at-requires-sync-X-Op : goal.play_at-requires-sync-X-Op
play_at-requires-sync-X-Op g c κs within = search bench_crosses depth 100 fits 20000
