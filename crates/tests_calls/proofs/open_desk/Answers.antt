-- What crosses to a thread holds no thread's own.
use Rattle.bench_instance.proofs.Crossings.{bench_crosses}
use Rattle.tests_calls.proofs.open_desk.Goals as goal

pub play_desk-requires-send-X : goal.play_desk-requires-send-X
play_desk-requires-send-X g c κs within = search bench_crosses depth 100 fits 20000

pub play_desk-requires-send-X-Given : goal.play_desk-requires-send-X-Given
play_desk-requires-send-X-Given g c κs within = search bench_crosses depth 100 fits 20000

pub play_desk-requires-send-X-Prepared : goal.play_desk-requires-send-X-Prepared
play_desk-requires-send-X-Prepared g c κs within = search bench_crosses depth 100 fits 20000

pub play_desk-requires-send-X-Op : goal.play_desk-requires-send-X-Op
play_desk-requires-send-X-Op g c κs within = search bench_crosses depth 100 fits 20000

pub play_desk-requires-sync-X : goal.play_desk-requires-sync-X
play_desk-requires-sync-X g c κs within = search bench_crosses depth 100 fits 20000

pub play_desk-requires-sync-X-Given : goal.play_desk-requires-sync-X-Given
play_desk-requires-sync-X-Given g c κs within = search bench_crosses depth 100 fits 20000

pub play_desk-requires-sync-X-Prepared : goal.play_desk-requires-sync-X-Prepared
play_desk-requires-sync-X-Prepared g c κs within = search bench_crosses depth 100 fits 20000

pub play_desk-requires-sync-X-Op : goal.play_desk-requires-sync-X-Op
play_desk-requires-sync-X-Op g c κs within = search bench_crosses depth 100 fits 20000
