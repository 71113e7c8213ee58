-- What crosses to a thread holds no thread's own.
use denote.Param.Send.{sendable}
use Rattle.std.proofs.Crossing.{crosses}
use Rattle.tests_bench.proofs.stress.watch.Shared.TheSendSync as shared
use Rattle.tests_bench.proofs.stress.fn.play_beside.scope.Goals as goal

pub spawn-started-requires-send-F : goal.spawn-started-requires-send-F
spawn-started-requires-send-F g c κs within =
    search (shared.the_sync, crosses, sendable) depth 100 fits 20000
