use Rattle.std.proofs.Common.{◌≡◌, ◌≤◌, ◌-◌, length, take}
use Rattle.std.specs.Io.KnownBytes.{Appends}
use Rattle.session_script.proofs.sink.write_whole.Given as goal

abbrev pub invariant-loop-at : goal.invariant-loop-at
invariant-loop-at g l =
    (l.at ≤ length l.bytes)
    × (g.S.ByteSink.failed_calls l.sink ≡ g.S.ByteSink.failed_calls l.initial.sink)
    × Appends (g.S.ByteSink.contents l.initial.sink) (g.S.ByteSink.contents l.sink)
    (take l.at l.bytes)

abbrev pub decreases-loop-at : goal.decreases-loop-at
decreases-loop-at g l = length l.bytes - l.at
