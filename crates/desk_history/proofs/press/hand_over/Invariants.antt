use Rattle.std.proofs.Common.{◌≡◌, ◌++◌, drop}
use Rattle.std.specs.VecDeque.{deque_len}
use Rattle.desk_history.proofs.press.hand_over.Given as goal

abbrev pub invariant-loop-entry : goal.invariant-loop-entry
invariant-loop-entry g l =
    (l.writer.desk ≡ l.initial.writer.desk)
    × (drop l.writer.behind l.writer.log.items ++ l.queue.items
    ≡ drop l.initial.writer.behind l.initial.writer.log.items ++ l.initial.queue.items)

abbrev pub decreases-loop-entry : goal.decreases-loop-entry
decreases-loop-entry g l = deque_len l.queue
