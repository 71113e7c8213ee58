use Rattle.std.proofs.Common.{◌≡◌, ◌+◌, ◌≤◌, drop, if◌then◌else◌}
use Rattle.text_values.specs.Layout.{comment_from}
use Rattle.text_values.proofs.layout.open_comment.Given as goal

abbrev pub invariant-loop-i : goal.invariant-loop-i
invariant-loop-i l =
    (l.depth ≤ l.i + 1) × (1 ≤ l.depth)
    × (comment_from 0 1 0 l.bytes
    ≡ comment_from (if l.skip then 1 else 0) l.depth l.i (drop l.i l.bytes))
