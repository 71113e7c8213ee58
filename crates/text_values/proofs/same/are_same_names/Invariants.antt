use Rattle.std.proofs.Common.{◌≡◌, ◌↔◌, length, drop}
use Rattle.text_values.proofs.same.are_same_names.Given as goal

abbrev pub invariant-loop-this : goal.invariant-loop-this
invariant-loop-this l =
    (l.these ≡ l.those) ↔ (drop (length l.yielded) l.these ≡ drop (length l.yielded) l.those)
