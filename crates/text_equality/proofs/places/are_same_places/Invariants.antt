use Rattle.std.proofs.Common.{◌≡◌, ◌↔◌, length, drop}
use Rattle.text_equality.proofs.places.are_same_places.Given as goal

abbrev pub invariant-loop-this : goal.invariant-loop-this
invariant-loop-this l =
    (l.first ≡ l.second) ↔ (drop (length l.yielded) l.first ≡ drop (length l.yielded) l.second)
