use Rattle.std.proofs.Common.{◌≡◌, ◌↔◌, map, length, drop}
use Rattle.text_values.specs.ModelValues.{shown_term}
use Rattle.text_values.proofs.same.are_same_shown.Given as goal

abbrev pub invariant-loop-this : goal.invariant-loop-this
invariant-loop-this l =
    (map shown_term l.these ≡ map shown_term l.those)
    ↔ (map shown_term (drop (length l.yielded) l.these)
    ≡ map shown_term (drop (length l.yielded) l.those))
