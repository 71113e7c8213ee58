use Rattle.std.proofs.Common.{◌≡◌, map, take}
use Rattle.text_values.specs.ModelValues.{shown_term}
use Rattle.text_copies.proofs.items.copied_all_shown.Given as goal

abbrev pub invariant-loop-one : goal.invariant-loop-one
invariant-loop-one l = map shown_term l.copies.items ≡ map shown_term (take l.one-index l.shown)
