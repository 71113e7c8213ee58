use Rattle.std.proofs.Common.{◌≡◌, ℕ, take}
use Rattle.meaning_plain.specs.Lists.{Grows, Given}
use Rattle.meaning_plain.proofs.relations.add_itself.Given as goal

abbrev pub invariant-loop-event : goal.invariant-loop-event
invariant-loop-event l =
    Grows (Given (λ (x : ℕ) (p : ℕ × ℕ). p ≡ (x, x)) (take l.event-index l.events)) l.initial.pairs.items l.pairs.items
