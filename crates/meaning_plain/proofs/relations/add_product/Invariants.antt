use Rattle.std.proofs.Common.{◌≡◌, ℕ, take}
use Rattle.meaning_plain.specs.Lists.{Grows, Given}
use Rattle.meaning_plain.proofs.relations.add_product.Given as goal

abbrev pub invariant-loop-event : goal.invariant-loop-event
invariant-loop-event l =
    Grows (Given (λ (x : ℕ). Given (λ (y : ℕ) (p : ℕ × ℕ). p ≡ (x, y)) l.second) (take l.event-index l.first)) l.initial.pairs.items l.pairs.items
