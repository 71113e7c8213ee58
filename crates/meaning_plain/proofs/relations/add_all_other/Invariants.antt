use Rattle.std.proofs.Common.{◌≡◌, ℕ, take, Contains}
use Rattle.meaning_plain.specs.Lists.{Grows, Given}
use Rattle.meaning_plain.proofs.relations.add_all_other.Given as goal

abbrev pub invariant-loop-pair : goal.invariant-loop-pair
invariant-loop-pair l =
    Grows (Given (λ (x p : ℕ × ℕ). (p ≡ x) × (Contains l.others x → ⊥)) (take l.pair-index l.more)) l.initial.pairs.items l.pairs.items
