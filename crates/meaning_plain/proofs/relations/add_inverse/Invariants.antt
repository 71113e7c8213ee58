use Rattle.std.proofs.Common.{◌≡◌, ℕ, take}
use Rattle.meaning_plain.specs.Lists.{Grows, Given}
use Rattle.meaning_plain.proofs.relations.add_inverse.Given as goal

abbrev pub invariant-loop-pair : goal.invariant-loop-pair
invariant-loop-pair l =
    Grows (Given (λ (x p : ℕ × ℕ). p ≡ (x.1, x.0)) (take l.pair-index l.more)) l.initial.pairs.items l.pairs.items
