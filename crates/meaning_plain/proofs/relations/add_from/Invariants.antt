use Rattle.std.proofs.Common.{◌≡◌, ℕ, take}
use Rattle.meaning_plain.specs.Lists.{Grows, Given}
use Rattle.meaning_plain.proofs.relations.add_from.Given as goal

abbrev pub invariant-loop-end : goal.invariant-loop-end
invariant-loop-end l =
    Grows (Given (λ (y : ℕ) (p : ℕ × ℕ). p ≡ (l.from, y)) (take l.end-index l.ends)) l.initial.pairs.items l.pairs.items
