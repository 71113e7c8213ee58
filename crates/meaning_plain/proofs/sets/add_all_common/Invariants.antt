use Rattle.std.proofs.Common.{◌≡◌, ℕ, take, Contains}
use Rattle.meaning_plain.specs.Lists.{Grows, Given}
use Rattle.meaning_plain.proofs.sets.add_all_common.Given as goal

abbrev pub invariant-loop-event : goal.invariant-loop-event
invariant-loop-event l =
    Grows (Given (λ (x e : ℕ). (e ≡ x) × Contains l.others x) (take l.event-index l.more)) l.initial.set.items l.set.items
