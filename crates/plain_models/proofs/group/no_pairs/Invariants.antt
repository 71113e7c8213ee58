use Rattle.std.proofs.Common.{take}
use Rattle.plain_models.specs.Groups.{AreRelations}
use Rattle.plain_models.proofs.group.no_pairs.Given as goal

abbrev pub invariant-loop-name : goal.invariant-loop-name
invariant-loop-name l = AreRelations (λ n a b. ⊥) (take l._name-index l.names) l.values.items
