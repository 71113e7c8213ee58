use Rattle.std.proofs.Common.{take}
use Rattle.meaning.specs.Sets.{IsIrreflexive}
use Rattle.meaning_plain.specs.Lists.{RelationOf}
use Rattle.meaning_plain.proofs.checks.is_irreflexive.Given as goal

abbrev pub invariant-loop-pair : goal.invariant-loop-pair
invariant-loop-pair l = IsIrreflexive (RelationOf (take l.pair-index l.pairs))
