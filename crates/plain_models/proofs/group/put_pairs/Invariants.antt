use Rattle.std.proofs.Common.{take}
use Rattle.plain_models.specs.Groups.{Extends}
use Rattle.plain_models.proofs.group.put_pairs.Given as goal

abbrev pub invariant-loop-pair : goal.invariant-loop-pair
invariant-loop-pair l = Extends l.initial.pairs.items (take l.pair-index l.more) l.pairs.items
