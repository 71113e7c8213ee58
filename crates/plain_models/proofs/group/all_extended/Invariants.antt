use Rattle.std.proofs.Common.{take}
use Rattle.plain_models.specs.Groups.{DoExtend}
use Rattle.plain_models.proofs.group.all_extended.Given as goal

abbrev pub invariant-loop-index : goal.invariant-loop-index
invariant-loop-index l = DoExtend (take l.index l.values) (take l.index l.more) l.whole.items
