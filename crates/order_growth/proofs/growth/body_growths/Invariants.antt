use Rattle.std.proofs.Common.{take}
use Rattle.order_growth.specs.Growth.{AreGrowthsOf}
use Rattle.order_growth.proofs.growth.body_growths.Given as goal

abbrev pub invariant-loop-body : goal.invariant-loop-body
invariant-loop-body l = AreGrowthsOf l.inputs (take l.body-index l.bodies) l.growths.items
