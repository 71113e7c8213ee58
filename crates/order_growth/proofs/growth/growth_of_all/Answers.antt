use Rattle.std.proofs.Common.{◌∙◌, sym}
use Rattle.order_growth.specs.declared.growth.Growth.TheVariants.{Stays}
use Rattle.order_growth.proofs.Stepping.{one_growth, no_more}
use Rattle.order_growth.proofs.growth.growth_of_all.Goals as goal

pub loop-growth-preserved : goal.loop-growth-preserved
loop-growth-preserved c =
    rw c.growth_of_both-all.ensures (sym (one_growth c.loop-growth.all c.args.growths.now
    c.loop-growth.growth-index Stays c.loop-growth-test.true) ∙ c.loop-growth.invariant)

pub returns : goal.returns
returns c =
    no_more c.loop-growth.all c.args.growths.now c.loop-growth.growth-index c.loop-growth-test.false
    c.loop-growth.invariant
