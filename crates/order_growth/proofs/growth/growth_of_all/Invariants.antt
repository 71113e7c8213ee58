use Rattle.std.proofs.Common.{◌≡◌, drop}
use Rattle.order_growth.specs.Growth.{growth_of_both, growth_of_all}
use Rattle.order_growth.proofs.growth.growth_of_all.Given as goal

abbrev pub invariant-loop-growth : goal.invariant-loop-growth
invariant-loop-growth l =
    growth_of_both l.all (growth_of_all (drop l.growth-index l.growths)) ≡ growth_of_all l.growths
