use Rattle.std.proofs.Common.{[], take}
use Rattle.std.specs.List.{AllPairs, flat_map}
use Rattle.ppc_lowering.specs.Lowering.{IsNameBefore, Gains, labels_in}
use Rattle.ppc_lowering.proofs.lowering.labels_of.Given as goal

abbrev pub invariant-loop-step : goal.invariant-loop-step
invariant-loop-step l = record {
  rising : AllPairs IsNameBefore l.labels.items;
  added : Gains (flat_map labels_in (take l.step-index l.steps)) [] l.labels.items;
}
