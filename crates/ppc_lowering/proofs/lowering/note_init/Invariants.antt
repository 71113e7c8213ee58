use Rattle.std.proofs.Common.{take}
use Rattle.std.specs.List.{AllPairs, flat_map}
use Rattle.ppc_lowering.specs.Lowering.{IsNameBefore, Gains, entry_names}
use Rattle.ppc_lowering.proofs.lowering.note_init.Given as goal

abbrev pub invariant-loop-entry : goal.invariant-loop-entry
invariant-loop-entry l = record {
  rising : AllPairs IsNameBefore l.names.items;
  added : Gains (flat_map entry_names (take l.entry-index l.init)) l.initial.names.items
      l.names.items;
}
