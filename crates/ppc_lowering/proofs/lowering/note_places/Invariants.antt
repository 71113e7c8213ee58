use Rattle.std.proofs.Common.{take}
use Rattle.std.specs.List.{AllPairs, flat_map}
use Rattle.ppc_lowering.specs.Lowering.{IsNameBefore, Gains, place_names}
use Rattle.ppc_lowering.proofs.lowering.note_places.Given as goal

abbrev pub invariant-loop-place : goal.invariant-loop-place
invariant-loop-place l = record {
  rising : AllPairs IsNameBefore l.names.items;
  added : Gains (flat_map place_names (take l.place-index l.places)) l.initial.names.items
      l.names.items;
}
