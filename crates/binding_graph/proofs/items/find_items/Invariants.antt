use Rattle.std.proofs.Common.{◌≡◌, List, reverse, map, take, vec_len}
use Rattle.binding_kinds.specs.Value.{entry_of}
use Rattle.binding_kinds.specs.Senses.{Sense, HaveSenses}
use Rattle.binding_kinds.specs.Fits.{AreKnown, AreSoundSenses}
use Rattle.binding_graph.specs.Usages.{usage_of}
use Rattle.binding_graph.specs.Resolved.{AreLabelledAs}
use Rattle.binding_graph.proofs.Done.{AreDone, AreSearched}
use Rattle.binding_graph.proofs.items.find_items.Given as goal

abbrev pub invariant-loop-index : goal.invariant-loop-index
invariant-loop-index l = record {
  count : vec_len l.resolved ≡ l.index;
  rest : (senses : List Sense) → HaveSenses l.fn.scope.functions.items senses →
      AreSearched senses (reverse (map entry_of l.fn.scope.entries.items))
      (reverse (map entry_of l.scope.entries.items)) l.scope.functions.items l.items l.index;
  items : (senses : List Sense) → HaveSenses l.fn.scope.functions.items senses → AreSoundSenses senses
      → AreKnown (reverse (map entry_of l.fn.scope.entries.items)) →
      AreDone senses (map usage_of l.fn.scope.functions.items)
      (reverse (map entry_of l.fn.scope.entries.items))
      (reverse (map entry_of l.scope.entries.items)) l.scope.functions.items l.items l.index
      l.resolved.items;
  labels : AreLabelledAs (take l.index l.items) l.resolved.items;
}
