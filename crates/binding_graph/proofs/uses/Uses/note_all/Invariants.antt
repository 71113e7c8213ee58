use Rattle.std.proofs.Common.{◌≡◌, drop, reverse}
use Rattle.binding_graph.specs.Inputs.{IsIndexed}
use Rattle.binding_graph.specs.Usages.{with_all_used}
use Rattle.binding_graph.proofs.uses.Uses.note_all.Given as goal

abbrev pub invariant-loop-value : goal.invariant-loop-value
invariant-loop-value l = record {
  uses : IsIndexed l.fn.self.indexes.items l.fn.self.values.items
      → with_all_used (reverse l.self.values.items) (drop l.value-index l.values)
      ≡ with_all_used (reverse l.fn.self.values.items) l.values;
  indexed : IsIndexed l.fn.self.indexes.items l.fn.self.values.items
      → IsIndexed l.self.indexes.items l.self.values.items;
  functions : l.self.functions ≡ l.fn.self.functions;
  applied : l.self.applied ≡ l.fn.self.applied;
}
