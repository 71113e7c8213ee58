use Rattle.std.proofs.Common.{◌≡◌, drop, reverse}
use Rattle.binding_graph.specs.Usages.{IsListed, with_items}
use Rattle.binding_graph.proofs.uses.Uses.note_functions.Given as goal

abbrev pub invariant-loop-item : goal.invariant-loop-item
invariant-loop-item l = record {
  uses : IsListed l.fn.self.applied.items l.fn.self.functions.items
      → with_items (reverse l.self.functions.items) (drop l.item-index l.items)
      ≡ with_items (reverse l.fn.self.functions.items) l.items;
  listed : IsListed l.fn.self.applied.items l.fn.self.functions.items
      → IsListed l.self.applied.items l.self.functions.items;
  values : l.self.values ≡ l.fn.self.values;
  indexes : l.self.indexes ≡ l.fn.self.indexes;
}
