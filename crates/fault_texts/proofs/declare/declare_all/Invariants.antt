use Rattle.std.proofs.Common.{◌≡◌, ◌≤◌, List, reverse, map, drop, take, length}
use Rattle.binding_kinds.specs.Value.{entry_of, bound_value_of}
use Rattle.binding_kinds.specs.Senses.{Sense, HaveSenses}
use Rattle.binding_kinds.specs.Faults.{with_all}
use Rattle.fault_texts.proofs.declare.declare_all.Given as goal

abbrev pub invariant-loop-position : goal.invariant-loop-position
invariant-loop-position l = record {
  before : l.before ≤ length l.entries.items;
  outer : take l.before l.entries.items ≡ l.fn.entries.items;
  names : (senses : List Sense) → HaveSenses l.functions senses →
      with_all senses (reverse (map entry_of l.fn.entries.items))
      (reverse (map entry_of l.fn.entries.items)) l.item 0 (map bound_value_of l.group)
      ≡ with_all senses (reverse (map entry_of l.fn.entries.items))
      (reverse (map entry_of l.entries.items)) l.item l.position
      (map bound_value_of (drop l.position l.group));
}
