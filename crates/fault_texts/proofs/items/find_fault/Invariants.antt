use Rattle.std.proofs.Common.{List, reverse, map}
use Rattle.binding_kinds.specs.Value.{entry_of}
use Rattle.binding_kinds.specs.Senses.{Sense, HaveSenses}
use Rattle.fault_texts.proofs.Placing.{AreSearched}
use Rattle.fault_texts.proofs.items.find_fault.Given as goal

abbrev pub invariant-loop-index : goal.invariant-loop-index
invariant-loop-index l =
    (senses : List Sense) → HaveSenses l.fn.scope.functions.items senses →
    AreSearched senses (reverse (map entry_of l.fn.scope.entries.items))
    (reverse (map entry_of l.scope.entries.items)) l.scope.functions.items l.items l.index
