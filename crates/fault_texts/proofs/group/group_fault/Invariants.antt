use Rattle.std.proofs.Common.{◌≡◌, List, [], reverse, map, take, drop}
use Rattle.std.specs.Prelude.{option_map}
use Rattle.binding_kinds.specs.GroupNames.{let_names}
use Rattle.binding_kinds.specs.Value.{entry_of, bound_value_of}
use Rattle.binding_kinds.specs.Senses.{Sense, HaveSenses}
use Rattle.fault_texts.specs.Search.{signed_fault_of, or_later, first_fault_in_group}
use Rattle.fault_texts.proofs.group.group_fault.Given as goal

abbrev pub invariant-loop-index : goal.invariant-loop-index
invariant-loop-index l =
    (senses : List Sense) → HaveSenses l.functions senses →
    or_later (option_map signed_fault_of l.all) (first_fault_in_group senses
    (reverse (map entry_of l.entries)) l.from l.recursive (let_names (take l.index l.group))
    (map bound_value_of (drop l.index l.group)))
    ≡ first_fault_in_group senses (reverse (map entry_of l.entries)) l.from l.recursive []
    (map bound_value_of l.group)
