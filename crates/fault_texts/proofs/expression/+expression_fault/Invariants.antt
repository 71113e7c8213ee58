use Rattle.std.proofs.Common.{◌≡◌, List, map, drop, reverse, length}
use Rattle.std.specs.Prelude.{option_map}
use Rattle.text_values.specs.ModelValue.{gathered}
use Rattle.text_values.specs.ModelValues.{term_of}
use Rattle.binding_kinds.specs.Value.{entry_of}
use Rattle.binding_kinds.specs.Kinds.{found}
use Rattle.binding_kinds.specs.Senses.{Sense, HaveSenses, sense_of, under_of}
use Rattle.fault_texts.specs.Search.{signed_fault_of, or_later, first_fault_in, first_fault_among}
use Rattle.fault_texts.proofs.expression.+expression_fault.Given as goal

abbrev pub invariant-loop-index : goal.invariant-loop-index
invariant-loop-index l =
    (senses : List Sense) → HaveSenses l.functions senses →
    (let names = reverse (map entry_of l.entries) in
    or_later (option_map signed_fault_of l.all) (first_fault_among senses names l.from l.under
    (under_of (sense_of senses (length l.argument-items) (found names l.name))) l.index
    (gathered (map term_of (drop l.index l.argument-items))))
    ≡ first_fault_in senses names l.from l.under (term_of l.term))
