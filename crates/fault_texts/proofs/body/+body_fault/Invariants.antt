use Rattle.std.proofs.Common.{◌≡◌, List, map, drop, reverse}
use Rattle.std.specs.Prelude.{option_map}
use Rattle.text_values.specs.ModelValue.{gathered}
use Rattle.text_values.specs.ModelValues.{term_of}
use Rattle.binding_kinds.specs.Value.{entry_of}
use Rattle.binding_kinds.specs.Senses.{Sense, HaveSenses}
use Rattle.fault_texts.specs.Search.{signed_fault_of, or_later, first_fault_in_body, first_fault_in_bodies}
use Rattle.fault_texts.proofs.body.+body_fault.Given as goal

abbrev pub invariant-loop-argument : goal.invariant-loop-argument
invariant-loop-argument l =
    (senses : List Sense) → HaveSenses l.sight.functions.now senses →
    (let names = reverse (map entry_of l.sight.entries.now) in
    or_later (option_map signed_fault_of l.all) (first_fault_in_bodies senses names
    l.sight.parameters.now (gathered
    (map term_of (drop l.argument-index l.argument-items))))
    ≡ first_fault_in_body senses names l.sight.parameters.now (term_of l.term))
