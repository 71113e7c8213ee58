use Rattle.std.proofs.Common.{◌≡◌, ◌≤◌, List, length, map, drop, reverse}
use Rattle.text_values.specs.ModelValue.{gathered}
use Rattle.text_values.specs.ModelValues.{term_of}
use Rattle.binding_kinds.specs.Value.{entry_of}
use Rattle.binding_kinds.specs.Combinations.{kinds_number}
use Rattle.binding_kinds.specs.Senses.{Sense, HaveSenses, kinds_in}
use Rattle.fault_texts.proofs.application.combination_of.Given as goal

abbrev pub invariant-arguments : goal.invariant-arguments
invariant-arguments l = record {
  within : l.end ≤ length l.arguments;
  combined : (senses : List Sense) → HaveSenses l.functions senses → length l.arguments ≤ 8
      → l.combination
      ≡ kinds_number (kinds_in senses (reverse (map entry_of l.entries))
      (gathered (map term_of (drop l.end l.arguments))));
}

abbrev pub decreases-arguments : goal.decreases-arguments
decreases-arguments l = l.end
