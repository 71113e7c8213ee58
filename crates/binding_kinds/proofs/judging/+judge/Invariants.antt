use Rattle.std.proofs.Common.{◌≡◌, ◌+◌, ◌*◌, ◌^◌, List, length, map, drop, reverse, false}
use Rattle.text_values.specs.ModelValue.{gathered}
use Rattle.text_values.specs.ModelValues as values
use Rattle.binding_kinds.specs.Value.{entry_of}
use Rattle.binding_kinds.specs.Combinations.{kinds_number}
use Rattle.binding_kinds.specs.Formula.{factor_of}
use Rattle.binding_kinds.specs.Verdict.{or_else}
use Rattle.binding_kinds.specs.Senses.{Sense, HasSense, HaveSenses, IsSameSize, size_with, size_of_arguments, sizes_in, kinds_in, first_among}
use Rattle.binding_kinds.proofs.judging.+judge.Given as goal

abbrev pub invariant-loop-index : goal.invariant-loop-index
invariant-loop-index l =
    (senses : List Sense) (s : Sense) → HaveSenses l.functions senses → HasSense l.function s
    → length l.argument-items ≡ s.arity →
    (let names = reverse (map entry_of l.entries) in
    let rest = gathered (map values.term_of (drop l.index l.argument-items)) in
    let whole = gathered (map values.term_of l.argument-items) in
    record {
      combination : l.all.combination + 3 ^ l.index * kinds_number (kinds_in senses names rest)
          ≡ kinds_number (kinds_in senses names whole);
      size : l.function.is_oversized ≡ false
          → IsSameSize
          (l.all.size
          + size_of_arguments (factor_of s.formula) l.index (sizes_in senses names rest))
          (size_with s (sizes_in senses names whole));
      fault : or_else l.all.fault (first_among senses names l.from l.under s.is_under l.index rest)
          ≡ first_among senses names l.from l.under s.is_under 0 whole;
    })
