use Rattle.std.proofs.Common.{◌≡◌, ℕ, ◌+◌, ◌-◌, map, reverse, drop, ap, ◌∙◌, arith}
use Rattle.text_values.specs.ModelValue.{gathered}
use Rattle.text_values.specs.ModelValues.{term_of}
use Rattle.binding_kinds.specs.Value.{entry_of}
use Rattle.binding_kinds.specs.Combinations.{kinds_number}
use Rattle.binding_kinds.specs.Senses.{kinds_in}
use Rattle.fault_texts.proofs.Own.{combined_before}
use Rattle.fault_texts.proofs.application.combination_of.Goals as goal

pub arguments-preserved : goal.arguments-preserved
arguments-preserved c =
    let within = c.arguments.invariant.within in
    let some = c.arguments-test.true in
    let before : c.arguments.end ≡ c.arguments.end - 1 + 1 = omega (arith, some) in
    record {
      within = omega (arith, within, some);
      combined = λ ss kept few.
          let names = reverse (map entry_of c.args.entries.now) in
          let xs = c.args.arguments.now in
          combined_before ss names xs (c.arguments.end - 1) c.index-arguments-end.result
          c.judge-judged.result.kind c.arguments.combination c.saturating_add-combination.result
          (omega (arith, within, some)) few c.index-arguments-end.is
          (c.judge-judged.ensures.kind_in ss kept)
          (c.arguments.invariant.combined ss kept few
          ∙ ap
          (λ (n : ℕ).
          kinds_number (kinds_in ss names (gathered (map term_of (drop n xs)))))
          before)
          (λ small. omega (
            arith,
            small,
            c.saturating_mul.ensures,
            c.saturating_add-combination.ensures,
            c.digit-digit.ensures.value,
            c.digit-digit.ensures.small,
          ));
    }
