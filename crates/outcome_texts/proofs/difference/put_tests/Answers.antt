use Rattle.std.proofs.Common.{◌<◌, ◌++◌, true, false, length, map, sym, ap, ◌∙◌, arith}
use Rattle.std.proofs.lemmas.List.{take_all}
use Rattle.std.specs.List.{flat_map, filter}
use Rattle.outcome_texts.specs.Differences.{pair_of, is_told_apart, test_difference}
use Rattle.outcome_texts.proofs.Loops.{printed_mapped, counted_mapped}
use Rattle.outcome_texts.proofs.difference.put_tests.Goals as goal
use Rattle.outcome_texts.proofs.difference.put_tests.Goals.{then-is_told, else-is_told}

pub loop-test-preserved : goal.loop-test-preserved
loop-test-preserved c =
    let tests = c.args.tests.now in
    let i = c.loop-test.test-index in
    let inside : i < length tests = omega (arith, c.loop-test-test.true) in
    let m = c.loop-test.invariant in
    let one = c.in_ok-is_told.ensures in
    let printed = printed_mapped (λ t. test_difference (is_told_apart t) t) pair_of _ _ _ tests i c.test-item.result inside c.test-item.is m.2 one.1 in
    elim c.if-is_told.branch [
      | then-is_told w ↦ rw w.count-is (
        omega (arith, m.0),
        counted_mapped is_told_apart pair_of c.loop-test.count tests i c.test-item.result true
            inside c.test-item.is (sym w.if-is_told.true ∙ one.0) m.1,
        printed,
      )
      | else-is_told w ↦ rw w.count-is (
        omega (arith, m.0),
        counted_mapped is_told_apart pair_of c.loop-test.count tests i c.test-item.result
            false inside c.test-item.is (sym w.if-is_told.false ∙ one.0) m.1,
        printed,
      )
    ]

pub returns : goal.returns
returns c =
    let all = take_all c.loop-test.test-index c.args.tests.now (omega (arith, c.loop-test-test.false)) in
    let m = c.loop-test.invariant in (
      m.1 ∙ ap (λ ts. length (filter is_told_apart (map pair_of ts))) all,
      m.2
          ∙ ap
          (λ ts. c.args.text.now.items
          ++ flat_map (λ t. test_difference (is_told_apart t) t) (map pair_of ts))
          all,
    )
