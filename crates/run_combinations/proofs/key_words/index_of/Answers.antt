use Rattle.std.proofs.Common.{◌≡◌, true, length, get_or, arith, rules, tests, sym}
use Rattle.std.proofs.lemmas.List.Sums.{position_or_len_is}
use Rattle.thread_runs.specs.declared.value.Value.{Value}
use Rattle.run_combinations.specs.ReadChoices.{same_value}
use Rattle.run_combinations.proofs.key_words.index_of.Goals as goal

pub returns-then-is_same : goal.returns-then-is_same
returns-then-is_same c =
    let there : same_value (get_or c.args.values.now c.loop-index.index c.args.value) c.args.value ≡ true = search (rules, tests) in
    sym (position_or_len_is (λ (v : Value). same_value v c.args.value) c.args.values.now
    c.loop-index.index c.args.value (omega arith)
    (λ k lt. c.loop-index.invariant k c.args.value lt) (λ lt. there))

pub returns : goal.returns
returns c =
    let e : c.loop-index.index ≡ length c.args.values.now = omega arith in
    sym (position_or_len_is (λ (v : Value). same_value v c.args.value) c.args.values.now
    (length c.args.values.now) c.args.value (omega arith)
    (λ k lt. c.loop-index.invariant k c.args.value (omega (arith, e, lt)))
    (λ lt. absurd (omega (arith, lt))))
