use Rattle.std.proofs.Common.{Option, sym, ap, ◌∙◌, ◌-◌, take, arith}
use Rattle.std.specs.Option.{unwrap_or}
use Rattle.thread_runs.specs.declared.value.Value.{Value}
use Rattle.outcome_states.specs.Ends.{final_word}
use Rattle.outcome_states.proofs.Finals.{word_less}
use Rattle.outcome_states.proofs.final_states.final_word.Goals as goal

pub stores-preserved : goal.stores-preserved
stores-preserved c =
    let before : Value = final_word c.args.combination.now (take (c.stores.index - 1) c.args.coherence.now) c.args.location in (
      omega (arith, c.stores.invariant.0),
      c.stores.invariant.1
          ∙ word_less c.args.combination.now c.args.coherence.now c.stores.index c.args.location
          c.stores-test.true c.stores.invariant.0
          ∙ ap (λ (o : Option Value). unwrap_or o before)
          (rw c.deref.ensures.value at (sym c.value_stored_at.ensures) ∙ c.in_default.is),
    )

pub returns-in-Some : goal.returns-in-Some
returns-in-Some c =
    let before : Value = final_word c.args.combination.now (take (c.stores.index - 1) c.args.coherence.now) c.args.location in
    sym (c.stores.invariant.1
    ∙ word_less c.args.combination.now c.args.coherence.now c.stores.index c.args.location
    c.stores-test.true c.stores.invariant.0
    ∙ ap (λ (o : Option Value). unwrap_or o before)
    (rw c.deref.ensures.value at (sym c.value_stored_at.ensures) ∙ c.in-Some.is))
