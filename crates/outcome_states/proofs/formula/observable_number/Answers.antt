use Rattle.std.proofs.Common.{arith, sym, ◌∙◌, below_more, get_or}
use Rattle.outcome_states.specs.Order.{is_observable}
use Rattle.outcome_states.specs.declared.observable.Observable.TheVariants.{Register}
use Rattle.outcome_states.proofs.Orders.{observable_eq_is}
use Rattle.outcome_states.proofs.Observables.{first_found, none_found}
use Rattle.outcome_states.proofs.formula.observable_number.Goals as goal

pub loop-i-preserved : goal.loop-i-preserved
loop-i-preserved c =
    below_more _ _ c.loop-i.invariant (sym (observable_eq_is c.args.observable
    (get_or c.args.observables.now c.loop-i.i (Register 0 0))) ∙ sym c.eq.ensures
    ∙ c.if-eq.false)

pub returns-then-eq : goal.returns-then-eq
returns-then-eq c =
    sym (first_found (is_observable c.args.observable) c.args.observables.now c.loop-i.i (Register 0 0)
    c.loop-i-test.true c.loop-i.invariant
    (sym (observable_eq_is c.args.observable (get_or c.args.observables.now c.loop-i.i (Register 0 0)))
    ∙ sym c.eq.ensures ∙ c.if-eq.true))

pub returns : goal.returns
returns c =
    sym (none_found (is_observable c.args.observable) c.args.observables.now (Register 0 0)
    (λ k lt. c.loop-i.invariant k (omega arith)))
