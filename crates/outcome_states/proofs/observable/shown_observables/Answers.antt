use Rattle.std.proofs.Common.{rules, arith, ◌≡◌, [], ◌∷◌, IfOk, subst, Vec, Global}
use Rattle.std.proofs.lemmas.Result.{IfOk-weaker}
use Rattle.text_values.specs.TestValue.{formula_of}
use Rattle.text_values.specs.declared.test.Place.{Place}
use Rattle.outcome_states.specs.Meaning.{observables_of}
use Rattle.outcome_states.specs.Shown.{known_observables, AddsObservables}
use Rattle.outcome_states.specs.declared.observable.Observable.{Observable}
use Rattle.outcome_states.proofs.Observables.{one_observable_more, all_shown}
use Rattle.outcome_states.proofs.observable.shown_observables.Goals as goal

pub loop-observable-preserved : goal.loop-observable-preserved
loop-observable-preserved c =
    one_observable_more c.args.locations.now c.loop-observable.shown.keys c.add_observable.new.shown.keys
    (observables_of (formula_of c.args.proposition.now)) c.args.observed.now c.loop-observable.observable-index
    c.observable-item.result c.loop-observable-test.true c.loop-observable.invariant
    (subst
    (λ (x : Place). AddsObservables c.loop-observable.shown.keys c.add_observable.new.shown.keys
    (known_observables c.args.locations.now (x ∷ []))) c.observable-item.is
    c.in_ok-add_observable.ensures)

pub returns : goal.returns
returns c =
    let listed : IfOk c.collect.result (λ v. v.items ≡ c.loop-observable.shown.keys) = search rules in
    IfOk-weaker c.collect.result (λ (v : Vec Observable Global). v.items ≡ c.loop-observable.shown.keys)
    _
    (λ v same. all_shown c.args.locations.now (observables_of (formula_of c.args.proposition.now))
    c.args.observed.now c.loop-observable.observable-index c.loop-observable.shown.keys v.items
    (omega arith) same c.iter.ensures.ordered c.loop-observable.invariant)
    listed
