use Rattle.std.proofs.Common.{◌≡◌, [], Option, Some, sym, subst}
use Rattle.std.specs.List.{cons_option}
use Rattle.outcome_states.specs.Meaning.{known_observable}
use Rattle.outcome_states.specs.Shown.{AddsObservables}
use Rattle.outcome_states.specs.declared.observable.Observable.{Observable}
use Rattle.outcome_states.proofs.Observables.{one_added}
use Rattle.outcome_states.proofs.observable.add_observable.Goals as goal

pub returns-in_ok-insert : goal.returns-in_ok-insert
returns-in_ok-insert c =
    let is : known_observable c.args.locations.now c.args.observable.now ≡ Some c.in-Some.observable = sym c.in-Some.ensures in
    subst
    (λ (o : Option Observable).
    AddsObservables c.args.shown.now.keys c.insert.new.self.keys (cons_option o []))
    (sym is)
    (one_added c.args.shown.now.keys c.insert.new.self.keys c.in-Some.observable
    c.in_ok-insert.ensures.updates.0)
