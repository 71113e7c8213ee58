use Rattle.std.proofs.Common.{◌≡◌, ◌++◌, List, subst, sym, ap, ◌∙◌}
use Rattle.std.proofs.lemmas.Result.{on_ok_weaker}
use Rattle.text_values.specs.TestValue.{formula_of}
use Rattle.text_values.specs.declared.test.Place.{Place}
use Rattle.text_values.specs.declared.test.Proposition as code
use Rattle.outcome_states.specs.Meaning.{observables_of}
use Rattle.outcome_states.specs.Shown.{known_observables, AddsObservables}
use Rattle.outcome_states.proofs.Observables.{added_twice}
use Rattle.outcome_states.proofs.observable.+add_proposition.Goals as goal

pub returns-in_ok-add_proposition-in-Joined : goal.returns-in_ok-add_proposition-in-Joined
returns-in_ok-add_proposition-in-Joined t c =
    let both : observables_of (formula_of c.args.proposition.now) ≡ observables_of (formula_of c.deref-in-Joined.result.now) ++ observables_of (formula_of c.deref-in-Joined-2.result.now) =
    ap (λ (p : code.Proposition). observables_of (formula_of p)) c.in-Joined.is
    ∙ ap
    (λ (p : code.Proposition). observables_of (formula_of p)
    ++ observables_of (formula_of c.in-Joined.right.value))
    (sym c.deref-in-Joined.ensures)
    ∙ ap
    (λ (p : code.Proposition). observables_of (formula_of c.deref-in-Joined.result.now)
    ++ observables_of (formula_of p))
    (sym c.deref-in-Joined-2.ensures) in
    on_ok_weaker c.add_proposition-in-Joined-2.result
    (λ more. subst
    (λ (l : List Place). AddsObservables c.args.shown.now.keys c.add_proposition-in-Joined-2.new.shown.keys
    (known_observables c.args.locations.now l))
    (sym both)
    (added_twice c.args.locations.now c.args.shown.now.keys
    c.add_proposition-in-Joined.new.shown.keys c.add_proposition-in-Joined-2.new.shown.keys
    (observables_of (formula_of c.deref-in-Joined.result.now))
    (observables_of (formula_of c.deref-in-Joined-2.result.now))
    c.in_ok-add_proposition-in-Joined.ensures more))
    c.add_proposition-in-Joined-2.ensures
