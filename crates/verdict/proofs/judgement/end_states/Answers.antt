use Rattle.std.proofs.Common.{◌≡◌, ℕ, ◌-◌, ◌^◌, ◌++◌, min, List, ap, ◌∙◌, subst}
use Rattle.std.specs.List.{All}
use Rattle.text_values.specs.TestValue.{Formula, formula_of}
use Rattle.candidate_spaces.specs.Space.{shown_in}
use Rattle.outcome_states.specs.Compiled.{Compiles}
use Rattle.outcome_states.specs.Counting.{count_kept, tally}
use Rattle.verdict.specs.Evaluated.{IsWorded}
use Rattle.outcome_states.specs.Final.{final_state}
use Rattle.outcome_states.specs.Meaning.{observables_of}
use Rattle.outcome_states.specs.Order.{is_state}
use Rattle.outcome_states.specs.Shown.{AreShown}
use Rattle.outcome_states.specs.declared.answer.FinalValue.{FinalValue}
use Rattle.outcome_states.specs.declared.observable.Observable.{Observable}
use Rattle.verdict.proofs.judgement.end_states.Goals as goal

pub returns : goal.returns
returns c =
    let p : Formula = formula_of c.args.condition.now.proposition in
    let are : AreShown c.args.space.now.locations.items (observables_of p ++ c.args.observed.now) c.in_ok-observables.observables.items = subst (λ (l : List (List ℕ)). AreShown l (observables_of p ++ c.args.observed.now) c.in_ok-observables.observables.items) c.deref.ensures.value c.in_ok-observables.ensures in
    let means : Compiles c.args.space.now.locations.items c.in_ok-observables.observables.items p c.in_ok-formula.formula =
    subst
    (λ (l : List Observable).
    Compiles c.args.space.now.locations.items l p c.in_ok-formula.formula)
    c.deref-2.ensures.value
    (subst (λ (l : List (List ℕ)). Compiles l c.deref-2.result.now p c.in_ok-formula.formula)
    c.deref-3.ensures.value c.in_ok-formula.ensures) in
    let tallies : (v : List FinalValue) → tally c.in_ok-counts.counts.entries v ≡ min (count_kept (λ x. is_state v (final_state c.in_ok-observables.observables.items x)) c.args.kept.now (shown_in c.args.space.now)) (2 ^ 64 - 1) = λ v.
    c.in_ok-counts.ensures.tally v
    ∙ ap
    (λ (l : List Observable). min
    (count_kept (λ x. is_state v (final_state l x)) c.args.kept.now
    (shown_in c.args.space.now))
    (2 ^ 64 - 1)) c.deref-4.ensures.value in
    let words : All (IsWorded c.args.space.now.locations.items c.in_ok-observables.observables.items c.in_ok-formula.formula) c.in_ok-states.states.items =
    subst
    (λ (l : List Observable). All
    (IsWorded c.args.space.now.locations.items l c.in_ok-formula.formula)
    c.in_ok-states.states.items) c.deref-6.ensures.value
    (subst
    (λ (l : List (List ℕ)). All (IsWorded l c.deref-6.result.now c.in_ok-formula.formula)
    c.in_ok-states.states.items) c.deref-5.ensures.value c.in_ok-states.ensures.words)
    in
    record { shown = c.in_ok-observables.observables.items; compiled = c.in_ok-formula.formula; entries = c.in_ok-counts.counts.entries; are_shown = are; means = means; tallies = tallies; above = c.in_ok-counts.ensures.above; counts = c.in_ok-states.ensures.counts; rising = c.in_ok-states.ensures.rising; words = words }
