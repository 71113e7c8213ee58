use Rattle.std.proofs.Common.{◌-◌, ◌^◌, ◌≤◌, min, List, true, false, length, ap, ◌∙◌, arith}
use Rattle.text_values.specs.TestValue.{Formula, formula_of}
use Rattle.candidate_spaces.specs.Space.{shown_in}
use Rattle.verdict.specs.Evaluated.{AreEndStates}
use Rattle.verdict.specs.Judgement.{is_same_truth, total_of}
use Rattle.outcome_states.specs.Kept.{of_raised}
use Rattle.outcome_states.specs.Meaning.{observables_of}
use Rattle.outcome_states.specs.declared.answer.CountedState.{CountedState}
use Rattle.outcome_states.specs.declared.answer.Evaluation.{Evaluation}
use Rattle.verdict.proofs.Evaluations.{says, shows_all}
use Rattle.verdict.proofs.judgement.evaluation.Goals as goal

pub returns-clause-said : goal.returns-clause-said
returns-clause-said c = λ checks given.
    let keep = c.args.kept.now in
    let p : Formula = formula_of c.args.condition.now.proposition in
    let ends : AreEndStates c.args.space.now.locations.items (shown_in c.args.space.now) p c.args.observed.now keep c.in_ok-states.states.items = c.in_ok-states.ensures in
    let e : Evaluation = record { states = c.in_ok-states.states.items; positive = c.total-positive.result; negative = c.total-negative.result; observation = c.observation.result; ok = c.is_met.result; flags = c.in_ok-raised_names.field-0.items } in
    let fits : length (shown_in c.args.space.now) ≤ 2 ^ 64 - 1 = omega (arith, given.long) in (
      ends.shown,
      ends.are_shown,
      says c.args.space.now.locations.items (shown_in c.args.space.now)
          c.args.condition.now.quantifier p ends.shown checks (of_raised c.args.flags.now) keep
          ends.compiled e ends.entries
          fits given.long given.each ends.tallies ends.above
          ends.counts ends.rising ends.words
          ends.means (shows_all c.args.space.now.locations.items (observables_of p) c.args.observed.now
          ends.shown ends.are_shown)
          (c.total-positive.ensures
          ∙ ap
          (λ (l : List CountedState).
          min (total_of (λ s. is_same_truth s.holds true) l) (2 ^ 64 - 1))
          c.deref.ensures.value)
          (c.total-negative.ensures
          ∙ ap
          (λ (l : List CountedState).
          min (total_of (λ s. is_same_truth s.holds false) l) (2 ^ 64 - 1))
          c.deref-2.ensures.value)
          c.in_ok-raised_names.ensures
          (c.observation.ensures, c.is_met.ensures),
    )
