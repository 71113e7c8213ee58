use Rattle.std.proofs.Common.{◌≡◌, ◌++◌, ◌∷◌, [], List, sym, ap, ◌∙◌}
use Rattle.std.proofs.lemmas.List.Elements.{All-push, All-same}
use Rattle.std.proofs.lemmas.List.{append-nil}
use Rattle.std.proofs.lemmas.Map.Iter.{rest_more}
use Rattle.outcome_states.specs.Compiled.{value_of}
use Rattle.outcome_states.specs.Counting.{pairs_of, pairs_in}
use Rattle.verdict.specs.Evaluated.{IsWorded}
use Rattle.outcome_states.specs.Text.{state_text}
use Rattle.outcome_states.specs.declared.answer.CountedState.{CountedState}
use Rattle.outcome_states.specs.declared.answer.FinalValue.{FinalValue}
use Rattle.verdict.proofs.Evaluations.{one_more_state, states_rise}
use Rattle.outcome_states.proofs.Tallies.{Entries}
use Rattle.verdict.proofs.judgement.counted_states.Goals as goal

pub loop-values-preserved : goal.loop-values-preserved
loop-values-preserved c =
    let s : CountedState = record { values = c.in-Some.values.items; text = c.in_ok-text.text.items; count = c.in-Some.count; holds = c.satisfies-holds.result } in
    let pushed : c.push.new.self.items ≡ c.loop-values.states.items ++ s ∷ [] = c.in_ok-push.ensures.items in
    let prefix : c.loop-values.values-iterator ≡ (c.in-Some.values, c.in-Some.count) ∷ c.next.new.self = rest_more (λ x. x) c.loop-values.values-iterator c.next.new.self c.next.result (c.in-Some.values, c.in-Some.count) c.in-Some.is c.next.ensures.steps in (
      ap (λ (l : List CountedState). pairs_of l ++ pairs_in c.next.new.self) pushed
          ∙ one_more_state c.loop-values.states.items s (pairs_in c.next.new.self)
          ∙ ap (λ (l : Entries). pairs_of c.loop-values.states.items ++ pairs_in l) (sym prefix)
          ∙ c.loop-values.invariant.0,
      All-same (IsWorded c.args.locations.now c.args.observables.now c.args.formula.now)
          c.push.new.self.items (c.loop-values.states.items ++ s ∷ []) pushed
          (All-push (IsWorded c.args.locations.now c.args.observables.now c.args.formula.now)
          c.loop-values.states.items s c.loop-values.invariant.1 (
            c.in_ok-text.ensures
                ∙ ap (state_text c.args.locations.now c.args.observables.now) c.deref.ensures.value,
            c.satisfies-holds.ensures
                ∙ ap (λ (v : List FinalValue). value_of v c.args.formula.now)
                c.deref-in-loop-values.ensures.value,
          )),
    )

pub returns-clause-rising : goal.returns-clause-rising
returns-clause-rising c = states_rise c.loop-values.states.items c.args.counts.entries
    (sym (append-nil (pairs_of c.loop-values.states.items))
    ∙ ap (λ (l : Entries). pairs_of c.loop-values.states.items ++ pairs_in l)
    (sym c.in-None.ensures.steps.0) ∙ c.loop-values.invariant.0)
    c.into_iter-values-iterator.ensures.into_iter_gives.5
