use Rattle.std.proofs.Common.{◌≡◌, ℕ, ◌+◌, ◌<◌, ◌≤◌, get_or, ◌-◌, ◌^◌, min, Bool, List, [], take, length, refl, sym, ap, subst, ◌∙◌}
use Rattle.std.proofs.lemmas.List.{take_all}
use Rattle.store_orders.specs.Combinations.{candidates_of}
use Rattle.candidate_spaces.specs.Space.{candidates_in}
use Rattle.store_orders.specs.declared.combination.Combination.{Combination}
use Rattle.outcome_states.specs.Counting.{Counts, count_kept}
use Rattle.outcome_states.specs.Ends.{candidate_final_state}
use Rattle.outcome_states.specs.Order.{is_state}
use Rattle.outcome_states.specs.declared.answer.FinalValue.{FinalValue}
use Rattle.outcome_states.proofs.Columns.{none_kept, one_more_counted, after_one_more}
use Rattle.outcome_states.proofs.Endings.{counts_shown}
use Rattle.outcome_states.proofs.Tallies.{Entries, no_more_counted, counted_twice, from_nothing, above_from_nothing}
use Rattle.outcome_states.proofs.final_states.final_states.Goals as goal

pub loop-combination-init : goal.loop-combination-init
loop-combination-init c = (
  refl,
  subst
      (λ (l : Entries). Counts [] l (λ v. count_kept
      (λ x. is_state v (candidate_final_state c.args.space.now c.args.observables.now x)) c.args.kept.now
      []))
      (sym c.new.ensures.empty)
      (no_more_counted [] _ (λ v. none_kept
      (λ x. is_state v (candidate_final_state c.args.space.now c.args.observables.now x))
      c.args.kept.now)),
)

pub loop-combination-preserved : goal.loop-combination-preserved
loop-combination-preserved c =
    let test : List FinalValue → Combination × (List ℕ × List ℕ) → Bool = λ v x. is_state v (candidate_final_state c.args.space.now c.args.observables.now x) in
    let so_far : List FinalValue → ℕ → ℕ = λ v i. count_kept (test v) c.args.kept.now (candidates_in (take i c.args.space.now.combinations.items)) in
    let e : Combination = c.combination-item.result in
    let lt : c.loop-combination.combination-index < length c.args.space.now.combinations.items = subst (λ (l : List Combination). c.loop-combination.combination-index < length l) c.deref-combination-items.ensures.value c.loop-combination-test.true in
    let is : e ≡ get_or c.args.space.now.combinations.items c.loop-combination.combination-index e = subst (λ (l : List Combination). e ≡ get_or l c.loop-combination.combination-index e) c.deref-combination-items.ensures.value c.combination-item.is in (
      c.kept_after-rest.ensures
          ∙ after_one_more c.args.kept.now c.loop-combination.rest.now
          c.args.space.now.combinations.items c.loop-combination.combination-index e lt is
          c.loop-combination.invariant.0,
      counted_twice [] c.loop-combination.tally.counts.entries
          c.count_combination.new.tally.counts.entries
          (λ v. so_far v c.loop-combination.combination-index)
          (λ v. count_kept (λ t. test v (e, t)) c.loop-combination.rest.now (candidates_of e))
          (λ v. so_far v (c.loop-combination.combination-index + 1))
          c.loop-combination.invariant.1 c.in_ok-count_combination.ensures
          (λ v.
          one_more_counted (test v) c.args.kept.now c.args.space.now.combinations.items
          c.loop-combination.combination-index e lt is
          ∙ ap
          (λ (l : List Bool). so_far v c.loop-combination.combination-index
          + count_kept (λ t. test v (e, t)) l (candidates_of e))
          (sym c.loop-combination.invariant.0)),
    )

pub returns-clause-above : goal.returns-clause-above
returns-clause-above c =
    above_from_nothing c.loop-combination.tally.counts.entries _ c.loop-combination.invariant.1

pub returns-clause-tally : goal.returns-clause-tally
returns-clause-tally c = λ v.
    let past : length c.args.space.now.combinations.items ≤ c.loop-combination.combination-index = subst (λ (l : List Combination). length l ≤ c.loop-combination.combination-index) c.deref-combination-items.ensures.value c.loop-combination-test.false in
    from_nothing c.loop-combination.tally.counts.entries _ c.loop-combination.invariant.1 v
    ∙ ap (λ (cs : List Combination). min
    (count_kept (λ x. is_state v (candidate_final_state c.args.space.now c.args.observables.now x))
    c.args.kept.now (candidates_in cs))
    (2 ^ 64 - 1))
    (take_all c.loop-combination.combination-index c.args.space.now.combinations.items past)
    ∙ ap (λ (n : ℕ). min n (2 ^ 64 - 1)) (counts_shown c.args.space.now c.args.observables.now
    c.args.kept.now v)
