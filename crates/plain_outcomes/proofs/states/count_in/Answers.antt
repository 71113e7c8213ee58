use Rattle.std.proofs.Common.{◌≡◌, ◌↔◌, ◌+◌, ℕ, IsTrue, take, get_or, sym, subst, arith}
use Rattle.std.proofs.lemmas.Bool.{iff_false}
use Rattle.plain_ends.specs.declared.ending.End.{End}
use Rattle.plain_ends.specs.Ends.{values_as}
use Rattle.plain_outcomes.specs.States.{end_state, HaveCount}
use Rattle.plain_outcomes.proofs.Counting.{have_more, have_as_many, have_all}
use Rattle.plain_outcomes.proofs.Ordering.{at_end}
use Rattle.plain_outcomes.proofs.states.count_in.Goals as goal
use Rattle.plain_outcomes.proofs.states.count_in.Goals.{then-is_same_state, else-is_same_state}

pub loop-end-preserved : goal.loop-end-preserved
loop-end-preserved c =
    let ends = c.args.ends.now in
    let s = values_as c.args.values.now in
    let k = c.loop-end.end-index in
    let item = c.end-item.result in
    let same : IsTrue c.is_same_state.result ↔ (end_state (get_or ends k item) ≡ s) = at_end ends k item c.deref.result.now s c.is_same_state.result c.end-item.is c.deref.ensures.value c.is_same_state.ensures in
    elim c.if-is_same_state.branch [
      | then-is_same_state w ↦ record {
        bound = omega (arith, c.loop-end.invariant.bound, w.count-is);
        counted = subst (λ (n : ℕ). HaveCount (λ (e : End). end_state e ≡ s) (take (k + 1) ends) n) (sym w.count-is)
            (have_more (λ (e : End). end_state e ≡ s) ends k c.loop-end.count item c.loop-end-test.true c.loop-end.invariant.counted (same.0 w.if-is_same_state.true));
      }
      | else-is_same_state w ↦ record {
        bound = omega (arith, c.loop-end.invariant.bound, w.count-is);
        counted = subst (λ (n : ℕ). HaveCount (λ (e : End). end_state e ≡ s) (take (k + 1) ends) n) (sym w.count-is)
            (have_as_many (λ (e : End). end_state e ≡ s) ends k c.loop-end.count item c.loop-end-test.true c.loop-end.invariant.counted (iff_false same w.if-is_same_state.false));
      }
    ]

pub returns : goal.returns
returns c =
    have_all (λ (e : End). end_state e ≡ values_as c.args.values.now) c.args.ends.now c.loop-end.end-index
    c.loop-end.count c.loop-end-test.false c.loop-end.invariant.counted
