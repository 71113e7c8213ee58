use Rattle.std.proofs.Common.{◌≡◌, ◌↔◌, ◌+◌, ℕ, IsTrue, take, get_or, sym, subst, arith}
use Rattle.std.proofs.lemmas.Bool.{iff_false}
use Rattle.plain_ends.specs.declared.ending.End.{End}
use Rattle.plain_outcomes.specs.States.{HaveCount}
use Rattle.plain_outcomes.proofs.Counting.{have_more, have_as_many, have_all}
use Rattle.plain_outcomes.proofs.states.count_holding.Goals as goal
use Rattle.plain_outcomes.proofs.states.count_holding.Goals.{then-is_same_answer, else-is_same_answer}

pub loop-end-preserved : goal.loop-end-preserved
loop-end-preserved c =
    let ends = c.args.ends.now in
    let k = c.loop-end.end-index in
    let item = c.end-item.result in
    let same : IsTrue c.is_same_answer.result ↔ ((get_or ends k item).holds ≡ c.args.holds) = subst (λ (e : End). IsTrue c.is_same_answer.result ↔ (e.holds ≡ c.args.holds)) c.end-item.is c.is_same_answer.ensures in
    elim c.if-is_same_answer.branch [
      | then-is_same_answer w ↦ record {
        bound = omega (arith, c.loop-end.invariant.bound, w.count-is);
        counted = subst (λ (n : ℕ). HaveCount (λ (e : End). e.holds ≡ c.args.holds) (take (k + 1) ends) n) (sym w.count-is)
            (have_more (λ (e : End). e.holds ≡ c.args.holds) ends k c.loop-end.count item c.loop-end-test.true c.loop-end.invariant.counted (same.0 w.if-is_same_answer.true));
      }
      | else-is_same_answer w ↦ record {
        bound = omega (arith, c.loop-end.invariant.bound, w.count-is);
        counted = subst (λ (n : ℕ). HaveCount (λ (e : End). e.holds ≡ c.args.holds) (take (k + 1) ends) n) (sym w.count-is)
            (have_as_many (λ (e : End). e.holds ≡ c.args.holds) ends k c.loop-end.count item c.loop-end-test.true c.loop-end.invariant.counted (iff_false same w.if-is_same_answer.false));
      }
    ]

pub returns : goal.returns
returns c =
    have_all (λ (e : End). e.holds ≡ c.args.holds) c.args.ends.now c.loop-end.end-index c.loop-end.count
    c.loop-end-test.false c.loop-end.invariant.counted
