use Rattle.std.proofs.Common.{ℕ, ◌≡◌, subst, arith}
use Rattle.candidate_spaces.specs.Space.{candidate_count}
use Rattle.why_forbidden.specs.Outcomes.{NoCandidate}
use Rattle.why_forbidden.specs.Views.{AreFoundOf, case_of}
use Rattle.why_forbidden.proofs.Gathering.{few_more, found_more}
use Rattle.why_forbidden.proofs.answer.findings_of.Goals as goal

pub loop-candidate-init : goal.loop-candidate-init
loop-candidate-init c = record {
  found = rw (c.new.ensures.items, c.new-2.ensures.items) NoCandidate;
  few = omega arith;
}

pub loop-candidate-preserved : goal.loop-candidate-preserved
loop-candidate-preserved c =
    let case = case_of c.args.test.now c.args.space.now c.args.judged c.args.is_deep in
    let k : ℕ = c.loop-candidate.candidate in
    let old = c.loop-candidate.findings in
    let new = c.add_outcome.new.findings in
    let outcome = c.in_ok-outcome.outcome in
    record {
      found =
          found_more case k old new outcome c.loop-candidate.invariant.found c.in_ok-outcome.ensures
          c.in_ok-add_outcome.ensures;
      few = few_more k old new outcome c.loop-candidate.invariant.few c.in_ok-add_outcome.ensures;
    }

pub returns : goal.returns
returns c =
    let case = case_of c.args.test.now c.args.space.now c.args.judged c.args.is_deep in
    let all : c.loop-candidate.candidate ≡ candidate_count c.args.space.now = omega arith in
    subst (λ (k : ℕ). AreFoundOf case k c.loop-candidate.findings) all
    c.loop-candidate.invariant.found
