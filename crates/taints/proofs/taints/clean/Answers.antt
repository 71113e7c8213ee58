use Rattle.std.proofs.Common.{ℕ, ◌+◌, ◌≡◌, sym, subst, arith, length}
use Rattle.thread_runs.specs.Runs.{executed}
use Rattle.taints.specs.declared.taints.Taints.{Taints}
use Rattle.taints.specs.Taints.{IsWrittenBetween}
use Rattle.taints.proofs.ReachLoop.{instruction_at}
use Rattle.taints.proofs.Cleaning.{cleaned_next, all_clean}
use Rattle.taints.proofs.taints.clean.Goals as goal

pub loop-step-preserved : goal.loop-step-preserved
loop-step-preserved c =
    subst
    (λ (t : Taints). IsWrittenBetween (executed c.args.steps.now) (c.loop-step.step-index + 1)
    (length c.args.steps.now) t)
    (sym c.write.ensures)
    (cleaned_next (executed c.args.steps.now) c.loop-step.step-index (length c.args.steps.now) _
    c.loop-step.taints
    (instruction_at c.args.steps.now c.loop-step.step-index _ c.loop-step-test.true)
    c.loop-step.invariant)

pub returns : goal.returns
returns c =
    let full : c.loop-step.step-index ≡ length c.args.steps.now = omega (arith, c.loop-step-test.false, c.loop-step.auto.step-index-end) in
    all_clean (executed c.args.steps.now) (length c.args.steps.now) c.loop-step.taints
    (subst
    (λ (k : ℕ). IsWrittenBetween (executed c.args.steps.now) k (length c.args.steps.now)
    c.loop-step.taints) full c.loop-step.invariant)
