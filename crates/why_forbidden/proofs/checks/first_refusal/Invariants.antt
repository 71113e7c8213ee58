use Rattle.why_forbidden.specs.Checked.{AcceptBelow}
use Rattle.why_forbidden.proofs.checks.first_refusal.Given as goal

abbrev pub invariant-loop-index : goal.invariant-loop-index
invariant-loop-index l = AcceptBelow l.checks l.candidate l.index
