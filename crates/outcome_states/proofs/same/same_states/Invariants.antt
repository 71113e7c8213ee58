use Rattle.std.proofs.Common.{ℕ, ◌≡◌, ◌<◌, get_or}
use Rattle.outcome_states.specs.EvaluationContent.{StateContent}
use Rattle.outcome_states.proofs.same.same_states.Given as goal

abbrev pub invariant-loop-index : goal.invariant-loop-index
invariant-loop-index l =
    (k : ℕ) (d : StateContent) → k < l.index → get_or l.left k d ≡ get_or l.right k d
