use Rattle.std.proofs.Common.{take, Contains}
use Rattle.plain_ends.specs.Ends.{values_as}
use Rattle.plain_outcomes.specs.States.{ends_as}
use Rattle.plain_outcomes.proofs.states.answer_in.Given as goal

abbrev pub invariant-loop-end : goal.invariant-loop-end
invariant-loop-end l = Contains (take l.end-index (ends_as l.ends)) (values_as l.values) → ⊥
