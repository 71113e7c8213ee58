use Rattle.std.proofs.Common.{map, take, Contains}
use Rattle.text_values.specs.ModelValues.{clauses_of}
use Rattle.text_values.specs.TestValue.{content_of}
use Rattle.meaning.specs.Evaluates.{IsKept}
use Rattle.plain_executions.specs.Executions.{execution_as}
use Rattle.plain_outcomes.specs.Kept.{AreEndsOf}
use Rattle.plain_outcomes.proofs.kept.kept_of.Given as goal

abbrev pub invariant-loop-execution : goal.invariant-loop-execution
invariant-loop-execution l =
    AreEndsOf (content_of l.test) (clauses_of l.items)
    (λ x. Contains (take l.execution-index (map execution_as l.executions)) x × IsKept (content_of l.test) (clauses_of l.items) x)
    l.kept
