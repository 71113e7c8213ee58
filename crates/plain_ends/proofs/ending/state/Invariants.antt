use Rattle.std.proofs.Common.{take}
use Rattle.std.specs.List.{AllZip}
use Rattle.text_values.specs.TestValue.{content_of}
use Rattle.meaning.specs.Outcome.{EndsWith}
use Rattle.plain_executions.specs.Executions.{execution_as}
use Rattle.plain_ends.specs.Ends.{places_as, values_as}
use Rattle.plain_ends.proofs.ending.state.Given as goal

abbrev pub invariant-loop-observable : goal.invariant-loop-observable
invariant-loop-observable l =
    AllZip (EndsWith (content_of l.test) (execution_as l.execution)) (take l.observable-index (places_as l.observables))
    (values_as l.values.items)
