use Rattle.text_values.specs.TestValue.{content_of}
use Rattle.plain_executions.specs.Executions.{execution_as}
use Rattle.plain_ends.proofs.Finals.{location_ends}
use Rattle.plain_ends.proofs.ending.ending.Goals as goal

pub returns-in-Location : goal.returns-in-Location
returns-in-Location c =
    location_ends (content_of c.args.test.now) (execution_as c.args.execution.now) c.args.observable.now
    c.as_bytes.result.now c.in-Location.location c.final_value.result c.in-Location.is c.as_bytes.ensures
    c.final_value.ensures
