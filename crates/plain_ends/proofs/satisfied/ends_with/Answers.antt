use Rattle.std.proofs.Common.{◌≡◌, ◌↔◌, Option, IsTrue, subst}
use Rattle.text_values.specs.TestValue.{content_of}
use Rattle.meaning.specs.Machine as machine
use Rattle.meaning.specs.Outcome.{EndsWith}
use Rattle.plain_machine.specs.declared.value.Value.{Value}
use Rattle.plain_machine.specs.Values.{value_as}
use Rattle.plain_executions.specs.Executions.{execution_as}
use Rattle.plain_ends.specs.Ends.{IsEnding}
use Rattle.plain_ends.proofs.Satisfying.{found_is, nothing_is}
use Rattle.plain_ends.proofs.satisfied.ends_with.Goals as goal

pub returns-in-Some : goal.returns-in-Some
returns-in-Some c =
    let t = content_of c.args.test.now in
    let x = execution_as c.args.execution.now in
    found_is c.in-Some.found (machine.value_of c.args.value.now) c.is_same_value.result
    (EndsWith t x c.args.place.now)
    (subst (λ (o : Option Value). IsEnding t x c.args.place.now o) c.in-Some.is c.ending.ensures)
    (subst (λ (v : machine.Value). IsTrue c.is_same_value.result ↔ (value_as c.in-Some.found ≡ v)) c.written.ensures c.is_same_value.ensures)

pub returns-in-None : goal.returns-in-None
returns-in-None c =
    let t = content_of c.args.test.now in
    let x = execution_as c.args.execution.now in
    nothing_is (machine.value_of c.args.value.now) (EndsWith t x c.args.place.now)
    (subst (λ (o : Option Value). IsEnding t x c.args.place.now o) c.in-None.is c.ending.ensures)
