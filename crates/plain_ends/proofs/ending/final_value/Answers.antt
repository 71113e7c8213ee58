use Rattle.std.proofs.Common.{List, Contains, subst}
use Rattle.text_values.specs.TestValue.{content_of}
use Rattle.meaning.specs.Names.{Name}
use Rattle.plain_executions.specs.Executions.{execution_as}
use Rattle.plain_ends.proofs.Finals.{no_location}
use Rattle.plain_ends.proofs.ending.final_value.Goals as goal

pub returns-in-None : goal.returns-in-None
returns-in-None c =
    no_location (content_of c.args.test.now) (execution_as c.args.execution.now) c.args.location.now
    (subst (λ (ns : List Name). Contains ns c.args.location.now → ⊥) c.requires.locations c.in-None.ensures)
