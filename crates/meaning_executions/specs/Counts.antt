-- The list of the executions of a program, and the executions of its test. Read next: Names.
use Rattle.std.specs.Prelude.{List}
use Rattle.std.specs.List.{AllZip}
use Rattle.text_values.specs.TestValue.{Content}
use Rattle.candidates.specs.Executions as numbered
use Rattle.meaning.specs.Sets.{IsListOf}
use Rattle.meaning.specs.Executions.{Execution, IsExecution}
use Rattle.meaning_executions.specs.Executions.{IsSameExecution}

-- The executions of the test, each once, are one by one those of the list.
pub record AreListed (t : Content) (xs : List numbered.Execution) : Type 0 where
  pub named : List Execution
  pub all : IsListOf (IsExecution t) named
  pub same : AllZip (IsSameExecution t) xs named
