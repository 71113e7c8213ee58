-- When the condition of a test holds where an execution ends, by number and by name.
use Rattle.std.specs.Prelude.{◌↔◌, List, IsTrue}
use Rattle.text_values.specs.declared.test.Test.{Test}
use Rattle.text_values.specs.TestValue.{Content, Formula, content_of}
use Rattle.thread_runs.specs.declared.instruction.Program.{Program}
use Rattle.thread_runs.specs.declared.value.Value.{Value}
use Rattle.ppc_lowering.specs.Lowering.{IsProgram}
use Rattle.candidates.specs.Executions as numbered
use Rattle.candidates.specs.Listed.{ShowsExecution}
use Rattle.candidate_spaces.specs.Space.{Shown}
use Rattle.verdict.specs.Evaluated.{is_satisfied}
use Rattle.meaning.specs.Names.{locations}
use Rattle.meaning.specs.Executions.{Execution, IsExecution}
use Rattle.meaning.specs.Outcome.{Satisfies}
use Rattle.meaning_executions.specs.Executions.{IsSameExecution, IsProgramExecution}
use Rattle.meaning_laws.specs.Words.{IsTestOfWords}

-- The candidate shows an execution of the test's program that is this one by name.
pub record IsShownAs (t : Test) (y : Execution) (e : Shown) : Type 0 where
  pub program : Program
  pub of_test : IsProgram t program
  pub values : List Value
  pub execution : numbered.Execution
  pub is : IsProgramExecution program values execution
  pub by_name : IsExecution (content_of t) y
  pub same : IsSameExecution (content_of t) execution y
  pub shows : ShowsExecution program.initial.items execution e

-- What the observables hold satisfies the proposition just where the execution does.
abbrev pub IsSatisfiedAlike : Content → Execution → Shown → Formula → Type 0
IsSatisfiedAlike t y e f = IsTrue (is_satisfied (locations t) f e) ↔ Satisfies t y f

-- So it is for the condition of a test, whose text writes numbers of 32 bits.
abbrev pub ConditionIsMeant : Type 0
ConditionIsMeant =
    (t : Test) → IsTestOfWords (content_of t) → (y : Execution) (e : Shown) → IsShownAs t y e
    → IsSatisfiedAlike (content_of t) y e (content_of t).condition
