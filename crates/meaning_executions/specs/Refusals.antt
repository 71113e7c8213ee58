-- The bounds of a test and those of its program, before the executions. Read next: Counts.
use Rattle.std.specs.Prelude.{ℕ, ◌≤◌}
use Rattle.text_values.specs.TestValue.{Content}
use Rattle.thread_runs.specs.declared.instruction.Program.{Program}
use Rattle.ppc_lowering.specs.Domain as program
use Rattle.ppc_lowering.specs.Domain.{IsBoundedRound, IsDomainRefusal, event_total, load_total}
use Rattle.ppc_lowering.specs.declared.fault.EvalRefusal.{EvalRefusal}
use Rattle.ppc_lowering.specs.declared.fault.EvalRefusal.TheVariants as by_program
use Rattle.meaning.specs.Refusals.{Refusal, TooManyEvents, TooManyValues, TooManyRuns, TooManyCandidates, AddressFault, TooManyCombinations, IsRefusedAt, IsRefusal, HasDomain}

-- After so many rounds the test and its program pass the same bounds, or both keep them.
pub record AreRoundsAlike (t : Content) (p : Program) (k : ℕ) : Type 0 where
  pub values : program.HasManyValues p k → IsRefusedAt t k TooManyValues
  pub runs : program.HasManyRuns p k → IsRefusedAt t k TooManyRuns
  pub bounded : IsBoundedRound p k → (r : Refusal) → IsRefusedAt t k r → ⊥

-- For what the rounds of the program are refused, the test is refused; where the program keeps all
-- their bounds, the test does.
pub record AreRefusedAlike (t : Content) (p : Program) : Type 0 where
  pub events : IsDomainRefusal p by_program.TooManyEvents → IsRefusal t TooManyEvents
  pub values : IsDomainRefusal p by_program.TooManyValues → IsRefusal t TooManyValues
  pub runs : IsDomainRefusal p by_program.TooManyRuns → IsRefusal t TooManyRuns
  pub domain : event_total p ≤ 128 → ((k : ℕ) → k ≤ load_total p → IsBoundedRound p k)
      → HasDomain t

-- the refusal of a test, by its name
abbrev pub refusal_by_name : EvalRefusal → Refusal
refusal_by_name by_program.TooManyEvents = TooManyEvents
refusal_by_name by_program.TooManyValues = TooManyValues
refusal_by_name by_program.TooManyRuns = TooManyRuns
refusal_by_name by_program.TooManyCandidates = TooManyCandidates
refusal_by_name by_program.AddressFault = AddressFault
refusal_by_name by_program.TooManyCombinations = TooManyCombinations
