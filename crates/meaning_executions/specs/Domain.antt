-- The runs of a thread over the domain, by numbers and by names. Read next: Dependencies.
use Rattle.std.specs.Prelude.{ℕ, List, flat_map}
use Rattle.text_values.specs.TestValue.{Content}
use Rattle.thread_runs.specs.declared.instruction.Program.{Program}
use Rattle.thread_runs.specs.Runs as by_number
use Rattle.thread_runs.specs.Runs.{IsThreadRun}
use Rattle.thread_runs.specs.AllRuns.{thread_of}
use Rattle.ppc_lowering.specs.Domain.{InDomainAt, load_total}
use Rattle.ppc_lowering.specs.Lowering.{AreNamesOf, labels_in}
use Rattle.meaning.specs.Names.{Name, locations}
use Rattle.meaning.specs.Runs.{Run, IsRun, lines_of_thread}
use Rattle.meaning.specs.Domain.{InDomain}
use Rattle.meaning_executions.specs.Runs.{IsSameRun}

-- It is a run of the thread of the program, whose loads take values of the domain.
abbrev pub IsNumberedRun : Program → ℕ → by_number.Run → Type 0
IsNumberedRun p thread r = IsThreadRun (thread_of p thread) (InDomainAt p (load_total p)) r

-- Each run of the thread over the domain by numbers is one by names, and the other way round. Its
-- labels are numbered in their order.
pub record AreSameRuns (t : Content) (p : Program) (thread : ℕ) : Type 0 where
  pub labels : List Name
  pub numbered : AreNamesOf (flat_map labels_in (lines_of_thread t thread)) labels
  pub by_name : (r : by_number.Run) → IsNumberedRun p thread r
      → (q : Run) × IsRun t (InDomain t) thread q
      × IsSameRun (locations t) labels r.outcome q
  pub by_number : (q : Run) → IsRun t (InDomain t) thread q
      → (r : by_number.Run) × IsNumberedRun p thread r
      × IsSameRun (locations t) labels r.outcome q
