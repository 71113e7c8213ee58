-- What the lists of runs of the code are in the definitions, and what the code lists of them.
use Rattle.std.specs.Prelude.{ℕ, List, map, Vec, Option, Some, None}
use Rattle.std.specs.List.{AllZip, range_with_len}
use Rattle.std.specs.declared.alloc.Global.{Global}
use Rattle.text_values.specs.TestValue.{Content}
use Rattle.meaning.specs.Sets.{IsListOf, HasOver}
use Rattle.meaning.specs.Runs.{Run, IsRun}
use Rattle.meaning.specs.Domain.{InDomain}
use Rattle.meaning.specs.Executions.{AreRuns}
use Rattle.plain_runs.specs.declared.run.Run as code
use Rattle.plain_runs.specs.Runs.{run_as}

-- the lists of runs that the code has
abbrev pub run_lists_as : List (Vec code.Run Global) → List (List Run)
run_lists_as vs = map (λ v. map run_as v.items) vs

-- There is a list for each of so many threads, which has the runs of the thread over the domain.
abbrev pub AreRunLists : Content → ℕ → List (List Run) → Type 0
AreRunLists t n lists =
    AllZip (λ thread rs. IsListOf (IsRun t (InDomain t) thread) rs) (range_with_len 0 n) lists

-- The list has the combinations of a run of each thread over the domain; there is none if there
-- are too many.
abbrev pub AreAllCombinations : Content → Option (Vec (Vec code.Run Global) Global) → Type 0
AreAllCombinations t (Some all) =
    (HasOver 1048576 (AreRuns t) → ⊥) × IsListOf (AreRuns t) (run_lists_as all.items)
AreAllCombinations t None = HasOver 1048576 (AreRuns t)
