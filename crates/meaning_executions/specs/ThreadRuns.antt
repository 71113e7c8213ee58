-- Runs of threads, by number and by name, that are the same. Read next: Events.
use Rattle.std.specs.Prelude.{ℕ, suc, List, [], ◌∷◌, flat_map}
use Rattle.text_values.specs.TestValue.{Content}
use Rattle.thread_runs.specs.Runs as by_number
use Rattle.ppc_lowering.specs.Lowering.{AreNamesOf, labels_in}
use Rattle.meaning.specs.Names.{Name, locations}
use Rattle.meaning.specs.Runs.{Run, lines_of_thread}
use Rattle.meaning_executions.specs.Runs.{IsSameRun}

-- The runs of the thread are the same. Its labels are numbered in their order.
pub record IsSameThreadRun (t : Content) (thread : ℕ) (r : by_number.Run) (q : Run)
    : Type 0 where
  pub labels : List Name
  pub numbered : AreNamesOf (flat_map labels_in (lines_of_thread t thread)) labels
  pub same : IsSameRun (locations t) labels r.outcome q

-- The runs are the same one by one, the first two being of this thread.
pub data AreSameThreadRuns (t : Content) : ℕ → List by_number.Run → List Run → Type 0 where
  none : {thread : ℕ} → AreSameThreadRuns t thread [] []
  more : {thread : ℕ} {r : by_number.Run} {q : Run} {rs : List by_number.Run} {qs : List Run}
      → IsSameThreadRun t thread r q → AreSameThreadRuns t (suc thread) rs qs
      → AreSameThreadRuns t thread (r ∷ rs) (q ∷ qs)
