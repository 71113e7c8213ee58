-- One event more.
use Rattle.std.proofs.Common.{[], ◌∷◌, ◌++◌, refl}
use Rattle.memo_core.specs.Run.{Bench, MemoEvent, TextsMeaning, IsNewBench, Step}
use Rattle.cells.proofs.Listed.{runs_on}
use Rattle.desk.specs.Runs.{IsReachedByEvents}

module _ {T E V G : Type 0} (means : TextsMeaning T E V G) where
  pub reached_new : (b : Bench T V) → IsNewBench means.is_valid means.net b → IsReachedByEvents means b
  reached_new b new = record { first = b; events = []; is_new = new; run = refl }

  pub reached_by : (old new : Bench T V) (e : MemoEvent E V G) → IsReachedByEvents means old
      → Step means old e new → IsReachedByEvents means new
  reached_by old new e before step = record {
    first = before.first;
    events = before.events ++ e ∷ [];
    is_new = before.is_new;
    run = runs_on means before.events (e ∷ []) before.first old new before.run (new, step, refl);
  }
