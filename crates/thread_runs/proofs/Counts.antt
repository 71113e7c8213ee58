-- The counts of free runs where a label is found.
use Rattle.std.proofs.Common.{ℕ, suc, ◌≡◌, ◌<◌, List, ◌∷◌, length, get_or, drop, ap, Option, Some, None}
use Rattle.std.proofs.Math.Seq.{drop-cons}
use Rattle.thread_runs.specs.declared.instruction.Line.{Line}
use Rattle.thread_runs.specs.declared.instruction.Line.TheVariants.{Label, Does}
use Rattle.thread_runs.specs.Runs.{found_at}
use Rattle.thread_runs.specs.FreeRuns.{count_free}

sought_here : (size : ℕ) (x : Line) (xs : List Line) (l : ℕ) → found_at x l ≡ None
    → count_free size (x ∷ xs) (Some l) ≡ count_free size (x ∷ xs) None
sought_here size (Does i) xs l e = absurd cc
sought_here size (Label m) xs l e = ap (λ (o : Option ℕ). count_free size xs o) e

pub stop_here : (size : ℕ) (lines : List Line) (k l : ℕ) (d : Line) → k < length lines
    → found_at (get_or lines k d) l ≡ None
    → count_free size (drop k lines) (Some l) ≡ count_free size (drop k lines) None
stop_here size lines k l d lt e =
    rw (drop-cons lines k d) (sought_here size (get_or lines k d) (drop (suc k) lines) l e)
