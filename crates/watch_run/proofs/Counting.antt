-- What an author counts, one step after another.
use Rattle.std.proofs.Common.{◌≡◌, ℕ, ◌+◌, Bool, true, false, not, ap, subst, ◌∙◌, add_assoc}
use Rattle.watch_run.specs.declared.author.Counts.{Counts}
use Rattle.watch_run.specs.Counts.{with_jobs, HasMoreJobs, IsEditCounted}

-- ---- jobs

-- jobs, and then others
jobs_again : (m n : ℕ) (old middle new : Counts) → middle ≡ with_jobs m old
    → new ≡ with_jobs n middle → new ≡ with_jobs (m + n) old
jobs_again m n old middle new first then =
    then ∙ ap (with_jobs n) first
    ∙ ap (λ (jobs : ℕ). record { made = old.made; last = old.last; jobs = jobs })
    (add_assoc old.jobs m n)

-- jobs, and then maybe others
pub more_again : (m : ℕ) (old middle new : Counts) → middle ≡ with_jobs m old
    → HasMoreJobs middle new → HasMoreJobs old new
more_again m old middle new first more =
    (m + more.0, jobs_again m more.0 old middle new first more.1)

-- jobs, others, and then nothing
pub more_then_same : (m n : ℕ) (old middle later new : Counts) → middle ≡ with_jobs m old
    → later ≡ with_jobs n middle → new ≡ later → HasMoreJobs old new
more_then_same m n old middle later new first then same =
    (m + n, same ∙ jobs_again m n old middle later first then)

-- ---- edits

-- an edit is counted by whether it is accepted
pub counted_if : (refused accepted : Bool) (old new : Counts) → refused ≡ not accepted
    → IsEditCounted (not refused) old new → IsEditCounted accepted old new
counted_if refused true old new said counted =
    subst (λ (b : Bool). IsEditCounted (not b) old new) said counted
counted_if refused false old new said counted =
    subst (λ (b : Bool). IsEditCounted (not b) old new) said counted
