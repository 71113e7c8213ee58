-- What an author counts: its edits, the number of the last, and jobs.
-- Read after Holding.
use Rattle.std.specs.Prelude.{◌≡◌, ℕ, ◌+◌, Bool, true, false}
use Rattle.watch_run.specs.declared.author.Counts.{Counts}

-- no edit and no job was counted
abbrev pub no_counts : Counts
no_counts = record { made = 0; last = 0; jobs = 0 }

-- one edit more was made, of that number
abbrev pub with_edit : (number : ℕ) → Counts → Counts
with_edit number counts = record { made = counts.made + 1; last = number; jobs = counts.jobs }

-- so many jobs more were counted
abbrev pub with_jobs : (jobs : ℕ) → Counts → Counts
with_jobs jobs counts =
    record { made = counts.made; last = counts.last; jobs = counts.jobs + jobs }

-- no edit was counted, but jobs may have been
abbrev pub HasMoreJobs : (old new : Counts) → Type 0
HasMoreJobs old new = (jobs : ℕ) × (new ≡ with_jobs jobs old)

-- so many edits more were counted, and no job was
pub record HasEdits (edits : ℕ) (old new : Counts) : Type 0 where
  pub made : new.made ≡ old.made + edits
  pub last : edits ≡ 0 → new.last ≡ old.last
  pub jobs : new.jobs ≡ old.jobs

-- so many, for which this holds
abbrev pub HasEditsFor : (what : (edits : ℕ) → Type 0) → (old new : Counts) → Type 0
HasEditsFor what old new = (edits : ℕ) × what edits × HasEdits edits old new

-- an edit was counted if it was accepted, and otherwise nothing
abbrev pub IsEditCounted : (accepted : Bool) → (old new : Counts) → Type 0
IsEditCounted true old new = new ≡ with_edit new.last old
IsEditCounted false old new = new ≡ old
