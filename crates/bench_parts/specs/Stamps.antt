-- The stamps of parts before an edit and after it. Read it after Contents.
use Rattle.std.specs.Prelude.{◌≡◌, ◌≢◌, ◌⊎◌, ℕ, ◌+◌, ◌-◌, ◌^◌, ◌<◌, min, nat_lt, if◌then◌else◌, Option, Some, None}
use Rattle.bench_parts.specs.Contents.{PartContent}

-- stands for the number of the next edit until that is known: it is above all stamps
abbrev pub next_number : ℕ → ℕ
next_number last = min (last + 1) (2 ^ 64 - 1)

-- The stamp of a part that holds `now`, and that held `before` under the stamp `was`: an equal part
-- keeps its stamp, one that differs has the new one, one that is not there has 0.
abbrev pub IsStampOf : (fresh : ℕ) (before : Option PartContent) (was : ℕ)
    (now : Option PartContent) (stamp : ℕ) → Type 0
IsStampOf fresh before was None stamp = stamp ≡ 0
IsStampOf fresh before was (Some now) stamp =
    ((before ≡ Some now) × (stamp ≡ was)) ⊎ ((before ≢ Some now) × (stamp ≡ fresh))

-- a stamp above that of the last edit becomes the number of this one
abbrev pub raised : (last number stamp : ℕ) → ℕ
raised last number stamp = if nat_lt last stamp then number else stamp

-- the number of an edit after the last, of 64 bits
pub record IsLaterNumber (last number : ℕ) : Type 0 where
  pub later : last < number
  pub fits : number < 2 ^ 64

-- a part is as it was, has the number of the edit, or is gone
abbrev pub IsPartNow : (before : Option PartContent) (was number : ℕ) (now : Option PartContent)
    (stamp : ℕ) → Type 0
IsPartNow before was number now stamp =
    ((stamp ≡ was) × (now ≡ before)) ⊎ (stamp ≡ number) ⊎ (stamp ≡ 0)
