-- What a witness is told of an edit. Read after Clauses.
use Rattle.std.specs.Prelude.{ℕ, Result, Ok, Err, Option, Some, None}

-- no edit was made: it was refused, or held back
abbrev pub OnNone : {F : Type 0} → Result (Option ℕ) F → Type 0 → Type 0
OnNone (Ok (Some number)) P = Unit {0}
OnNone (Ok None) P = P
OnNone (Err fault) P = P

-- the edit was prepared, told to the witness under its number, and then put in place
pub record IsEditTold {T E P W : Type 0} (prepares : T → E → P → T → Type 0)
    (commits : T → P → ℕ → T → Type 0) (told : W → T → P → ℕ → W → Type 0) (old : T) (e : E)
    (number : ℕ) (new : T) (before after : W) : Type 0 where
  pub ready : T
  pub prepared : P
  pub prepares_it : prepares old e prepared ready
  pub tells_it : told before ready prepared number after
  pub commits_it : commits ready prepared number new
