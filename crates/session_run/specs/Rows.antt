-- When a question goes on after a turn of settling. Contracts inside the crate cite it.
use Rattle.std.specs.Prelude.{◌≡◌, ℕ, Bool, true, false}
use Rattle.desk.specs.Rows.{count_after, are_too_many}
use Rattle.desk.specs.declared.answer.Settling.{Settling}
use Rattle.desk.specs.declared.answer.Settling.TheVariants as turns

-- memory was refused in the turn
abbrev pub is_refused_turn : Settling → Bool
is_refused_turn turns.Done = false
is_refused_turn (turns.Waits changes) = false
is_refused_turn turns.Refused = true

-- A question may end after the turn, where so many were refused in a row before it: at the 16th
-- refusal, or by the fault of a job.
abbrev pub MayEndAfter : Settling → (refusals : ℕ) → Type 0
MayEndAfter turns.Done refusals = ⊥
MayEndAfter (turns.Waits changes) refusals = Unit {0}
MayEndAfter turns.Refused refusals = are_too_many (count_after true refusals) ≡ true
