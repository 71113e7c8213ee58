-- The number of an accepted edit.
use Rattle.std.proofs.Common.{◌≡◌, ◌+◌, ◌<◌, ◌≤◌, ℕ, List, arith}
use Rattle.std.specs.Prelude.{Result, Ok, Err, IfOk, OnOk}
use Rattle.memo_core.specs.Run.{TextsMeaning}
use Rattle.desk.specs.declared.answer.Accepted.{Accepted}
use Rattle.desk.specs.Held.{Held, IsEditTurn, accepted_number}

-- it is the next one, and so no more than the last that is given
pub low_number : {T E V G O F : Type 0} (means : TextsMeaning T E V G)
    (is_edit : List O → O → E → ℕ → Type 0) (is_settle : O → Type 0) (e : E) (last : ℕ)
    (old new : Held T V O) (r : Result Accepted F) → OnOk r (old.bench.taken < last)
    → IfOk r (λ a. IsEditTurn means is_edit is_settle e old new (accepted_number a))
    → IfOk r (λ a. accepted_number a ≤ last)
low_number means is_edit is_settle e last old new (Ok a) unspent turn =
    let next : accepted_number a ≡ old.bench.taken + 1 = (turn.made).number_is in
    omega (arith, next, unspent)
low_number means is_edit is_settle e last old new (Err fault) unspent turn = tt
