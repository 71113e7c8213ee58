-- A return and the next claim in one turn of the lock: what the one makes of the desk, and then the
-- other. Read it after Held.
use Rattle.std.specs.Prelude.{◌≡◌, ℕ, ◌≤◌, ◌<◌, false, List, Option, Some, None, Result, Ok, Err}
use mathlib.Core.List.{IsPrefix}
use Rattle.memo_core.specs.declared.claims.ClaimFault.TheVariants.{Spent}
use Rattle.memo_core.specs.declared.claims.Finish.{Finish}
use Rattle.memo_core.specs.Run as core
use Rattle.memo_core.specs.Run.{Bench, TextsMeaning, Step}
use Rattle.memo_core.specs.Step.{Return}
use Rattle.cells.specs.Views.{Task}
use Rattle.desk.specs.declared.answer.Posted.{Posted}
use Rattle.desk.specs.declared.fault.DeskFault.{DeskFault}
use Rattle.desk.specs.declared.fault.DeskFault.TheVariants as faults
use Rattle.desk.specs.Held.{Held, held, AppendsSettles, PublishesOr, ShowsAllOrAsBefore, IsShownOrOwed, IsRefusedTurn, IsClaimRefusedBy}

-- the bench gave out this job, or it had no work
abbrev pub GivesNext : {T E V G : Type 0} → TextsMeaning T E V G → Bench T V → Option (Task V G)
    → Bench T V → Type 0
GivesNext means old (Some j) new =
    Step means old (core.Claim j.claim j.node j.given j.keys j.values) new
GivesNext means old None new = Step means old core.NoClaim new

module _ {T E V G O : Type 0} (means : TextsMeaning T E V G) (is_settle : O → Type 0)
    (are_posted : Bench T V → List O → Type 0) where
  -- an open desk took a return, and tried to publish the cells that are settled
  pub record TakesReturn (done : Return V G) (old : Held T V O) (finish : Finish) (posted : Posted)
      (new : Held T V O) : Type 0 where
    pub is_open : old.closed ≡ false
    pub step : Step means old.bench (core.Returned done finish) new.bench
    pub appends : AppendsSettles is_settle old.all old new
    pub grows : IsPrefix old.published new.published
    pub posts : PublishesOr are_posted old new posted

  -- an open desk gave out a job, or it had no work; where nothing was owed, nothing but the bench
  -- changed
  pub record GivesNextJob (last : ℕ) (old : Held T V O) (next : Option (Task V G)) (new : Held T V O)
      : Type 0 where
    pub is_open : old.closed ≡ false
    pub unspent : old.bench.taken < last
    pub step : GivesNext means old.bench next new.bench
    pub appends : AppendsSettles is_settle old.all old new
    pub grows : IsPrefix old.published new.published
    pub whole : ShowsAllOrAsBefore old new
    pub shown : IsShownOrOwed are_posted new
    pub still : old.owes ≡ false
        → new ≡ held new.bench old.all old.published old.spare old.closed false

-- an open desk gave out no job for that fault; nothing is appended, and nothing more is owed
pub record RefusesJob {T E V G O F : Type 0} (means : TextsMeaning T E V G) (last : ℕ) (old : Held T V O)
    (fault : DeskFault F) (new : Held T V O) : Type 0 where
  pub is_open : old.closed ≡ false
  pub fault_is : IsClaimRefusedBy (last ≤ old.bench.taken) fault
  pub not_closed : fault ≡ faults.Closed → ⊥
  pub spent : last ≤ old.bench.taken → fault ≡ faults.Claim Spent
  pub refused : IsRefusedTurn means old new
  pub debt : new.owes ≡ old.owes

module _ {T E V G O F : Type 0} (means : TextsMeaning T E V G) (is_settle : O → Type 0)
    (are_posted : Bench T V → List O → Type 0) where
  -- what a claim answers
  abbrev pub AnswersClaim : (last : ℕ) (old : Held T V O)
      → Result (Option (Task V G)) (DeskFault F) → (new : Held T V O) → Type 0
  AnswersClaim last old (Ok next) new = GivesNextJob means is_settle are_posted last old next new
  AnswersClaim last old (Err fault) new = RefusesJob means last old fault new

  -- a return was taken, and of the desk that it left the next job was claimed
  pub record TakesAndClaims (last : ℕ) (done : Return V G) (old : Held T V O) (finish : Finish)
      (posted : Posted) (next : Result (Option (Task V G)) (DeskFault F)) (new : Held T V O)
      : Type 0 where
    pub between : Held T V O
    pub takes : TakesReturn means is_settle are_posted done old finish posted between
    pub claims : AnswersClaim last between next new
