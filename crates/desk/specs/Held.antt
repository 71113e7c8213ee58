-- What lies under the desk's lock, and what each call makes of it.
use Rattle.std.specs.Prelude.{◌≡◌, ◌⊎◌, ℕ, ◌+◌, ◌≤◌, Bool, true, false, List, [], ◌∷◌, ◌++◌, length}
use Rattle.std.specs.List.{AllByRecursion as Each}
use mathlib.Core.List.{IsPrefix}
use Rattle.memo_core.specs.declared.claims.ClaimFault.TheVariants.{Spent}
use Rattle.memo_core.specs.Run as core
use Rattle.memo_core.specs.Run.{Bench, TextsMeaning, Step}
use Rattle.desk.specs.declared.answer.Accepted.{Accepted}
use Rattle.desk.specs.declared.answer.Accepted.TheVariants.{Now, Later}
use Rattle.desk.specs.declared.answer.Posted.{Posted}
use Rattle.desk.specs.declared.answer.Posted.TheVariants as posts
use Rattle.desk.specs.declared.answer.Settling.{Settling}
use Rattle.desk.specs.declared.fault.DeskFault.{DeskFault}
use Rattle.desk.specs.declared.fault.DeskFault.TheVariants as faults
use Rattle.desk.specs.declared.answer.Settling.TheVariants.{Done, Waits, Refused}

pub record Held (T V O : Type 0) : Type 0 where
  pub bench : Bench T V
  pub all : List O  -- what was appended: the published operations, and then the pending ones
  pub published : List O  -- what readers see
  pub spare : ℕ  -- how many viewers are left to give
  pub closed : Bool
  -- false only where readers see all operations, and each cell that is settled on the bench is
  -- settled there; where it is true, the next call tries again
  pub owes : Bool

abbrev pub held : {T V O : Type 0} → Bench T V → List O → List O → ℕ → Bool → Bool → Held T V O
held bench all published spare closed owes =
    record {
      bench = bench;
      all = all;
      published = published;
      spare = spare;
      closed = closed;
      owes = owes;
    }

-- where nothing is owed, all is published, and each cell that is settled on the bench is settled
-- there
abbrev pub IsShownOrOwed : {T V O : Type 0} → (are_posted : Bench T V → List O → Type 0)
    → Held T V O → Type 0
IsShownOrOwed are_posted desk =
    desk.owes ≡ false → (desk.published ≡ desk.all) × are_posted desk.bench desk.published

abbrev pub accepted_number : Accepted → ℕ
accepted_number (Now number) = number
accepted_number (Later number) = number

-- operations that settle cells were appended, and nothing else changed but the bench and what is
-- published
pub record AppendsSettles {T V O : Type 0} (is_settle : O → Type 0) (before : List O)
    (old new : Held T V O) : Type 0 where
  pub settles : List O
  pub are_settles : Each is_settle settles
  pub all : new.all ≡ before ++ settles
  pub spare : new.spare ≡ old.spare
  pub closed : new.closed ≡ old.closed

-- one edit was made under the next number, and its operation, which is that of the edit after
-- these, appended
pub record IsEditAppended {T E V G O : Type 0} (means : TextsMeaning T E V G)
    (is_edit : List O → O → E → ℕ → Type 0) (e : E) (old new : Bench T V) (before after : List O)
    (number : ℕ) : Type 0 where
  pub step : Step means old (core.Edit e) new
  pub number_is : number ≡ old.taken + 1
  pub op : O
  pub is : is_edit before op e number
  pub list : after ≡ before ++ op ∷ []

-- so it is, and settled cells were appended after it
pub record IsEditTurn {T E V G O : Type 0} (means : TextsMeaning T E V G)
    (is_edit : List O → O → E → ℕ → Type 0) (is_settle : O → Type 0) (e : E) (old new : Held T V O)
    (number : ℕ) : Type 0 where
  pub list : List O
  pub made : IsEditAppended means is_edit e old.bench new.bench old.all list number
  pub appends : AppendsSettles is_settle list old new

-- all is published and the viewer was told; or readers see what they saw, and the viewer knows what
-- it knew
abbrev pub Publishes : {T V O : Type 0} → (old new : Held T V O) → (me me' : List O) → Accepted
    → Type 0
Publishes old new me me' (Now number) = (new.published ≡ new.all) × (me' ≡ new.all)
Publishes old new me me' (Later number) = (new.published ≡ old.published) × (me' ≡ me)

-- the later list is legal: it goes on from the earlier one, has the edit at its number, and ends
-- with what was appended after it
pub record HasEdit {E O : Type 0} (is_legal : List O → Type 0)
    (is_edit : List O → O → E → ℕ → Type 0) (is_settle : O → Type 0) (e : E) (number : ℕ)
    (me me' : List O) : Type 0 where
  pub between : List O
  pub op : O
  pub is : is_edit (me ++ between) op e number
  pub settles : List O
  pub are_settles : Each is_settle settles
  pub list : me' ≡ ((me ++ between) ++ op ∷ []) ++ settles
  pub legal : is_legal me'

-- the viewer was told a list that has the edit; or it knows what it knew, and there is such a list,
-- which is published next
abbrev pub TellsEdit : {E O : Type 0} → (List O → Type 0) → (List O → O → E → ℕ → Type 0)
    → (O → Type 0)
    → E → (me me' : List O) → Accepted → Type 0
TellsEdit {O = O} is_legal is_edit is_settle e me me' (Now number) =
    HasEdit is_legal is_edit is_settle e number me me'
TellsEdit {O = O} is_legal is_edit is_settle e me me' (Later number) =
    (me' ≡ me) × ((later : List O) × HasEdit is_legal is_edit is_settle e number me later)

-- readers see all operations, or what they saw
abbrev pub ShowsAllOrAsBefore : {T V O : Type 0} → (old new : Held T V O) → Type 0
ShowsAllOrAsBefore old new = (new.published ≡ new.all) ⊎ (new.published ≡ old.published)

-- the desk is closed, and what was owed was tried once more: operations that settle cells may have
-- been appended
pub record IsClosing {T V O : Type 0} (is_settle : O → Type 0) (old new : Held T V O) : Type 0 where
  pub settles : List O
  pub are_settles : Each is_settle settles
  pub all : new.all ≡ old.all ++ settles
  pub bench : new.bench ≡ old.bench
  pub spare : new.spare ≡ old.spare
  pub closed : new.closed ≡ true

-- all is published, each cell that is settled on the bench is settled there, and nothing is owed;
-- or readers see what they saw, and the rest is owed
abbrev pub PublishesOr : {T V O : Type 0} → (Bench T V → List O → Type 0) → (old new : Held T V O)
    → Posted → Type 0
PublishesOr are_posted old new posts.Now =
    (new.published ≡ new.all) × are_posted new.bench new.published × (new.owes ≡ false)
PublishesOr are_posted old new posts.Later = (new.published ≡ old.published) × (new.owes ≡ true)

-- the viewer was told all that is published, which goes on from what it knew, and there every cell
-- is settled; nothing is owed
pub record IsDone {T V O : Type 0} (is_legal : List O → Type 0) (are_settled : List O → Type 0)
    (new : Held T V O) (me me' : List O) : Type 0 where
  pub list : me' ≡ new.published
  pub whole : new.published ≡ new.all
  pub begins : IsPrefix me me'
  pub settled : are_settled me'
  pub legal : is_legal me'
  pub owes : new.owes ≡ false

-- all operations are published, as many as are counted; each cell that is settled on the bench is
-- settled among them; nothing is owed; and the viewer knows what it knew
pub record IsWaiting {T V O : Type 0} (are_posted : Bench T V → List O → Type 0) (new : Held T V O)
    (me me' : List O) (changes : ℕ) : Type 0 where
  pub told : me' ≡ me
  pub whole : new.published ≡ new.all
  pub posted : are_posted new.bench new.published
  pub count : changes ≡ length new.published
  pub owes : new.owes ≡ false

abbrev pub IsSettlingTurn : {T V O : Type 0} → (is_legal are_settled : List O → Type 0)
    → (are_posted : Bench T V → List O → Type 0) → (new : Held T V O) → (me me' : List O) → Settling
    → Type 0
IsSettlingTurn is_legal are_settled are_posted new me me' Done =
    IsDone is_legal are_settled new me me'
IsSettlingTurn is_legal are_settled are_posted new me me' (Waits changes) =
    IsWaiting are_posted new me me' changes
IsSettlingTurn is_legal are_settled are_posted new me me' Refused = (me' ≡ me) × (new.owes ≡ true)

-- what the viewer of a turn of settling is told: all that it knew and what goes on from there,
-- where every cell is settled; or nothing
abbrev pub TellsSettled : {O : Type 0} → (is_legal : List O → Type 0)
    → (are_settled : List O → Type 0) → (me me' : List O) → Settling → Type 0
TellsSettled is_legal are_settled me me' Done = IsPrefix me me' × are_settled me' × is_legal me'
TellsSettled is_legal are_settled me me' (Waits changes) = me' ≡ me
TellsSettled is_legal are_settled me me' Refused = me' ≡ me

-- The call was refused: the texts of the bench may have more room, and nothing else changed. What
-- is owed is said by the clause `debt`.
abbrev pub IsRefusedTurn : {T E V G O : Type 0} → TextsMeaning T E V G → (old new : Held T V O) → Type 0
IsRefusedTurn means old new =
    Step means old.bench core.Refused new.bench
    × (new ≡ held new.bench old.all old.published old.spare old.closed new.owes)

-- Why an edit is refused: by the bench for that fault, which is not want of memory, or by the desk
-- for a viewer that has seen more. That the desk is closed and that memory is wanted are said
-- apart.
abbrev pub IsRefusedBy : {F : Type 0} → (refuses is_want_of_memory : F → Type 0)
    → (is_ahead : Type 0) → DeskFault F → Type 0
IsRefusedBy refuses is_want_of_memory is_ahead (faults.Edit fault) =
    refuses fault × (is_want_of_memory fault → ⊥)
IsRefusedBy refuses is_want_of_memory is_ahead (faults.Claim fault) = ⊥
IsRefusedBy refuses is_want_of_memory is_ahead faults.OutOfMemory = Unit {0}
IsRefusedBy refuses is_want_of_memory is_ahead faults.Closed = Unit {0}
IsRefusedBy refuses is_want_of_memory is_ahead faults.NoSeat = is_ahead

-- The edit is refused for this fault by texts that come after a legal list of operations, which
-- begins with all that the viewer knew. So many numbers are taken then, those of the edits in the
-- list among them.
pub record IsRefusedAfter {T F O : Type 0} (is_legal : List O → Type 0) (is_valid : T → Type 0)
    (are_after : T → List O → Type 0) (last_number : List O → ℕ) (refuses : T → ℕ → F → Type 0)
    (me : List O) (fault : F) : Type 0 where
  pub ops : List O
  pub begins : IsPrefix me ops
  pub legal : is_legal ops
  pub texts : T
  pub valid : is_valid texts
  pub after : are_after texts ops
  pub taken : ℕ
  pub last : last_number ops ≤ taken
  pub refuses_it : refuses texts taken fault

-- Why a claim is refused: for spent numbers, and only where they are spent. That the desk is closed
-- and that memory is wanted are said apart.
abbrev pub IsClaimRefusedBy : {F : Type 0} → (is_spent : Type 0) → DeskFault F → Type 0
IsClaimRefusedBy is_spent (faults.Claim fault) = (fault ≡ Spent) × is_spent
IsClaimRefusedBy is_spent (faults.Edit fault) = ⊥
IsClaimRefusedBy is_spent faults.NoSeat = ⊥
IsClaimRefusedBy is_spent faults.OutOfMemory = Unit {0}
IsClaimRefusedBy is_spent faults.Closed = Unit {0}

-- why no seed is made: want of memory, or a viewer that the kit does not make
abbrev pub IsSeedRefusedBy : {F : Type 0} → DeskFault F → Type 0
IsSeedRefusedBy faults.OutOfMemory = Unit {0}
IsSeedRefusedBy faults.NoSeat = Unit {0}
IsSeedRefusedBy faults.Closed = ⊥
IsSeedRefusedBy (faults.Edit fault) = ⊥
IsSeedRefusedBy (faults.Claim fault) = ⊥
