-- Which events of a bench a list of events is, by its replies. Read it after Events of `cells`.
use Rattle.std.specs.Prelude.{◌≡◌, ◌⊎◌, ℕ, List, [], ◌∷◌, ◌++◌, Some, None, Ok, Err}
use Rattle.memo_core.specs.declared.keys.Node.{Node}
use Rattle.memo_core.specs.declared.keys.Key.{Key}
use Rattle.memo_core.specs.declared.claims.Finish.{Finish}
use Rattle.memo_core.specs.declared.claims.Finish.TheVariants.{Unknown}
use Rattle.memo_core.specs.Step.{Return as Returning}
use Rattle.memo_core.specs.Run as core
use Rattle.memo_core.specs.Run.{Bench, TextsMeaning, MemoRun}
use Rattle.cells.specs.declared.events.Event.{Event}
use Rattle.cells.specs.declared.events.Event.TheVariants.{Edit, Claim, Return, Lose, Renew}
use Rattle.cells.specs.declared.events.Reply.{Reply}
use Rattle.cells.specs.declared.events.Reply.TheVariants.{Edited, Claimed, Returned, Lost, Renewed}
use Rattle.cells.specs.Events.{Refusing, AnswersEvents}

-- a claim of this number is given out
abbrev pub IsClaimOf : {E V G : Type 0} → (number : ℕ) → List (core.MemoEvent E V G) → Type 0
IsClaimOf {E} {V} {G} number run =
    (node : Node) × (given : G) × (keys : List Key) × (values : List V)
    × (run ≡ core.Claim number node given keys values ∷ [])

-- the return of this claim is offered, or there is none
abbrev pub IsReturnOf : {E V G : Type 0} → (claim : ℕ) → Finish → List (core.MemoEvent E V G)
    → Type 0
IsReturnOf {E} {V} {G} claim answer run =
    ((run ≡ []) × (answer ≡ Unknown))
    ⊎ ((r : Returning V G) × (r.claim ≡ claim) × (run ≡ core.Returned r answer ∷ []))

-- The event is this one of the bench, by its reply. A call that is refused is an event too. A return
-- of no job is none, and so is one whose job is refused.
abbrev pub IsRunOf : {E V G F : Type 0} → Event E → Reply F → List (core.MemoEvent E V G) → Type 0
IsRunOf (Edit e) (Edited (Ok number)) run = run ≡ core.Edit e ∷ []
IsRunOf (Edit e) (Edited (Err fault)) run = run ≡ core.Refused ∷ []
IsRunOf Claim (Claimed (Ok (Some number))) run = IsClaimOf number run
IsRunOf Claim (Claimed (Ok None)) run = run ≡ core.NoClaim ∷ []
IsRunOf Claim (Claimed (Err fault)) run = run ≡ core.Refused ∷ []
IsRunOf (Return claim) (Returned (Ok answer)) run = IsReturnOf claim answer run
IsRunOf (Return claim) (Returned (Err fault)) run = run ≡ []
IsRunOf (Lose claim) (Lost answer) run = run ≡ core.Lose claim answer ∷ []
IsRunOf Renew Renewed run = run ≡ core.Renew ∷ []
IsRunOf _ _ run = ⊥

-- each event has one reply, and these are theirs, one behind another
abbrev pub AreRunsOf : {E V G F : Type 0} → List (Event E) → List (Reply F)
    → List (core.MemoEvent E V G) → Type 0
AreRunsOf [] [] run = run ≡ []
AreRunsOf {E} {V} {G} (e ∷ es) (r ∷ rs) run =
    (first : List (core.MemoEvent E V G)) × (rest : List (core.MemoEvent E V G))
    × (run ≡ first ++ rest) × IsRunOf e r first × AreRunsOf es rs rest
AreRunsOf _ _ run = ⊥

-- a list of events with its replies is the run of just these events
abbrev pub ListsAreTheirRuns : {T E V G F : Type 0} → TextsMeaning T E V G → Refusing T E F → (T → ℕ)
    → Type 0
ListsAreTheirRuns {T} {E} {V} {G} {F} means refuses last =
    (old new : Bench T V) (events : List (Event E)) (replies : List (Reply F))
    → AnswersEvents means refuses last old events replies new
    → (run : List (core.MemoEvent E V G)) × AreRunsOf events replies run × MemoRun means old run new
