-- Read after Cells: what an event of a list and its reply make of a bench (`IsEventAnswered`), and
-- a list of events with its replies (`AnswersEvents`).
use Rattle.std.specs.Prelude.{◌≡◌, ℕ, ◌+◌, ◌<◌, ◌≤◌, ⊤, Bool, false, ◌||◌, ◌==◌, leb, List, [], ◌∷◌, ◌++◌, Option, Some, None, Result, Ok, Err, if◌then◌else◌}
use Rattle.value_store.specs.declared.fault.StoreFault.{StoreFault}
use Rattle.memo_core.specs.declared.claims.ClaimFault.{ClaimFault}
use Rattle.memo_core.specs.declared.claims.ClaimFault.TheVariants.{Spent}
use Rattle.memo_core.specs.declared.claims.Finish.{Finish}
use Rattle.memo_core.specs.declared.claims.Finish.TheVariants.{Unknown}
use Rattle.memo_core.specs.Step.{Return as Returning}
use Rattle.memo_core.specs.Run as core
use Rattle.memo_core.specs.Run.{Bench, TextsMeaning, Step}
use Rattle.memo_core.specs.Work.{is_accepted}
use Rattle.memo_engine.specs.declared.graph.TheConstants.{LAST}
use Rattle.cells.specs.declared.events.Event.{Event}
use Rattle.cells.specs.declared.events.Event.TheVariants.{Edit, Claim, Return, Lose, Renew}
use Rattle.cells.specs.declared.events.Reply.{Reply}
use Rattle.cells.specs.declared.events.Reply.TheVariants.{Edited, Claimed, Returned, Lost, Renewed}
use Rattle.cells.specs.Views.{Task, task_answered}

-- the job of that claim among those that a list was given
abbrev pub task_given : {V G : Type 0} → ℕ → List (Task V G) → Option (Task V G)
task_given claim [] = None
task_given claim (t ∷ ts) = if claim == t.claim then Some t else task_given claim ts

abbrev pub has_claim : {V G : Type 0} → ℕ → List (Task V G) → Bool
has_claim claim [] = false
has_claim claim (t ∷ ts) = (claim == t.claim) || has_claim claim ts

-- the same event, whose edit may lie elsewhere in memory
abbrev pub IsSameEvent : {E : Type 0} → (E → E → Type 0) → Event E → Event E → Type 0
IsSameEvent same (Edit e) (Edit f) = same e f
IsSameEvent same (Edit e) _ = ⊥
IsSameEvent same Claim f = f ≡ Claim
IsSameEvent same (Return claim) f = f ≡ Return claim
IsSameEvent same (Lose claim) f = f ≡ Lose claim
IsSameEvent same Renew f = f ≡ Renew

-- a claim, a return or a loss
abbrev pub IsJob : {E : Type 0} → Event E → Type 0
IsJob (Edit e) = ⊥
IsJob Claim = ⊤
IsJob (Return claim) = ⊤
IsJob (Lose claim) = ⊤
IsJob Renew = ⊥

-- 1 for a return that is accepted
abbrev pub accepted_in : {F : Type 0} → Reply F → ℕ
accepted_in (Edited answer) = 0
accepted_in (Claimed answer) = 0
accepted_in (Returned (Ok answer)) = if is_accepted answer then 1 else 0
accepted_in (Returned (Err fault)) = 0
accepted_in (Lost answer) = 0
accepted_in Renewed = 0

-- how many returns are accepted
abbrev pub accepted_among : {F : Type 0} → List (Reply F) → ℕ
accepted_among [] = 0
accepted_among (r ∷ rs) = accepted_in r + accepted_among rs

-- how texts refuse an edit, where the numbers are spent or not
abbrev pub Refusing : Type 0 → Type 0 → Type 0 → Type 1
Refusing T E F = T → E → Bool → F → Type 0

module _ {T E V G F : Type 0} (means : TextsMeaning T E V G) (refuses : Refusing T E F) (last : T → ℕ)
  where
    -- an edit takes the next number, where the numbers are not spent, or is refused: then the last
    -- edit of the texts is the one that it was
    abbrev pub IsEdited : Bench T V → E → Result ℕ F → Bench T V → Type 0
    IsEdited old e (Ok number) new =
        (old.taken < LAST) × (number ≡ old.taken + 1) × Step means old (core.Edit e) new
    IsEdited old e (Err fault) new =
        refuses old.texts e (leb LAST old.taken) fault × Step means old core.Refused new
        × (last new.texts ≡ last old.texts)

    -- the numbers are spent where so many are taken, and only there
    abbrev pub IsClaimFault : ℕ → ClaimFault → Type 0
    IsClaimFault taken fault = (fault ≡ Spent → LAST ≤ taken) × (LAST ≤ taken → fault ≡ Spent)

    -- where the numbers are not spent, a job is given out or there is no work, or the claim is
    -- refused; with the jobs that the list has been given, before and after
    abbrev pub IsClaimed : Bench T V → List (Task V G) → Result (Option ℕ) ClaimFault → Bench T V
        → List (Task V G) → Type 0
    IsClaimed old given (Ok (Some number)) new after =
        (old.taken < LAST) × (t : Task V G) × (number ≡ t.claim)
        × Step means old (core.Claim t.claim t.node t.given t.keys t.values) new
        × (after ≡ given ++ t ∷ [])
    IsClaimed old given (Ok None) new after =
        (old.taken < LAST) × Step means old core.NoClaim new × (after ≡ given)
    IsClaimed old given (Err fault) new after =
        IsClaimFault old.taken fault × Step means old core.Refused new × (new.texts ≡ old.texts)
        × (after ≡ given)

    -- the job of the claim is run and its return offered, or memory is refused; without such a job,
    -- nothing is done
    abbrev pub IsReturned : Bench T V → Option (Task V G) → Result Finish StoreFault → Bench T V
        → Type 0
    IsReturned old None (Ok Unknown) new = new ≡ old
    IsReturned old None _ new = ⊥
    IsReturned old (Some t) (Ok answer) new =
        (r : Returning V G) × (task_answered r ≡ t) × Step means old (core.Returned r answer) new
    IsReturned old (Some t) (Err fault) new = new ≡ old

    -- an event with its reply
    abbrev pub IsEventAnswered : Bench T V → List (Task V G) → Event E → Reply F → Bench T V
        → List (Task V G) → Type 0
    IsEventAnswered old given (Edit e) (Edited answer) new after =
        IsEdited old e answer new × (after ≡ given)
    IsEventAnswered old given Claim (Claimed answer) new after =
        IsClaimed old given answer new after
    IsEventAnswered old given (Return claim) (Returned answer) new after =
        IsReturned old (task_given claim given) answer new × (after ≡ given)
    IsEventAnswered old given (Lose claim) (Lost answer) new after =
        Step means old (core.Lose claim answer) new × (after ≡ given)
    IsEventAnswered old given Renew Renewed new after =
        Step means old core.Renew new × (after ≡ given)
    IsEventAnswered old given _ _ new after = ⊥

    -- events with their replies, one after another
    abbrev pub AreEventsAnswered : Bench T V → List (Task V G) → List (Event E) → List (Reply F)
        → Bench T V
        → List (Task V G) → Type 0
    AreEventsAnswered old given [] [] new after = (new ≡ old) × (after ≡ given)
    AreEventsAnswered old given (e ∷ es) (r ∷ rs) new after =
        (mid : Bench T V) × (later : List (Task V G)) × IsEventAnswered old given e r mid later
        × AreEventsAnswered mid later es rs new after
    AreEventsAnswered old given _ _ new after = ⊥

    -- a list of events, which begins without jobs
    abbrev pub AnswersEvents : Bench T V → List (Event E) → List (Reply F) → Bench T V → Type 0
    AnswersEvents old events replies new =
        (after : List (Task V G)) × AreEventsAnswered old [] events replies new after
