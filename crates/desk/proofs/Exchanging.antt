-- A return and the next claim, from what each of the two calls says.
use Rattle.std.proofs.Common.{◌≡◌, ◌↔◌, ◌≤◌, ℕ, Bool, true, false, List, Option, Some, None, refl}
use Rattle.std.specs.Prelude.{Result, Ok, Err, IfOk, IfErr, OnOk, OnErr, IfSome, IfNone, ⊤}
use Rattle.std.proofs.Math.Nat.{lt_of_not-le}
use mathlib.Core.List.{IsPrefix}
use Rattle.memo_core.specs.declared.claims.ClaimFault.TheVariants.{Spent}
use Rattle.memo_core.specs.declared.claims.Finish.{Finish}
use Rattle.memo_core.specs.Run as core
use Rattle.memo_core.specs.Run.{Bench, TextsMeaning, Step}
use Rattle.memo_core.specs.Step.{Return}
use Rattle.cells.specs.Views.{Task}
use Rattle.desk.specs.declared.answer.Posted.{Posted}
use Rattle.desk.specs.declared.fault.DeskFault.{DeskFault}
use Rattle.desk.specs.declared.fault.DeskFault.TheVariants as faults
use Rattle.desk.specs.Held.{Held, held, AppendsSettles, ShowsAllOrAsBefore, IsShownOrOwed, IsRefusedTurn, IsClaimRefusedBy}
use Rattle.desk.specs.Exchanges.{GivesNext, AnswersClaim, TakesAndClaims}
use Rattle.desk.proofs.Refusing.{claim_refused}

both : (b : Bool) → b ≡ true → b ≡ false → ⊥
both b on off = cc

fault_same : {A F : Type 0} (f g : DeskFault F) → (let r : Result A (DeskFault F) = Err f in r ≡ Err g)
    → f ≡ g
fault_same f g e = cc

err_same : {A F : Type 0} (f g : DeskFault F) → f ≡ g
    → (let r : Result A (DeskFault F) = Err f in r ≡ Err g)
err_same f g e = cc

ok_is_no_fault : {A F : Type 0} (a : A) (f : DeskFault F)
    → (let r : Result A (DeskFault F) = Ok a in r ≡ Err f) → ⊥
ok_is_no_fault a f e = cc

-- a call that is not refused is one of an open desk
pub open_by : {A F : Type 0} (a : A) (closed : Bool)
    → (let r : Result A (DeskFault F) = Ok a in r ≡ Err faults.Closed) ↔ (closed ≡ true)
    → closed ≡ false
open_by a true is = absurd (ok_is_no_fault a faults.Closed (is.1 refl))
open_by a false is = refl

next_given : {T E V G : Type 0} (means : TextsMeaning T E V G) (old new : Bench T V)
    (next : Option (Task V G))
    → IfSome next (λ j. Step means old (core.Claim j.claim j.node j.given j.keys j.values) new)
    → IfNone next (Step means old core.NoClaim new) → GivesNext means old next new
next_given means old new (Some j) given none = given
next_given means old new None given none = none

module _ {T E V G O F : Type 0} (means : TextsMeaning T E V G) (is_settle : O → Type 0)
    (are_posted : Bench T V → List O → Type 0) where
  pub answers_claim : (last : ℕ) (old : Held T V O) (r : Result (Option (Task V G)) (DeskFault F))
      (new : Held T V O) → old.closed ≡ false
      → (r ≡ Err faults.Closed) ↔ (old.closed ≡ true)
      → IfErr r (IsClaimRefusedBy (last ≤ old.bench.taken))
      → (old.closed ≡ false → last ≤ old.bench.taken → r ≡ Err (faults.Claim Spent))
      → OnErr r (IsRefusedTurn means old new) → OnErr r (new.owes ≡ old.owes)
      → IfOk r (λ next. IfSome next (λ j.
      Step means old.bench (core.Claim j.claim j.node j.given j.keys j.values) new.bench))
      → IfOk r (λ next. IfNone next (Step means old.bench core.NoClaim new.bench))
      → OnOk r (AppendsSettles is_settle old.all old new)
      → OnOk r (IsPrefix old.published new.published)
      → OnOk r (ShowsAllOrAsBefore old new) → OnOk r (IsShownOrOwed are_posted new)
      → OnOk r (old.owes ≡ false
      → new ≡ held new.bench old.all old.published old.spare old.closed false)
      → AnswersClaim means is_settle are_posted last old r new
  answers_claim last old (Ok next) new is_open closed fault spent refused debt given none appends grows
      whole shown still = record {
        is_open = is_open;
        unspent = lt_of_not-le (λ le. ok_is_no_fault next (faults.Claim Spent) (spent is_open le));
        step = next_given means old.bench new.bench next given none;
        appends = appends;
        grows = grows;
        whole = whole;
        shown = shown;
        still = still;
      }
  answers_claim last old (Err f) new is_open closed fault spent refused debt given none appends grows
      whole shown still = record {
        is_open = is_open;
        fault_is = fault;
        not_closed = λ e. both old.closed (closed.0 (err_same f faults.Closed e)) is_open;
        spent = λ le. fault_same f (faults.Claim Spent) (spent is_open le);
        refused = refused;
        debt = debt;
      }

  -- a claim is refused so, whatever the desk is that the return leaves
  pub next_refused : (last : ℕ) (done : Return V G) (old : Held T V O) (finish : Finish)
      (posted : Posted) (next : Result (Option (Task V G)) (DeskFault F)) (new : Held T V O)
      → TakesAndClaims means is_settle are_posted last done old finish posted next new
      → IfErr next (IsClaimRefusedBy ⊤)
  next_refused last done old finish posted (Ok next) new turn = tt
  next_refused last done old finish posted (Err fault) new turn = (
      let refusal : Result (Option (Task V G)) (DeskFault F) = Err fault in
      claim_refused refusal (last ≤ (turn.between).bench.taken) (turn.claims).fault_is)

  pub exchange_refused : (last : ℕ) (done : Return V G) (old : Held T V O)
      (r : Result (Finish × Posted × Result (Option (Task V G)) (DeskFault F)) (DeskFault F))
      (new : Held T V O)
      → IfOk r (λ x. TakesAndClaims means is_settle are_posted last done old x.0 x.1 x.2 new)
      → IfOk r (λ x. IfErr x.2 (IsClaimRefusedBy ⊤))
  exchange_refused last done old (Ok x) new turn = next_refused last done old x.0 x.1 x.2 new turn
  exchange_refused last done old (Err fault) new turn = tt
