-- Why an edit is refused, and that an open desk does not say that it is closed.
use Rattle.std.proofs.Common.{◌≡◌, ◌↔◌, ◌<◌, ◌≤◌, ℕ, arith, Bool, true, false, List, [], length, refl, ap, sym, subst}
use Rattle.std.specs.Prelude.{Result, Ok, Err, IfErr, IsTrue, OnErr, IsSome, ⊤}
use mathlib.Core.List.{IsPrefix}
use Rattle.memo_core.specs.declared.claims.ClaimFault.{ClaimFault}
use Rattle.desk.specs.declared.fault.DeskFault.{DeskFault}
use Rattle.desk.specs.declared.fault.DeskFault.TheVariants as faults
use Rattle.desk.specs.Held.{IsRefusedAfter, IsRefusedBy, IsClaimRefusedBy}
use Rattle.desk.specs.Numbers.{desk_fault_number}

-- the bench says nothing of viewers; what is known of them is known of each rule
pub refused_more : {F : Type 0} (refuses is_want : F → Type 0) (known is_ahead : Type 0)
    (d : DeskFault F) → known → IsRefusedBy refuses is_want ⊥ d
    → IsRefusedBy (λ fault. known × refuses fault) is_want is_ahead d
refused_more refuses is_want known is_ahead (faults.Edit fault) k h = ((k, h.0), h.1)
refused_more refuses is_want known is_ahead (faults.Claim fault) k h = h
refused_more refuses is_want known is_ahead faults.OutOfMemory k h = h
refused_more refuses is_want known is_ahead faults.Closed k h = h
refused_more refuses is_want known is_ahead faults.NoSeat k h = absurd h

-- a test that failed for what is so
pub not_so : {b : Bool} {P : Type 0} → IsTrue b ↔ P → b ≡ false → P → ⊥
not_so {b} {P} so off p = let on : b ≡ true = so.1 p in cc

pub never : true ≡ false → ⊥
never e = cc

-- where it is open, what is not that answer is right
pub other_closed : {A F : Type 0} (r : Result A (DeskFault F)) (b : Bool)
    → (r ≡ Err faults.Closed → ⊥) → b ≡ false → (r ≡ Err faults.Closed) ↔ (b ≡ true)
other_closed r b other off = (λ e. absurd (other e), λ on. absurd (both b on off))
  where
    both : (b : Bool) → b ≡ true → b ≡ false → ⊥
    both b on off = cc

pub not_ok : {A F : Type 0} (a : A)
    → (let r : Result A (DeskFault F) = Ok a in r ≡ Err faults.Closed) → ⊥
not_ok a e = cc

pub not_seat : {A F : Type 0}
    → (let r : Result A (DeskFault F) = Err faults.NoSeat in r ≡ Err faults.Closed) → ⊥
not_seat e = cc

pub not_memory : {A F : Type 0}
    → (let r : Result A (DeskFault F) = Err faults.OutOfMemory in r ≡ Err faults.Closed) → ⊥
not_memory e = cc

pub not_claim : {A F : Type 0} (fault : ClaimFault)
    → (let r : Result A (DeskFault F) = Err (faults.Claim fault) in r ≡ Err faults.Closed) → ⊥
not_claim fault e = cc

-- a viewer is refused by the desk alone
pub own_refusal : {A F : Type 0} (r : Result A (DeskFault F)) (closed : Bool) (spare : ℕ)
    → (r ≡ Err faults.Closed) ↔ (closed ≡ true)
    → (r ≡ Err faults.NoSeat) ↔ ((closed ≡ false) × (spare ≡ 0))
    → OnErr r (closed ≡ false → spare ≡ 0) → IfErr r (λ fault. IsSome (desk_fault_number fault))
own_refusal (Ok a) closed spare is_closed no_seat only = tt
own_refusal (Err fault) true spare is_closed no_seat only =
    subst (λ (r : Result _ (DeskFault _)). IfErr r (λ f. IsSome (desk_fault_number f)))
    (sym (is_closed.1 refl)) refl
own_refusal (Err fault) false spare is_closed no_seat only =
    subst (λ (r : Result _ (DeskFault _)). IfErr r (λ f. IsSome (desk_fault_number f)))
    (sym (no_seat.1 (refl, only refl))) refl

-- a call that an open desk never refuses is refused for a closed desk
pub closed_only : {A F : Type 0} (r : Result A (DeskFault F)) (closed : Bool)
    → (r ≡ Err faults.Closed) ↔ (closed ≡ true) → OnErr r (closed ≡ true)
    → IfErr r (λ fault. fault ≡ faults.Closed)
closed_only (Ok a) closed is_closed only = tt
closed_only (Err fault) closed is_closed only =
    subst (λ (r : Result _ (DeskFault _)). IfErr r (λ f. f ≡ faults.Closed))
    (sym (is_closed.1 only)) refl

-- ---- under a lock nothing is known of the desk before

-- a viewer that has seen more has seen something
seen_some : {O : Type 0} (all me : List O) → length all < length me → me ≡ [] → ⊥
seen_some all me less none =
    let zero_is : length me ≡ 0 = ap length none in absurd (omega (arith, less, zero_is))

-- one who has seen nothing is not ahead
pub ahead_only : {A F O : Type 0} (r : Result A (DeskFault F)) (closed : Bool) (all me : List O)
    → (r ≡ Err faults.NoSeat) ↔ ((closed ≡ false) × (length all < length me))
    → IfErr r (λ fault. fault ≡ faults.NoSeat → me ≡ [] → ⊥)
ahead_only (Ok a) closed all me no_seat = tt
ahead_only (Err fault) closed all me no_seat =
    λ is. seen_some all me (no_seat.0 (ap (λ (f : DeskFault _). Err f) is)).1

module _ {T F O : Type 0} (is_legal : List O → Type 0) (is_valid : T → Type 0)
    (are_after : T → List O → Type 0) (last_number : List O → ℕ) (refuses : T → ℕ → F → Type 0)
    (is_want : F → Type 0) where
  pub refused_there : {A : Type 0} (r : Result A (DeskFault F)) (texts : T) (taken : ℕ)
      (all me : List O) → is_legal all → is_valid texts → are_after texts all
      → last_number all ≤ taken
      → IfErr r (IsRefusedBy (λ fault. IsPrefix me all × refuses texts taken fault) is_want
      (length all < length me))
      → IfErr r (IsRefusedBy (IsRefusedAfter is_legal is_valid are_after last_number refuses me)
      is_want (me ≡ [] → ⊥))
  refused_there (Ok a) texts taken all me legal valid after last h = tt
  refused_there (Err (faults.Edit fault)) texts taken all me legal valid after last h = (
    record {
      ops = all;
      begins = h.0.0;
      legal = legal;
      texts = texts;
      valid = valid;
      after = after;
      taken = taken;
      last = last;
      refuses_it = h.0.1;
    },
    h.1,
  )
  refused_there (Err (faults.Claim fault)) texts taken all me legal valid after last h = h
  refused_there (Err faults.OutOfMemory) texts taken all me legal valid after last h = tt
  refused_there (Err faults.Closed) texts taken all me legal valid after last h = tt
  refused_there (Err faults.NoSeat) texts taken all me legal valid after last h = seen_some all me h

pub claim_refused : {A F : Type 0} (r : Result A (DeskFault F)) (is_spent : Type 0)
    → IfErr r (IsClaimRefusedBy is_spent) → IfErr r (IsClaimRefusedBy ⊤)
claim_refused (Ok a) is_spent h = tt
claim_refused (Err (faults.Edit fault)) is_spent h = h
claim_refused (Err (faults.Claim fault)) is_spent h = (h.0, tt)
claim_refused (Err faults.OutOfMemory) is_spent h = tt
claim_refused (Err faults.Closed) is_spent h = tt
claim_refused (Err faults.NoSeat) is_spent h = h

-- a viewer that has not seen more is not refused
pub other_seat : {A F : Type 0} (r : Result A (DeskFault F)) (closed : Bool) (all me : ℕ)
    → (r ≡ Err faults.NoSeat → ⊥) → me ≤ all
    → (r ≡ Err faults.NoSeat) ↔ ((closed ≡ false) × (all < me))
other_seat r closed all me other le =
    (λ e. absurd (other e), λ h. let less : all < me = h.1 in absurd (omega (arith, le, less)))

pub seat_not_ok : {A F : Type 0} (a : A)
    → (let r : Result A (DeskFault F) = Ok a in r ≡ Err faults.NoSeat) → ⊥
seat_not_ok a e = cc
