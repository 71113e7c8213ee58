-- What a location may hold, value by value and location by location.
use Rattle.std.proofs.Common.{Vec, ℕ, zero, suc, arith, ◌≡◌, ◌<◌, ◌≤◌, ◌+◌, ◌⊎◌, inl, inr, List, [], ◌∷◌, ◌++◌, take, length, get_or, refl, sym, ap, subst, ◌∙◌, Some, slice_get, slice_index_or, replicate}
use Rattle.std.specs.declared.alloc.Global.{Global}
use Rattle.std.proofs.lemmas.List.{take_more}
use Rattle.thread_runs.specs.declared.value.Value.{Value}
use Rattle.thread_runs.specs.declared.value.Value.TheVariants.{Number}
use Rattle.thread_runs.specs.declared.instruction.Program.{Program}
use Rattle.thread_runs.specs.Machine.{register}
use Rattle.thread_runs.specs.AllRuns.{first_of}
use Rattle.thread_runs.specs.LocationValues.{MayHold, AreLeft, none, AreLocationValues}
use Rattle.thread_runs.proofs.Serving.{one_stays, one_goes}

-- a register of a thread that is not there
past_or : {X : Type 0} (xs : List X) (i : ℕ) (d : X) → length xs ≤ i → slice_index_or xs i d ≡ d
past_or [] i d le = refl
past_or (x ∷ xs) zero d le = absurd (omega (arith, le))
past_or (x ∷ xs) (suc i) d le = past_or xs i d (omega (arith, le))

all_one : (n r : ℕ) (v : Value) → slice_index_or (replicate n v) r v ≡ v
all_one zero r v = refl
all_one (suc n) zero v = refl
all_one (suc n) (suc r) v = all_one n r v

pub first_none : (p : Program) (t r : ℕ) → length p.registers.items ≤ t
    → register (first_of p t) r ≡ Number 0
first_none p t r le =
    ap (λ (vs : List Value). slice_index_or vs r (Number 0))
    (past_or p.registers.items t (replicate 32 (Number 0)) le) ∙ all_one 32 r (Number 0)

-- one value more
module _ {X : Type 0} (Out : X → Type 0) (xs ys zs : List X) (i : ℕ) where
  pub none_yet : ys ≡ [] → AreLeft Out (take 0 xs) ys
  none_yet e =
      subst (λ (l : List X). AreLeft Out (take 0 xs) l) (sym e) (subst
      (λ (l : List X). AreLeft Out l []) (sym (take_none xs)) none)
    where
      take_none : (us : List X) → take 0 us ≡ []
      take_none [] = refl
      take_none (u ∷ us) = refl

  pub next_stays : (d : X) → i < length xs → AreLeft Out (take i xs) ys
      → zs ≡ ys ++ get_or xs i d ∷ [] → AreLeft Out (take (i + 1) xs) zs
  next_stays d lt h e =
      subst (λ (l : List X). AreLeft Out l zs) (sym (take_more xs i d lt))
      (subst (λ (l : List X). AreLeft Out (take i xs ++ get_or xs i d ∷ []) l) (sym e)
      (one_stays Out (take i xs) ys (get_or xs i d) h))

  pub next_goes : (d : X) → i < length xs → AreLeft Out (take i xs) ys → Out (get_or xs i d)
      → zs ≡ ys → AreLeft Out (take (i + 1) xs) zs
  next_goes d lt h out e =
      subst (λ (l : List X). AreLeft Out l zs) (sym (take_more xs i d lt))
      (subst (λ (l : List X). AreLeft Out (take i xs ++ get_or xs i d ∷ []) l) (sym e)
      (one_goes Out (take i xs) ys (get_or xs i d) h out))

-- one location more
get_more : {X : Type 0} (xs : List X) (x y : X) (k : ℕ) → slice_get (xs ++ x ∷ []) k ≡ Some y
    → (slice_get xs k ≡ Some y) ⊎ ((k ≡ length xs) × (x ≡ y))
get_more [] x y zero e = inr (refl, cc)
get_more [] x y (suc k) e = absurd cc
get_more (z ∷ zs) x y zero e = inl e
get_more (z ∷ zs) x y (suc k) e =
    elim (get_more zs x y k e) [ inl old ↦ inl old | inr t ↦ inr (omega (arith, t.0), t.1) ]

pub one_held : (p : Program) (V : List Value) (n : ℕ) (held after : List (Vec Value Global))
    (vs : Vec Value Global)
    → length held ≡ n → AreLocationValues p V held → AreLeft (λ v. MayHold p n v → ⊥) V vs.items
    → after ≡ held ++ vs ∷ [] → AreLocationValues p V after
one_held p V n held after vs many are here e location ws got =
    elim
    (get_more held vs ws location (ap (λ (l : List (Vec Value Global)). slice_get l location)
    (sym e) ∙ got)) [
      | inl old ↦ are location ws old
      | inr new ↦
          let at : n ≡ location = sym many ∙ sym new.0 in
          subst (λ (k : ℕ). AreLeft (λ v. MayHold p k v → ⊥) V ws.items) at (subst
          (λ (us : Vec Value Global). AreLeft (λ v. MayHold p n v → ⊥) V us.items) new.1
          here)
    ]
