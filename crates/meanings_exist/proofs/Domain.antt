-- The values after each round are finite, and whether they are refused is decided.
use Rattle.std.proofs.Common.{◌≡◌, ◌⊎◌, inl, inr, ℕ, zero, suc, ◌<◌, List, Contains, length, sym}
use Rattle.text_values.specs.declared.test.Place.TheVariants as observables
use Rattle.text_values.specs.TestValue.{Content}
use Rattle.meaning.specs.Sets.{Set, IsListOf, HasOver}
use Rattle.meaning.specs.Names.{Name, locations}
use Rattle.meaning.specs.Machine.{Value, NoValue, is_load, stored_values}
use Rattle.meaning.specs.Runs.{Run, initial_value}
use Rattle.meaning.specs.Domain.{FreeRun, IsFreeRun, HasStored, IsStoredFreely, IsInitialValue, InRound, InDomain, instruction_count}
use Rattle.meaning.specs.Refusals.{HasManyFreeRuns, HasManyValues, Refusal, TooManyEvents, TooManyValues, TooManyRuns, TooManyCandidates, AddressFault, TooManyCombinations, IsRefusedAt}
use Rattle.meanings_exist.proofs.Decisions.{Decided, decided_as, not_decided, both_decided, either_decided, same_value}
use Rattle.meanings_exist.proofs.Finite.{Finite, finite_as, finite_list, finite_either, finite_over, finite_map, finite_where, finite_below, some_decided, listed, over_decided}
use Rattle.meanings_exist.proofs.FreeRuns.{same_free, free_runs}

initial_values : (t : Content) → Finite (IsInitialValue t)
initial_values t =
    finite_as
    (λ v. (l : Name) × Contains (locations t) l
    × (initial_value t (observables.Location l) ≡ v))
    (IsInitialValue t) (λ v h. (h.0, h.1, sym h.2)) (λ v h. (h.0, h.1, sym h.2))
    (finite_map (λ l. Contains (locations t) l)
    (λ l. initial_value t (observables.Location l)) (finite_list (locations t)))

stored_in : (r : Run) → Finite (HasStored r)
stored_in r =
    finite_over (λ i. Contains r.instances i)
    (λ i v. Contains (stored_values i.instruction i.before) v) (finite_list r.instances)
    (λ i there. finite_list (stored_values i.instruction i.before))

module _ (t : Content) (V : Set Value) (values : Finite V) where
  abbrev StoredBy : ℕ → Set Value
  StoredBy thread v = (f : FreeRun) × IsFreeRun t V thread f × HasStored f.run v

  stored_freely : Finite (IsStoredFreely t V)
  stored_freely =
      finite_as (λ v. (thread : ℕ) × (thread < length t.threads) × StoredBy thread v)
      (IsStoredFreely t V) (λ v h. (h.0, h.1, h.2.0, h.2.1, h.2.2))
      (λ v h. (h.0, h.1, (h.2, h.3, h.4)))
      (finite_over (λ thread. thread < length t.threads) StoredBy
      (finite_below (length t.threads))
      (λ thread lt. finite_over (IsFreeRun t V thread) (λ f v. HasStored f.run v)
      (free_runs V values t thread) (λ f is. stored_in f.run)))

pub in_round : (t : Content) (k : ℕ) → Finite (InRound t k)
in_round t zero = initial_values t
in_round t (suc k) =
    finite_either (InRound t k) (λ v. IsStoredFreely t (InRound t k) v × (v ≡ NoValue → ⊥))
    (in_round t k)
    (finite_where (IsStoredFreely t (InRound t k)) (λ v. v ≡ NoValue → ⊥)
    (stored_freely t (InRound t k) (in_round t k))
    (λ v is. not_decided (same_value v NoValue)))

pub in_domain : (t : Content) → Finite (InDomain t)
in_domain t = in_round t (instruction_count is_load t)

pub rounds_listed : (t : Content) (k : ℕ) → (vs : List Value) × IsListOf (λ v. InRound t k v) vs
rounds_listed t k = listed (λ v. InRound t k v) (λ v w is are. same_value v w) (in_round t k)

-- ---- refusals

many_values : (t : Content) (k : ℕ) → Decided (HasManyValues t k)
many_values t k =
    over_decided (λ v. InRound t k v) (λ v w is are. same_value v w) 16 (in_round t k)

many_runs : (t : Content) (k : ℕ) → Decided (HasManyFreeRuns t k)
many_runs t k =
    some_decided (λ thread. thread < length t.threads)
    (λ thread. HasOver 4096 (λ (f : FreeRun). IsFreeRun t (InRound t k) thread f))
    (finite_below (length t.threads))
    (λ thread lt. over_decided (λ (f : FreeRun). IsFreeRun t (InRound t k) thread f)
    (same_free t (InRound t k) thread) 4096 (free_runs (InRound t k) (in_round t k) t thread))

pub refused_or_not : (t : Content) (k : ℕ) → Decided ((r : Refusal) × IsRefusedAt t k r)
refused_or_not t k =
    decided_as to back
    (either_decided (many_values t k)
    (both_decided (not_decided (many_values t k)) (many_runs t k)))
  where
    to : HasManyValues t k ⊎ ((HasManyValues t k → ⊥) × HasManyFreeRuns t k)
        → (r : Refusal) × IsRefusedAt t k r
    to (inl values) = (TooManyValues, values)
    to (inr runs) = (TooManyRuns, runs)

    back : (r : Refusal) × IsRefusedAt t k r
        → HasManyValues t k ⊎ ((HasManyValues t k → ⊥) × HasManyFreeRuns t k)
    back (TooManyValues, is) = inl is
    back (TooManyRuns, is) = inr is
    back (TooManyEvents, is) = absurd is
    back (TooManyCandidates, is) = absurd is
    back (AddressFault, is) = absurd is
    back (TooManyCombinations, is) = absurd is
