-- Of two events of one thread the one with the lower number has the lower index.
use Rattle.std.proofs.Common.{ℕ, zero, suc, ◌≡◌, ◌<◌, ◌≤◌, ◌+◌, ◌⊎◌, inl, inr, Bool, true, false, List, [], ◌∷◌, ◌++◌, map, length, Option, Some, None, option_map, slice_get, refl, sym, ap, subst, ◌∙◌, arith, if◌then◌else◌}
use Rattle.std.proofs.lemmas.Bool.{cases_lt}
use Rattle.std.proofs.lemmas.Option.{same_Some, slice_get_within, slice_get-map}
use Rattle.text_values.specs.TestValue.{Content}
use Rattle.meaning.specs.Names.{Name, locations}
use Rattle.meaning.specs.Runs.{Instance, Run}
use Rattle.meaning.specs.Dependencies.{is_event}
use Rattle.meaning.specs.Executions.{Event, Initial, Does}
use Rattle.meaning_executions.specs.Events.{IsNumbered, events_from, events_in, named_events}
use Rattle.meaning_executions.proofs.Lists.{which_part, StandsOnce}
use Rattle.meaning_executions.proofs.Numbering.{named_once}

one_index : {u v i j : ℕ} → Does u i ≡ Does v j → i ≡ j
one_index e = cc

one_thread : {u v i j : ℕ} → Does u i ≡ Does v j → u ≡ v
one_thread e = cc

-- an event of a thread, at this index or behind
stands_behind : (thread index : ℕ) (is : List Instance) (k u i : ℕ)
    → slice_get (events_from thread index is) k ≡ Some (Does u i) → (thread ≡ u) × (index ≤ i)
stands_behind thread index [] k u i at = absurd cc
stands_behind thread index (x ∷ is) k u i at =
    go (is_event x.instruction) k at (λ n. stands_behind thread (suc index) is n u i)
  where
    go : (b : Bool) (n : ℕ)
        → slice_get (if b then Does thread index ∷ events_from thread (suc index) is else events_from thread (suc index) is) n ≡ Some (Does u i)
        → ((m : ℕ) → slice_get (events_from thread (suc index) is) m ≡ Some (Does u i)
        → (thread ≡ u) × (suc index ≤ i)) → (thread ≡ u) × (index ≤ i)
    go true zero e rest =
        let is : index ≡ i = one_index (same_Some _ _ e) in
        (one_thread (same_Some _ _ e), omega (arith, is))
    go true (suc n) e rest = let h : _ = rest n e in let le : suc index ≤ i = h.1 in (h.0, omega (arith, le))
    go false n e rest = let h : _ = rest n e in let le : suc index ≤ i = h.1 in (h.0, omega (arith, le))

run_rises : (thread index : ℕ) (is : List Instance) (m n u v i j : ℕ)
    → slice_get (events_from thread index is) m ≡ Some (Does u i)
    → slice_get (events_from thread index is) n ≡ Some (Does v j) → m < n → i < j
run_rises thread index [] m n u v i j at there lt = absurd cc
run_rises thread index (x ∷ is) m n u v i j at there lt =
    go (is_event x.instruction) m n at there lt
    (λ k l. run_rises thread (suc index) is k l u v i j)
  where
    go : (b : Bool) (k l : ℕ)
        → slice_get (if b then Does thread index ∷ events_from thread (suc index) is else events_from thread (suc index) is) k ≡ Some (Does u i)
        → slice_get (if b then Does thread index ∷ events_from thread (suc index) is else events_from thread (suc index) is) l ≡ Some (Does v j)
        → k < l
        → ((p q : ℕ) → slice_get (events_from thread (suc index) is) p ≡ Some (Does u i)
        → slice_get (events_from thread (suc index) is) q ≡ Some (Does v j) → p < q → i < j)
        → i < j
    go true zero zero e f less rest = absurd (omega (arith, less))
    go true zero (suc l) e f less rest =
        let is_it : index ≡ i = one_index (same_Some _ _ e) in
        let le : suc index ≤ j = (stands_behind thread (suc index) is l v j f).1 in
        omega (arith, is_it, le)
    go true (suc k) zero e f less rest = absurd (omega (arith, less))
    go true (suc k) (suc l) e f less rest = rest k l e f (omega (arith, less))
    go false k l e f less rest = rest k l e f less

thread_behind : (thread : ℕ) (qs : List Run) (k u i : ℕ)
    → slice_get (events_in thread qs) k ≡ Some (Does u i) → thread ≤ u
thread_behind thread [] k u i at = absurd cc
thread_behind thread (q ∷ qs) k u i at =
    elim (which_part (events_from thread 0 q.instances) (events_in (suc thread) qs) k (Does u i) at) [
      | inl there ↦
          let is : thread ≡ u = (stands_behind thread 0 q.instances k u i there).0 in
          omega (arith, is)
      | inr (n, here, there) ↦
          let le : suc thread ≤ u = thread_behind (suc thread) qs n u i there in omega (arith, le)
    ]

runs_rise : (thread : ℕ) (qs : List Run) (m n u i j : ℕ)
    → slice_get (events_in thread qs) m ≡ Some (Does u i)
    → slice_get (events_in thread qs) n ≡ Some (Does u j) → m < n → i < j
runs_rise thread [] m n u i j at there lt = absurd cc
runs_rise thread (q ∷ qs) m n u i j at there lt =
    both
    (which_part (events_from thread 0 q.instances) (events_in (suc thread) qs) m (Does u i) at)
    (which_part (events_from thread 0 q.instances) (events_in (suc thread) qs) n (Does u j) there)
    (λ k l. runs_rise (suc thread) qs k l u i j)
  where
    both : ((slice_get (events_from thread 0 q.instances) m ≡ Some (Does u i))
        ⊎ ((k : ℕ) × (m ≡ length (events_from thread 0 q.instances) + k) × (slice_get (events_in (suc thread) qs) k ≡ Some (Does u i))))
        → ((slice_get (events_from thread 0 q.instances) n ≡ Some (Does u j))
        ⊎ ((k : ℕ) × (n ≡ length (events_from thread 0 q.instances) + k) × (slice_get (events_in (suc thread) qs) k ≡ Some (Does u j))))
        → ((k l : ℕ) → slice_get (events_in (suc thread) qs) k ≡ Some (Does u i)
        → slice_get (events_in (suc thread) qs) l ≡ Some (Does u j) → k < l → i < j)
        → i < j
    both (inl e) (inl f) rest = run_rises thread 0 q.instances m n u u i j e f lt
    both (inl e) (inr (l, is, f)) rest =
        let here : thread ≡ u = (stands_behind thread 0 q.instances m u i e).0 in
        let le : suc thread ≤ u = thread_behind (suc thread) qs l u j f in
        absurd (omega (arith, here, le))
    both (inr (k, is, e)) (inl f) rest =
        let below : n < length (events_from thread 0 q.instances) = slice_get_within (events_from thread 0 q.instances) n (Does u j) f in
        absurd (omega (arith, below, is, lt))
    both (inr (k, is, e)) (inr (l, at_l, f)) rest = rest k l e f (omega (arith, is, at_l, lt))

no_initial : (ls : List Name) (k u i : ℕ) → slice_get (map Initial ls) k ≡ Some (Does u i) → ⊥
no_initial [] k u i at = cc
no_initial (l ∷ ls) zero u i at = cc
no_initial (l ∷ ls) (suc k) u i at = no_initial ls k u i at

module _ (t : Content) (qs : List Run) where
  behind_initial : (n u i : ℕ) → IsNumbered (named_events t qs) n (Does u i)
      → (k : ℕ) × (n ≡ length (map Initial (locations t)) + k)
      × (slice_get (events_in 0 qs) k ≡ Some (Does u i))
  behind_initial n u i at =
      elim (which_part (map Initial (locations t)) (events_in 0 qs) n (Does u i) at) [
        | inl there ↦ absurd (no_initial (locations t) n u i there)
        | inr there ↦ there
      ]

  numbers_rise : (m n u i j : ℕ) → IsNumbered (named_events t qs) m (Does u i)
      → IsNumbered (named_events t qs) n (Does u j) → m < n → i < j
  numbers_rise m n u i j at there lt =
      let one : _ = behind_initial m u i at in
      let other : _ = behind_initial n u j there in
      runs_rise 0 qs one.0 other.0 u i j one.2 other.2 (omega (arith, one.1, other.1, lt))

  indexes_rise : (m n u i j : ℕ) → IsNumbered (named_events t qs) m (Does u i)
      → IsNumbered (named_events t qs) n (Does u j) → i < j → m < n
  indexes_rise m n u i j at there lt = elim (cases_lt m n) [
    | inl less ↦ less
    | inr le ↦ elim (cases_lt n m) [
      | inl more ↦
          let back : j < i = numbers_rise n m u j i there at more in
          absurd (omega (arith, back, lt))
      | inr ge ↦
          let same : m ≡ n = omega (arith, le, ge) in
          let one : Some (Does u i) ≡ Some (Does u j) =
          sym at ∙ (ap (λ (k : ℕ). slice_get (named_events t qs) k) same ∙ there) in
          let is : i ≡ j = one_index (same_Some _ _ one) in
          absurd (omega (arith, is, lt))
    ]
  ]

  pub order_same : (m n u i j : ℕ) → IsNumbered (named_events t qs) m (Does u i)
      → IsNumbered (named_events t qs) n (Does u j) → ((m < n → i < j) × (i < j → m < n))
  order_same m n u i j at there =
      (λ lt. numbers_rise m n u i j at there lt, λ lt. indexes_rise m n u i j at there lt)
