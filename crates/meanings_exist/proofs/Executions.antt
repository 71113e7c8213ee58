-- The executions of a test are finite.
use Rattle.std.proofs.Common.{◌≡◌, inl, inr, ℕ, ◌<◌, true, List, [], ◌∷◌, ◌++◌, zip, length, Some, slice_get, Contains, refl, ap, subst}
use Rattle.std.specs.List.{AllZip}
use Rattle.std.proofs.lemmas.List.Elements.{Contains-append_left, Contains-append_right}
use Rattle.text_values.specs.declared.instruction.Instruction as text
use Rattle.text_values.specs.TestValue.{Content}
use Rattle.meaning.specs.Sets.{Set, IsListOf, IsAcyclic}
use Rattle.meaning.specs.Names.{Name, locations}
use Rattle.meaning.specs.Runs.{Run}
use Rattle.meaning.specs.Dependencies.{Slot, IsOperand, IsStoredRegister, IsNeed}
use Rattle.meaning.specs.Executions.{Event, Initial, Does, Execution, IsEvent, IsStoreOf, ReadsFrom, Dependency, MayRead, IsOrder, AreRuns, NeedOrReads, IsExecution, loads_in, instances_of, instructions_of, Stores}
use Rattle.meaning.specs.Refusals.{HasFault}
use Rattle.meaning.proofs.Counting.{here, behind, head_or_tail}
use Rattle.plain_runs.proofs.Listing.{none_there}
use Rattle.plain_runs.proofs.Running.{no_some}
use Rattle.meanings_exist.proofs.Decisions.{Decided, decided_as, none_decided, both_decided, either_decided, same_bool, same_event, same_number, same_pair}
use Rattle.meanings_exist.proofs.Finite.{Finite, finite_as, finite_one, finite_list, finite_over, finite_if, finite_where, finite_zip, finite_listings, some_decided, member_or_not, listed}
use Rattle.meanings_exist.proofs.Paths.{acyclic_decided}
use Rattle.meanings_exist.proofs.Needs.{need_or_not}
use Rattle.meanings_exist.proofs.Threads.{all_runs}
use Rattle.meanings_exist.proofs.Domain.{in_domain}
use Rattle.meanings_exist.proofs.Executing.{same_or_not}
use Rattle.meanings_exist.proofs.Events.{store_or_not, reads_or_not, places, does_place, events, get_below, in_range, IsPlace}

-- ---- orders of stores, and what loads read

module _ (t : Content) (x : Execution) where
  event_of_store : (l : Name) (e : Event) → IsStoreOf t x l e → IsEvent t x e
  event_of_store l e h = (Stores l h.0, h.1)

  stores : (l : Name) → Finite (IsStoreOf t x l)
  stores l =
      finite_as (λ e. IsEvent t x e × IsStoreOf t x l e) (IsStoreOf t x l) (λ e h. h.1)
      (λ e h. (event_of_store l e h, h))
      (finite_where (IsEvent t x) (IsStoreOf t x l) (events t x)
      (λ e is. store_or_not t x l e))

  begins_or_not : (l : Name) (order : List Event)
      → Decided (slice_get order 0 ≡ Some (Initial l))
  begins_or_not l [] = inr (λ e. no_some (Initial l) e)
  begins_or_not l (e ∷ es) =
      decided_as (λ same. ap (λ (a : Event). Some a) same) (λ same. at_first e (Initial l) same)
      (same_event e (Initial l))
    where
      at_first : (a b : Event) → Some a ≡ Some b → a ≡ b
      at_first a b same = let is : a ≡ b = cc in is

  orders : (l : Name) → Finite (IsOrder t x l)
  orders l =
      finite_where (λ order. IsListOf (IsStoreOf t x l) order)
      (λ order. slice_get order 0 ≡ Some (Initial l))
      (finite_listings (IsStoreOf t x l) same_event (stores l))
      (λ order is. begins_or_not l order)

  coherences : Finite (λ os. AllZip (IsOrder t x) (locations t) os)
  coherences = finite_zip (IsOrder t x) (locations t) orders

  readable : (load : Event) → Finite (MayRead t x load)
  readable load =
      finite_as (λ e. IsEvent t x e × MayRead t x load e) (MayRead t x load) (λ e h. h.1)
      (λ e h. ((Stores h.0 h.1, h.3), h))
      (finite_where (IsEvent t x) (MayRead t x load) (events t x)
      (λ e is. reads_or_not t x load e))

  sources : Finite (λ es. AllZip (MayRead t x) (loads_in 0 x.runs) es)
  sources = finite_zip (MayRead t x) (loads_in 0 x.runs) readable

  -- ---- values from thin air

  pub read_below : (thread index : ℕ) (p : Slot) → IsOperand (instructions_of x thread index) p
      → index < length (instances_of x thread)
  read_below thread index p reads =
      let at : _ = in_range x (λ i. IsOperand i p) (λ h. h) thread index reads in
      get_below (instances_of x thread) index at.0 at.1

  pub reads_from_or_not : (a b : Event) → Decided (ReadsFrom x a b)
  reads_from_or_not a b =
      member_or_not (λ p. Contains (zip x.reads_from (loads_in 0 x.runs)) p)
      (same_pair same_event same_event) (finite_list (zip x.reads_from (loads_in 0 x.runs)))
      (a, b)

  pub depends_or_not : (R : (ℕ → text.Instruction) → ℕ → ℕ → Type 0)
      → ((thread i j : ℕ) → Decided (R (instructions_of x thread) i j)) → (a b : Event)
      → Decided (Dependency R x a b)
  depends_or_not R each (Does u i) (Does v j) = both_decided (same_number u v) (each u i j)
  depends_or_not R each (Initial l) b = none_decided
  depends_or_not R each (Does u i) (Initial l) = none_decided

  need_there_or_not : (a b : Event) → Decided (NeedOrReads x a b)
  need_there_or_not a b =
      either_decided
      (depends_or_not IsNeed
      (λ thread. need_or_not (instructions_of x thread) (length (instances_of x thread))
      (read_below thread))
      a b)
      (reads_from_or_not a b)

  zip_second : (xs ys : List Event) (a b : Event) → Contains (zip xs ys) (a, b) → Contains ys b
  zip_second [] ys a b there = absurd (none_there (a, b) there)
  zip_second (c ∷ xs) [] a b there = absurd (none_there (a, b) there)
  zip_second (c ∷ xs) (d ∷ ys) a b there =
      elim (head_or_tail (c, d) (zip xs ys) (a, b) there) [
        | inl at ↦
            subst (λ (e : Event). Contains (d ∷ ys) e) (ap (λ (p : Event × Event). p.1) at)
            (here d ys)
        | inr later ↦ behind d ys b (zip_second xs ys a b later)
      ]

  -- where need and reads-from lead to
  targets : List Event
  targets = (places t x).things ++ loads_in 0 x.runs

  need_place : (a b : Event) → Dependency IsNeed x a b → IsPlace t x b
  need_place (Initial l) b h = absurd h
  need_place (Does u i) (Initial l) h = absurd h
  need_place (Does u i) (Does v j) h =
      let at : _ =
      in_range x (λ instruction. IsStoredRegister instruction h.1.1.0) (λ none. none) u j
      h.1.1.1 in
      subst (λ (n : ℕ). IsPlace t x (Does n j)) h.0 (does_place t x u j at.0 at.1)

  inside : (a b : Event) → NeedOrReads x a b → Contains targets b
  unfolding targets
  inside a b (inl need) =
      Contains-append_left (places t x).things (loads_in 0 x.runs) b
      (((places t x).exact b).1 (need_place a b need))
  inside a b (inr reads) =
      Contains-append_right (places t x).things (loads_in 0 x.runs) b
      (zip_second x.reads_from (loads_in 0 x.runs) a b reads)

  acyclic_or_not : Decided (IsAcyclic (NeedOrReads x))
  acyclic_or_not = acyclic_decided (NeedOrReads x) targets inside need_there_or_not

-- ---- executions

module _ (t : Content) where
  abbrev execution_of : List Run → List Event → List (List Event) → Execution
  execution_of rs es os = record { runs = rs; reads_from = es; coherence = os }

  abbrev Ordered : List Run → List Event → Set Execution
  Ordered rs es x =
      (os : List (List Event)) × AllZip (IsOrder t (execution_of rs [] [])) (locations t) os
      × (IsAcyclic (NeedOrReads (execution_of rs es os)) × (execution_of rs es os ≡ x))

  abbrev Reading : List Run → Set Execution
  Reading rs x =
      (es : List Event) × AllZip (MayRead t (execution_of rs [] [])) (loads_in 0 rs) es
      × Ordered rs es x

  abbrev Running : Set Execution
  Running x = (rs : List Run) × AreRuns t rs × Reading rs x

  ordered : (rs : List Run) (es : List Event) → Finite (Ordered rs es)
  ordered rs es =
      finite_over (λ os. AllZip (IsOrder t (execution_of rs [] [])) (locations t) os)
      (λ os x. IsAcyclic (NeedOrReads (execution_of rs es os)) × (execution_of rs es os ≡ x))
      (coherences t (execution_of rs [] []))
      (λ os are. finite_if (IsAcyclic (NeedOrReads (execution_of rs es os)))
      (λ x. execution_of rs es os ≡ x) (acyclic_or_not t (execution_of rs es os))
      (finite_one (execution_of rs es os)))

  reading : (rs : List Run) → Finite (Reading rs)
  reading rs =
      finite_over (λ es. AllZip (MayRead t (execution_of rs [] [])) (loads_in 0 rs) es)
      (λ es. Ordered rs es) (sources t (execution_of rs [] [])) (λ es are. ordered rs es)

  running : Finite Running
  running =
      finite_over (AreRuns t) Reading (all_runs t (in_domain t)) (λ rs are. reading rs)

  made : (rs : List Run) (es : List Event) (os : List (List Event)) → AreRuns t rs
      → AllZip (MayRead t (execution_of rs [] [])) (loads_in 0 rs) es
      → AllZip (IsOrder t (execution_of rs [] [])) (locations t) os
      → IsAcyclic (NeedOrReads (execution_of rs es os)) → IsExecution t (execution_of rs es os)
  made rs es os runs reads orders acyclic =
      record { runs = runs; reads = reads; orders = orders; acyclic = acyclic }

  pub executions : Finite (IsExecution t)
  executions = finite_as Running (IsExecution t) to back running
    where
      to : (x : Execution) → Running x → IsExecution t x
      to x (rs, runs, (es, reads, (os, orders, (acyclic, e)))) =
          subst (λ (y : Execution). IsExecution t y) e (made rs es os runs reads orders acyclic)

      back : (x : Execution) → IsExecution t x → Running x
      back x is =
          (x.runs, is.runs, (x.reads_from, is.reads, (x.coherence, is.orders, (is.acyclic, refl))))

  pub executions_listed : (xs : List Execution) × IsListOf (IsExecution t) xs
  executions_listed = listed (IsExecution t) (same_or_not t) executions

  pub fault_or_not : Decided (HasFault t)
  fault_or_not =
      some_decided (IsExecution t) (λ x. (r : Run) × Contains x.runs r × (r.faulted ≡ true))
      executions
      (λ x is. some_decided (λ r. Contains x.runs r) (λ r. r.faulted ≡ true) (finite_list x.runs)
      (λ r there. same_bool r.faulted true))
