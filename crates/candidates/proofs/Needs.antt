-- The needs of a combination are the facts of need of its runs: each is of a load by a store.
use Rattle.std.proofs.Common.{ℕ, zero, suc, ◌≡◌, ◌≤◌, ◌+◌, ◌↔◌, true, List, [], ◌∷◌, ◌++◌, take, length, Some, slice_get, refl, ap, sym, subst, ◌∙◌, arith, append_assoc, append-nil, Contains}
use Rattle.std.specs.List.{AllZip}
use Rattle.std.proofs.lemmas.Option.{same_Some}
use Rattle.thread_runs.specs.declared.value.Value.{Value}
use Rattle.thread_runs.specs.declared.instruction.Instruction.{Instruction}
use Rattle.thread_runs.specs.declared.instruction.Instruction.TheVariants.{Immediate, Move, AddImmediate, Operate, Load, LoadIndexed, Store, StoreIndexed, Compare, CompareImmediate, Branch, Jump, Fence}
use Rattle.thread_runs.specs.declared.run.Run as made
use Rattle.thread_runs.specs.Machine.{is_load as loads_from}
use Rattle.thread_runs.specs.Runs.{Thread, Run, IsThreadRun, executed}
use Rattle.taints.specs.Chains.{Resource, IsNeed, IsStoredRegister, event_index, is_event}
use Rattle.candidates.proofs.Choosing.{GoesOnWith}
use Rattle.candidates.proofs.Elements.{behind_first, in_first}
use Rattle.candidates.proofs.Facts.{need, facts}
use Rattle.candidates.proofs.Kept.{AreOne, one_run_each}
use Rattle.candidates.proofs.StepEvents.{Stands, events_stand}
use Rattle.run_combinations.proofs.Numbers.{number_there}
use Rattle.store_orders.specs.Events.{thread_events, initial_stores, is_load, is_store, is_store_instruction}
use Rattle.candidates.specs.Executions.{IsDependency, loads, stores, events, events_from}
use Rattle.run_combinations.specs.Search.{PrefixLists, initial_prefix}
use Rattle.run_combinations.specs.ReadChoices.{accesses_in}
use Rattle.store_orders.specs.declared.combination.Event.{Event}
use Rattle.run_combinations.specs.declared.layout.ThreadParts.{ThreadParts}

-- an event of a run is one of the execution's
pub event_of_run : (es : List Event) (thread : ℕ) (rs : List Run) (its k : ℕ) (r : Run) (e : Event)
    → slice_get rs its ≡ Some r
    → slice_get (thread_events (thread + its) r.outcome.walk.events) k ≡ Some e
    → slice_get (es ++ events_from thread rs) (length (es ++ events_from thread (take its rs)) + k)
    ≡ Some e
event_of_run es thread [] its k r e there at = absurd cc
event_of_run es thread (q ∷ rs) zero k r e there at =
    let z : thread + 0 ≡ thread = omega arith in
    let own : slice_get (thread_events thread q.outcome.walk.events) k ≡ Some e =
    ap (λ (s : Run). slice_get (thread_events thread s.outcome.walk.events) k) (same_Some _ _ there)
    ∙ ap (λ (t : ℕ). slice_get (thread_events t r.outcome.walk.events) k) (sym z) ∙ at in
    ap (λ (l : List Event). slice_get (es ++ events_from thread (q ∷ rs)) (length l + k))
    (append-nil es)
    ∙ behind_first es (events_from thread (q ∷ rs)) k
    ∙ in_first (thread_events thread q.outcome.walk.events) (events_from (thread + 1) rs) k e own
event_of_run es thread (q ∷ rs) (suc j) k r e there at =
    let own : List Event = thread_events thread q.outcome.walk.events in
    let z : thread + suc j ≡ thread + 1 + j = omega arith in
    ap
    (λ (l : List Event).
    slice_get l (length (es ++ (own ++ events_from (thread + 1) (take j rs))) + k))
    (sym (append_assoc es own (events_from (thread + 1) rs)))
    ∙ ap (λ (l : List Event). slice_get ((es ++ own) ++ events_from (thread + 1) rs) (length l + k))
    (sym (append_assoc es own (events_from (thread + 1) (take j rs))))
    ∙ event_of_run (es ++ own) (thread + 1) rs j k r e there (ap
    (λ (t : ℕ). slice_get (thread_events t r.outcome.walk.events) k) (sym z) ∙ at)

-- the thread of a run
thread_of_run : (P : Value → Type 0) (threads : List Thread) (rs : List Run) (its : ℕ) (r : Run)
    → AllZip (λ t r. IsThreadRun t P r) threads rs → slice_get rs its ≡ Some r
    → (t : Thread) × IsThreadRun t P r
thread_of_run P [] [] its r h there = absurd cc
thread_of_run P [] (q ∷ rs) its r h there = absurd h
thread_of_run P (t ∷ threads) [] its r h there = absurd h
thread_of_run P (t ∷ threads) (q ∷ rs) zero r h there =
    (t, subst (λ (s : Run). IsThreadRun t P s) (same_Some _ _ there) h.0)
thread_of_run P (t ∷ threads) (q ∷ rs) (suc k) r h there = thread_of_run P threads rs k r h.1 there

-- a load is an event, and so is a store
pub load_is : (i : Instruction) → loads_from i ≡ true → is_event i ≡ true
load_is (Load d a) e = refl
load_is (LoadIndexed d a b) e = refl
load_is (Store d a) e = refl
load_is (StoreIndexed d a b) e = refl
load_is (Fence f) e = refl
load_is (Immediate d n) e = absurd cc
load_is (Move d a) e = absurd cc
load_is (AddImmediate d a n) e = absurd cc
load_is (Operate o d a b) e = absurd cc
load_is (Compare a b) e = absurd cc
load_is (CompareImmediate a n) e = absurd cc
load_is (Branch c l) e = absurd cc
load_is (Jump l) e = absurd cc

store_is : (i : Instruction) (p : Resource) → IsStoredRegister i p
    → (is_store_instruction i ≡ true) × (is_event i ≡ true)
store_is (Store d a) p h = (refl, refl)
store_is (StoreIndexed d a b) p h = (refl, refl)
store_is (Load d a) p h = absurd h
store_is (LoadIndexed d a b) p h = absurd h
store_is (Fence f) p h = absurd h
store_is (Immediate d n) p h = absurd h
store_is (Move d a) p h = absurd h
store_is (AddImmediate d a n) p h = absurd h
store_is (Operate o d a b) p h = absurd h
store_is (Compare a b) p h = absurd h
store_is (CompareImmediate a n) p h = absurd h
store_is (Branch c l) p h = absurd h
store_is (Jump l) p h = absurd h

module _ (P : Value → Type 0) (threads : List Thread) (initial : List Value) (rs : List Run)
    (are : AllZip (λ t r. IsThreadRun t P r) threads rs) where
  pub stands : (its : ℕ) (r : Run) (n : ℕ) → slice_get rs its ≡ Some r
      → is_event (executed r.outcome.walk.steps n) ≡ true
      → Stands its r.outcome.walk.steps r.outcome.walk.events n
  stands its r n there is =
      let t : (t : Thread) × IsThreadRun t P r = thread_of_run P threads rs its r are there in
      events_stand its t.0.lines t.0.first r.values r.outcome t.1.1 n is

  pub at : (its : ℕ) (r : Run) (n : ℕ) → slice_get rs its ≡ Some r
      → (s : Stands its r.outcome.walk.steps r.outcome.walk.events n)
      → slice_get (events initial rs) (length (events initial (take its rs))
      + event_index (executed r.outcome.walk.steps) n) ≡ Some s.event
  at its r n there s =
      let z : 0 + its ≡ its = omega arith in
      event_of_run (initial_stores 0 initial) 0 rs its
      (event_index (executed r.outcome.walk.steps) n) r s.event there (ap
      (λ (t : ℕ). slice_get (thread_events t r.outcome.walk.events)
      (event_index (executed r.outcome.walk.steps) n)) z ∙ s.there)

  pub needed_load : (x y : ℕ) → IsDependency IsNeed initial rs x y
      → Contains (loads (events initial rs)) x
  needed_load x y h =
      let s : Stands h.thread h.run.outcome.walk.steps h.run.outcome.walk.events h.first = stands h.thread h.run h.first h.its_run (load_is (executed h.run.outcome.walk.steps h.first) h.related.0) in
      let z : 0 + (length (events initial (take h.thread rs)) + event_index (executed h.run.outcome.walk.steps) h.first) ≡ length (events initial (take h.thread rs)) + event_index (executed h.run.outcome.walk.steps) h.first = omega arith in
      subst (λ (k : ℕ). Contains (loads (events initial rs)) k) (z ∙ sym h.from)
      (number_there is_load 0 (events initial rs)
      (length (events initial (take h.thread rs))
      + event_index (executed h.run.outcome.walk.steps) h.first) s.event
      (at h.thread h.run h.first h.its_run s)
      (s.kind.loads h.related.0))

  needing_store : (x y : ℕ) → IsDependency IsNeed initial rs x y
      → Contains (stores (events initial rs)) y
  needing_store x y h =
      let k : (is_store_instruction (executed h.run.outcome.walk.steps h.second) ≡ true) × (is_event (executed h.run.outcome.walk.steps h.second) ≡ true) = store_is (executed h.run.outcome.walk.steps h.second) h.related.1.0 h.related.1.1 in
      let s : Stands h.thread h.run.outcome.walk.steps h.run.outcome.walk.events h.second = stands h.thread h.run h.second h.its_run k.1 in
      let z : 0 + (length (events initial (take h.thread rs)) + event_index (executed h.run.outcome.walk.steps) h.second) ≡ length (events initial (take h.thread rs)) + event_index (executed h.run.outcome.walk.steps) h.second = omega arith in
      subst (λ (k : ℕ). Contains (stores (events initial rs)) k) (z ∙ sym h.to)
      (number_there is_store 0 (events initial rs)
      (length (events initial (take h.thread rs))
      + event_index (executed h.run.outcome.walk.steps) h.second) s.event
      (at h.thread h.run h.second h.its_run s)
      (s.kind.stores k.0))

-- so the pairs of a combination are just those
pub needs_are : (V : List Value) (threads : List Thread) (ts : List ThreadParts)
    (ms : List made.Run) (rs : List Run) (initial : List Value) (c : PrefixLists)
    → AreOne V threads ms rs → GoesOnWith 0 (initial_prefix (initial_stores 0 initial)) ts ms c
    → length c.combination.events ≤ 128 → (x y : ℕ)
    → IsDependency IsNeed initial rs x y ↔ (accesses_in (events initial rs) c.needs).Need x y
needs_are V threads ts ms rs initial c one g few x y = (
  λ h. (
    (facts need V threads ts ms rs initial c one g few x y).1 h,
    needed_load (Contains V) threads initial rs are x y h,
    needing_store (Contains V) threads initial rs are x y h,
  ),
  λ h. (facts need V threads ts ms rs initial c one g few x y).0 h.0,
)
  where
    are : AllZip (λ t r. IsThreadRun t (Contains V) r) threads rs
    are = one_run_each V threads ms rs one
