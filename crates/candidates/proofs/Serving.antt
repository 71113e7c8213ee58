-- Runs with a load of what its location never holds are in no execution.
use Rattle.std.proofs.Common.{vec_len, ℕ, zero, suc, arith, ◌≡◌, ◌<◌, ◌+◌, inl, inr, List, [], ◌∷◌, map, refl, sym, ap, subst, ◌∙◌, Some, slice_get, Contains}
use Rattle.std.specs.List.{flat_map, AllZip}
use Rattle.std.proofs.lemmas.List.Elements.{Contains-push_cases}
use Rattle.thread_runs.specs.declared.value.Value.{Value}
use Rattle.thread_runs.specs.declared.value.Value.TheVariants.{Number, Address, NoValue}
use Rattle.thread_runs.specs.declared.instruction.Event as run
use Rattle.thread_runs.specs.declared.instruction.Event.TheVariants as does
use Rattle.thread_runs.specs.declared.instruction.Program.{Program}
use Rattle.thread_runs.specs.Runs.{Thread, Run, IsThreadRun}
use Rattle.thread_runs.specs.AllRuns.{thread_of}
use Rattle.thread_runs.specs.LocationValues.{MayHold, AreLeft, none, stays, goes, IsUnserved}
use Rattle.thread_runs.proofs.Serving.{all_go, left_append, left_map}
use Rattle.ppc_lowering.specs.Domain.{threads_from, threads_of}
use Rattle.store_orders.specs.Events.{action_in, with_action, thread_events, initial_stores, HasLoad, HasStore, CannotRead}
use Rattle.store_orders.specs.Lists as lists
use Rattle.store_orders.specs.Lists.{IsFiltered}
use Rattle.store_orders.proofs.Filters.{IsFiltered-append, IsFiltered-split, Split}
use Rattle.run_combinations.proofs.Pruning.{load_front, load_behind, store_split}
use Rattle.store_orders.specs.declared.combination.Action.TheVariants.{Store}
use Rattle.candidates.proofs.AllListed.{filtered_there}
use Rattle.candidates.proofs.Elements.{member_cases, member_first, member_later, no_member, mapped, joined}
use Rattle.candidates.proofs.Listing.{none_executed}
use Rattle.candidates.specs.Executions.{Execution, IsExecution, product, read_choices, orders, over_runs, events, events_from}

-- one of the runs has such a load
abbrev pub HasUnserved : Program → List Run → Type 0
HasUnserved p rs = (r : Run) × Contains rs r × IsUnserved p r

-- all choices, and those of the runs that stay
rest_left : (p : Program) (r : Run) (P R : List (List Run)) → AreLeft (HasUnserved p) P R
    → AreLeft (HasUnserved p) (map (λ (rest : List Run). r ∷ rest) P)
    (map (λ (rest : List Run). r ∷ rest) R)
rest_left p r P R h =
    left_map (HasUnserved p) (HasUnserved p) (λ (rest : List Run). r ∷ rest)
    (λ rest u. (u.0, member_later r rest u.0 u.1, u.2)) P R h

none_with : (p : Program) (r : Run) (P : List (List Run)) → IsUnserved p r
    → AreLeft (HasUnserved p) (map (λ (rest : List Run). r ∷ rest) P) []
none_with p r P u =
    all_go (HasUnserved p) (map (λ (rest : List Run). r ∷ rest) P)
    (λ rs c.
    let (rest, within, is) = mapped (λ (rest : List Run). r ∷ rest) P rs c in
    subst (HasUnserved p) is (r, member_first r rest, u))

rows_left : (p : Program) (P R : List (List Run)) → AreLeft (HasUnserved p) P R → (xs ys : List Run)
    → AreLeft (IsUnserved p) xs ys
    → AreLeft (HasUnserved p) (flat_map (λ (r : Run). map (λ (rest : List Run). r ∷ rest) P) xs)
    (flat_map (λ (r : Run). map (λ (rest : List Run). r ∷ rest) R) ys)
rows_left p P R h [] ys none = none
rows_left p P R h (x ∷ xs) ys (stays {ys = zs} k) =
    left_append (HasUnserved p) (map (λ (rest : List Run). x ∷ rest) P)
    (flat_map (λ (r : Run). map (λ (rest : List Run). r ∷ rest) P) xs)
    (map (λ (rest : List Run). x ∷ rest) R) (flat_map
    (λ (r : Run). map (λ (rest : List Run). r ∷ rest) R) zs)
    (rest_left p x P R h) (rows_left p P R h xs zs k)
rows_left p P R h (x ∷ xs) ys (goes u k) =
    left_append (HasUnserved p) (map (λ (rest : List Run). x ∷ rest) P)
    (flat_map (λ (r : Run). map (λ (rest : List Run). r ∷ rest) P) xs) []
    (flat_map (λ (r : Run). map (λ (rest : List Run). r ∷ rest) R) ys)
    (none_with p x P u) (rows_left p P R h xs ys k)

product_left : (p : Program) (alls rss : List (List Run)) → AllZip (AreLeft (IsUnserved p)) alls rss
    → AreLeft (HasUnserved p) (product alls) (product rss)
product_left p [] [] h = stays none
product_left p [] (rs ∷ rss) h = absurd h
product_left p (all ∷ alls) [] h = absurd h
product_left p (all ∷ alls) (rs ∷ rss) h =
    rows_left p (product alls) (product rss) (product_left p alls rss h.1) all rs h.0

-- what a load takes, and what a store has
raw_load : (thread l : ℕ) (v : Value) (es : List run.Event) → Contains es (does.Load (Address l) v)
    → HasLoad l v (thread_events thread es)
raw_load thread l v [] c = absurd (no_member (does.Load (Address l) v) c)
raw_load thread l v (e ∷ es) c = elim (member_cases e es (does.Load (Address l) v) c) [
  | inl is ↦ load_front l v (with_action thread (action_in e)) (thread_events thread es)
      (subst (λ (x : run.Event). HasLoad l v (with_action thread (action_in x))) (sym is)
      (inl refl))
  | inr d ↦ load_behind l v (with_action thread (action_in e)) (thread_events thread es)
      (raw_load thread l v es d)
]

run_load : (thread l : ℕ) (v : Value) (rs : List Run) (r : Run) → Contains rs r
    → Contains r.outcome.walk.events (does.Load (Address l) v)
    → HasLoad l v (events_from thread rs)
run_load thread l v [] r c d = absurd (no_member r c)
run_load thread l v (q ∷ rs) r c d = elim (member_cases q rs r c) [
  | inl is ↦ load_front l v (thread_events thread q.outcome.walk.events)
      (events_from (thread + 1) rs) (raw_load thread l v q.outcome.walk.events (subst
      (λ (x : Run). Contains x.outcome.walk.events (does.Load (Address l) v)) (sym is) d))
  | inr e ↦ load_behind l v (thread_events thread q.outcome.walk.events)
      (events_from (thread + 1) rs) (run_load (thread + 1) l v rs r e d)
]

stored_at : (thread l : ℕ) (v : Value) (e : run.Event)
    → HasStore l v (with_action thread (action_in e)) → e ≡ does.Store (Address l) v
stored_at thread l v (does.Store (Address m) w) (inl is) = write_is is
  where
    write_is : Store m w ≡ Store l v → does.Store (Address m) w ≡ does.Store (Address l) v
    write_is e = cc
stored_at thread l v (does.Store (Address m) w) (inr none_there) = absurd none_there
stored_at thread l v (does.Store (Number m) w) h = absurd h
stored_at thread l v (does.Store NoValue w) h = absurd h
stored_at thread l v (does.Load (Address m) w) (inl is) = absurd cc
stored_at thread l v (does.Load (Address m) w) (inr none_there) = absurd none_there
stored_at thread l v (does.Load (Number m) w) h = absurd h
stored_at thread l v (does.Load NoValue w) h = absurd h
stored_at thread l v (does.Fence f) (inl is) = absurd cc
stored_at thread l v (does.Fence f) (inr none_there) = absurd none_there

raw_store : (thread l : ℕ) (v : Value) (es : List run.Event)
    → HasStore l v (thread_events thread es) → Contains es (does.Store (Address l) v)
raw_store thread l v [] h = absurd h
raw_store thread l v (e ∷ es) h =
    elim (store_split l v (with_action thread (action_in e)) (thread_events thread es) h) [
      | inl here ↦ subst (λ (x : run.Event). Contains (e ∷ es) x) (stored_at thread l v e here)
          (member_first e es)
      | inr rest ↦ member_later e es (does.Store (Address l) v) (raw_store thread l v es rest)
    ]

initial_store : (at l : ℕ) (v : Value) (vs : List Value) → HasStore l v (initial_stores at vs)
    → (k : ℕ) × (l ≡ at + k) × (slice_get vs k ≡ Some v)
initial_store at l v [] h = absurd h
initial_store at l v (u ∷ vs) (inl is) =
    let e : at ≡ l = location_is is in
    (0, (omega (arith, e)), ap (λ (x : Value). Some x) (value_is is))
  where
    location_is : Store at u ≡ Store l v → at ≡ l
    location_is e = cc

    value_is : Store at u ≡ Store l v → u ≡ v
    value_is e = cc
initial_store at l v (u ∷ vs) (inr h) =
    let (k, e, there) = initial_store (at + 1) l v vs h in (suc k, (omega (arith, e)), there)

-- a store of a thread of the program
thread_there : (p : Program) (n : ℕ) (t : Thread) → Contains (threads_from p n) t
    → (k : ℕ) × (k < n) × (thread_of p k ≡ t)
thread_there p zero t c = absurd (no_member t c)
thread_there p (suc n) t c = elim (Contains-push_cases (threads_from p n) (thread_of p n) t c) [
  | inl before ↦ let (k, lt, is) = thread_there p n t before in (k, (omega (arith, lt)), is)
  | inr is ↦ (n, (omega arith), is)
]

abbrev IsStoredBy : List Thread → List Value → ℕ → Value → Type 0
IsStoredBy threads V l v =
    (t : Thread) × Contains threads t × (r : Run) × IsThreadRun t (Contains V) r
    × Contains r.outcome.walk.events (does.Store (Address l) v)

run_store : (V : List Value) (thread l : ℕ) (v : Value) (threads : List Thread) (rs : List Run)
    → AllZip (λ t r. IsThreadRun t (Contains V) r) threads rs → HasStore l v (events_from thread rs)
    → IsStoredBy threads V l v
run_store V thread l v [] [] are h = absurd h
run_store V thread l v [] (r ∷ rs) are h = absurd are
run_store V thread l v (t ∷ threads) [] are h = absurd are
run_store V thread l v (t ∷ threads) (r ∷ rs) are h =
    elim
    (store_split l v (thread_events thread r.outcome.walk.events) (events_from (thread + 1) rs) h) [
      | inl here ↦ (
        t,
        member_first t threads,
        r,
        are.0,
        raw_store thread l v r.outcome.walk.events here,
      )
      | inr rest ↦
          let s = run_store V (thread + 1) l v threads rs are.1 rest in
          (s.0, member_later t threads s.0 s.1, s.2, s.3, s.4)
    ]

may_hold : (p : Program) (V : List Value) (l : ℕ) (v : Value) (rs : List Run)
    → AllZip (λ t r. IsThreadRun t (Contains V) r) (threads_of p) rs
    → HasStore l v (events p.initial.items rs) → MayHold p l v
may_hold p V l v rs are h =
    elim (store_split l v (initial_stores 0 p.initial.items) (events_from 0 rs) h) [
      | inl first ↦
          let (k, e, there) = initial_store 0 l v p.initial.items first in
          let same : k ≡ l = omega (arith, e) in
          inl (ap (λ (n : ℕ). slice_get p.initial.items n) (sym same) ∙ there)
      | inr by ↦
          let s : IsStoredBy (threads_of p) V l v = run_store V 0 l v (threads_of p) rs are by in
          let t : (k : ℕ) × (k < vec_len p.threads) × (thread_of p k ≡ s.0) = thread_there p (vec_len p.threads) s.0 s.1 in
          let is : IsThreadRun (thread_of p t.0) (Contains V) s.2 = subst (λ (x : Thread). IsThreadRun x (Contains V) s.2) (sym t.2) s.3 in
          inr (t.0, t.1, s.2.values, s.2.outcome, is.1, s.4)
    ]

cannot_read : (p : Program) (V : List Value) (rs : List Run)
    → AllZip (λ t r. IsThreadRun t (Contains V) r) (threads_of p) rs → HasUnserved p rs
    → CannotRead (events p.initial.items rs)
cannot_read p V rs are u = (
  u.2.0,
  u.2.1,
  load_behind u.2.0 u.2.1 (initial_stores 0 p.initial.items) (events_from 0 rs)
      (run_load 0 u.2.0 u.2.1 rs u.0 u.1 u.2.2),
  (λ h. u.2.3 (may_hold p V u.2.0 u.2.1 rs are h)),
)

-- no execution takes them
none_of : {X : Type 0} (P : X → Type 0) (xs : List X) → ((x : X) → Contains xs x → P x → ⊥)
    → IsFiltered P xs []
none_of P [] never = lists.none
none_of P (x ∷ xs) never =
    lists.left (never x (member_first x xs)) (none_of P xs (λ y c. never y (member_later x xs y c)))

abbrev taken : List Run → List ℕ → List (List ℕ) → Execution
taken rs reads_from coherence = record { runs = rs; reads_from = reads_from; coherence = coherence }

runs_are : (initial : List Value) (rs : List Run) (x : Execution)
    → Contains (over_runs initial rs) x → x.runs ≡ rs
runs_are initial rs x c =
    let (reads_from, within, found) = joined (λ (reads_from : List ℕ). map (taken rs reads_from) (orders (events initial rs) initial)) (read_choices (events initial rs)) x c in
    let (coherence, there, is) = mapped (taken rs reads_from) (orders (events initial rs) initial) x found in
    sym (ap (λ (y : Execution). y.runs) is)

module _ (p : Program) (V : List Value) where
  abbrev Executes : Execution → Type 0
  Executes = IsExecution p.initial.items (threads_of p) (Contains V)

  none_unserved : (rs : List Run) → HasUnserved p rs
      → IsFiltered Executes (over_runs p.initial.items rs) []
  none_unserved rs u = none_of Executes (over_runs p.initial.items rs) never
    where
      never : (x : Execution) → Contains (over_runs p.initial.items rs) x → Executes x → ⊥
      never x c is =
          let are : AllZip (λ t r. IsThreadRun t (Contains V) r) (threads_of p) rs = subst (λ (qs : List Run). AllZip (λ t r. IsThreadRun t (Contains V) r) (threads_of p) qs) (runs_are p.initial.items rs x c) is.runs in
          no_member x (filtered_there Executes (over_runs p.initial.items rs) []
          (none_executed p.initial.items (threads_of p) V rs are (cannot_read p V rs are u))
          x c is)

  all_choices : (alls bs : List (List Run)) (zs : List Execution) → AreLeft (HasUnserved p) alls bs
      → IsFiltered Executes (flat_map (over_runs p.initial.items) bs) zs
      → IsFiltered Executes (flat_map (over_runs p.initial.items) alls) zs
  all_choices [] bs zs none h = h
  all_choices (a ∷ alls) bs zs (stays {ys = cs} k) h =
      let s : Split Executes (over_runs p.initial.items a) (flat_map (over_runs p.initial.items) cs) zs = IsFiltered-split Executes (over_runs p.initial.items a) (flat_map (over_runs p.initial.items) cs) zs h in
      subst
      (λ (l : List Execution).
      IsFiltered Executes (flat_map (over_runs p.initial.items) (a ∷ alls)) l)
      (sym s.whole)
      (IsFiltered-append Executes (over_runs p.initial.items a) s.first
      (flat_map (over_runs p.initial.items) alls) s.second s.of_first
      (all_choices alls cs s.second k s.of_second))
  all_choices (a ∷ alls) bs zs (goes u k) h =
      IsFiltered-append Executes (over_runs p.initial.items a) []
      (flat_map (over_runs p.initial.items) alls) zs (none_unserved a u)
      (all_choices alls bs zs k h)

  -- so the executions of all runs are those of the runs that stay
  pub all_executions : (alls rss : List (List Run)) (xs : List Execution)
      → AllZip (AreLeft (IsUnserved p)) alls rss
      → IsFiltered Executes (flat_map (over_runs p.initial.items) (product rss)) xs
      → IsFiltered Executes (flat_map (over_runs p.initial.items) (product alls)) xs
  all_executions alls rss xs left h =
      all_choices (product alls) (product rss) xs (product_left p alls rss left) h
