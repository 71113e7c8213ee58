-- The test that stores 1 has one execution, so what it says is known to the end.
use Rattle.std.proofs.Common.{arith, refl, rules, ◌≡◌, ◌≤◌, List, [], ◌∷◌, length, All, ℕ, zero, suc, Bool, true, true≢false, inl, inr, subst, sym, ap, ◌∙◌, Contains, Some, None, slice_get, codes, IsTrue, unwrap_or}
use Rattle.std.specs.Prelude.{Option}
use Rattle.std.specs.List.{AllZip}
use Rattle.meaning.specs.Sets.{Set, Path, IsOnce, IsListOf, HasCount, HasOver}
use Rattle.meaning.specs.Names.{Name}
use Rattle.meaning.specs.Machine.{Value, Number, is_load}
use Rattle.meaning.specs.Runs.{Run, IsRun, initial_state, lines_of_thread}
use Rattle.meaning.specs.Domain.{InDomain, InRound, IsInitialValue, FreeRun, IsFreeRun, free_run_of}
use Rattle.meaning.specs.Executions.{Event, Initial, Does, Execution, NeedOrReads, instructions_of, IsStoreOf, AreRuns, IsExecution, IsOrder, MayRead}
use Rattle.meaning.specs.Refusals.{Refusal, TooManyEvents, TooManyValues, TooManyRuns, TooManyCandidates, AddressFault, TooManyCombinations, IsRefusedAt, HasFault, IsAccepted}
use Rattle.meaning.specs.Outcome.{EndsIn, Satisfies, IsCounted, Says}
use Rattle.meaning.specs.Evaluates.{IsKept, MeetsFlag}
use Rattle.meaning.specs.Examples.{store_test, store_run, store_execution, store_items, store_state, store_evaluation}
use Rattle.meaning.proofs.Counting.{counts_are_one, first_pair, here}

-- ---- The execution is one

-- its run has no load
no_load : (u i : ℕ) → IsTrue (is_load (instructions_of store_execution u i)) → ⊥
no_load zero zero h = search rules
no_load zero (suc zero) h = search rules
no_load zero (suc (suc i)) h = search rules
no_load (suc u) i h = search rules

no_pair : (a b : Event) → NeedOrReads store_execution a b → ⊥
no_pair (Initial l) b (inl h) = h
no_pair (Does u i) (Initial l) (inl h) = h
no_pair (Does u i) (Does v j) (inl h) = no_load u i h.1.0
no_pair a b (inr h) = search rules

pub no_cycle : (a b : Event) (through : List Event)
    → Path (NeedOrReads store_execution) a through b → ⊥
no_cycle a b [] h = no_pair a b h
no_cycle a b (c ∷ cs) h = no_pair a c h.0

-- its stores
abbrev IsStore : Event → Type 0
IsStore e = IsStoreOf store_test store_execution (codes "x") e

starts : IsStore (Initial (codes "x"))
starts = (Number 0, ((0, omega arith, refl), refl))

ends : IsStore (Does 0 1)
ends = (_, (_, refl, (refl, (0, omega arith, refl))))

abbrev stores : List Event
stores = Initial (codes "x") ∷ Does 0 1 ∷ []

pub listed_store : (e : Event) → Contains stores e → IsStore e
listed_store e (zero, lt, eq) = subst (λ (f : Event). IsStore f) eq starts
listed_store e (suc zero, lt, eq) = subst (λ (f : Event). IsStore f) eq ends
listed_store e (suc (suc k), lt, eq) = absurd (omega arith)

pub store_listed : (e : Event) → IsStore e → Contains stores e
store_listed (Initial l) (v, ((zero, lt, eq), same)) = (0, omega arith, ap Initial eq)
store_listed (Initial l) (v, ((suc k, lt, eq), same)) = absurd (omega arith)
store_listed (Does zero zero) h = search rules
store_listed (Does zero (suc zero)) h = (1, omega arith, refl)
store_listed (Does zero (suc (suc i))) h = search rules
store_listed (Does (suc u) i) h = search rules

run_is_one : (thread : ℕ) (r : Run) → slice_get store_execution.runs thread ≡ Some r
    → IsRun store_test (InDomain store_test) thread r
run_is_one zero r h = search rules
run_is_one (suc thread) r h = search rules

once : IsOnce stores
once = search rules

pub store_executes : IsExecution store_test store_execution
store_executes = record {
  runs = record { threads = refl; each = run_is_one };
  reads = tt;
  orders = (
    (record { once = once; exact = λ e. (listed_store e, store_listed e) }, refl),
    tt,
  );
  acyclic = λ a h. no_cycle a a h.0 h.1;
}

-- ---- No other execution

abbrev the_run : Run
the_run =
    unwrap_or store_run
    (record { instances = []; final = initial_state store_test 0; faulted = true })

some_is_one : {X : Type 0} (x y : X) → Some x ≡ Some y → x ≡ y
some_is_one x y same = ap (λ (o : Option _). unwrap_or o x) same

no_none : {X : Type 0} (x : X) → None ≡ Some x → ⊥
no_none x same = search (rules, same)

only_run : (V : Value → Type 0) (r : Run) → IsRun store_test V 0 r → the_run ≡ r
only_run V r ([], all, eq) = some_is_one the_run r eq
only_run V r (v ∷ vs, all, eq) = absurd (no_none r eq)

only_runs : (runs : List Run) → AreRuns store_test runs → store_execution.runs ≡ runs
only_runs [] are = absurd (let n : _ = are.threads in omega arith)
only_runs (r ∷ []) are =
    ap (λ (one : Run). one ∷ []) (only_run (InDomain store_test) r (are.each 0 r refl))
only_runs (r ∷ q ∷ rs) are = absurd (let n : _ = are.threads in omega arith)

-- two stores of which the first is the initial one
only_second : (e : Event) → Contains stores e → (Initial (codes "x") ≡ e → ⊥) → Does 0 1 ≡ e
only_second e (zero, lt, eq) other = absurd (other eq)
only_second e (suc zero, lt, eq) other = eq
only_second e (suc (suc k), lt, eq) other = absurd (omega arith)

only_order : (order : List Event) → IsListOf IsStore order
    → slice_get order 0 ≡ Some (Initial (codes "x")) → stores ≡ order
only_order order of_stores first = by_length order (length order) refl of_stores first
  where
    lengths : (order : List Event) → IsListOf IsStore order → 2 ≡ length order
    lengths order of_stores =
        counts_are_one IsStore 2 (length order)
        (stores, record { once = once; exact = λ e. (listed_store e, store_listed e) }, refl)
        (order, of_stores, refl)

    by_length : (order : List Event) (n : ℕ) → length order ≡ n → IsListOf IsStore order
        → slice_get order 0 ≡ Some (Initial (codes "x")) → stores ≡ order
    by_length [] n is of_stores first = absurd (let two : _ = lengths [] of_stores in omega arith)
    by_length (a ∷ []) n is of_stores first =
        absurd (let two : _ = lengths (a ∷ []) of_stores in omega arith)
    by_length (a ∷ b ∷ c ∷ rest) n is of_stores first =
        absurd (let two : _ = lengths (a ∷ b ∷ c ∷ rest) of_stores in omega arith)
    by_length (a ∷ b ∷ []) n is of_stores first =
        let head : a ≡ Initial (codes "x") = some_is_one a (Initial (codes "x")) first in
        let second : Does 0 1 ≡ b =
        only_second b (store_listed b ((of_stores.exact b).0 (1, omega arith, refl)))
        (λ same. first_pair (λ x y. x ≡ y → ⊥) a (b ∷ []) of_stores.once b (here b [])
        (head ∙ same)) in
        λ i. sym head i ∷ second i ∷ []

-- the runs with other reads-from and coherence
abbrev executed : List Event → List (List Event) → Execution
executed rf co =
    record { runs = store_execution.runs; reads_from = rf; coherence = co }

only_coherence : (rf : List Event) (co : List (List Event))
    → AllZip (IsOrder store_test (executed rf co))
    (codes "x" ∷ []) co
    → store_execution.coherence ≡ co
only_coherence rf [] orders = absurd orders
only_coherence rf (order ∷ []) orders =
    ap (λ (one : List Event). one ∷ []) (only_order order orders.0.0 orders.0.1)
only_coherence rf (order ∷ other ∷ rest) orders = absurd orders.1

only_reads : (x : Execution) (rf : List Event) → AllZip (MayRead store_test x) [] rf → [] ≡ rf
only_reads x [] reads = refl
only_reads x (e ∷ rf) reads = absurd reads

with_runs : (rf : List Event) (co : List (List Event))
    → IsExecution store_test (executed rf co)
    → store_execution ≡ executed rf co
with_runs rf co is =
    let reads : [] ≡ rf =
    only_reads (executed rf co) rf
    is.reads in
    let orders : store_execution.coherence ≡ co = only_coherence rf co is.orders in
    λ i. record { runs = store_execution.runs; reads_from = reads i; coherence = orders i }

pub only_execution : (x : Execution) → IsExecution store_test x → store_execution ≡ x
only_execution x is =
    subst
    (λ (runs : List Run).
    IsExecution store_test
    (record { runs = runs; reads_from = x.reads_from; coherence = x.coherence })
    → store_execution
    ≡ record { runs = runs; reads_from = x.reads_from; coherence = x.coherence })
    (only_runs x.runs is.runs) (with_runs x.reads_from x.coherence) is

-- ---- The test is accepted

not_over : {X : Type 0} (n : ℕ) (S : Set X) (one : X) → ((x : X) → S x → one ≡ x) → 1 ≤ n
    → HasOver n S → ⊥
not_over n S one all some ([], once, are, over) = absurd (omega arith)
not_over n S one all some (x ∷ [], once, are, over) = absurd (omega arith)
not_over n S one all some (x ∷ y ∷ rest, once, are, over) =
    once 0 1 x (omega arith) (omega arith)
    (sym (all x (are 0 x (omega arith))) ∙ all y (are 1 y (omega arith)))

only_location : (l : Name) → Contains (codes "x" ∷ []) l → codes "x" ≡ l
only_location l (zero, lt, eq) = eq
only_location l (suc k, lt, eq) = absurd (omega arith)

only_value : (v : Value) → IsInitialValue store_test v → Number 0 ≡ v
only_value v (l, there, is) = sym is

abbrev free_run : List Bool → List Value → Run → FreeRun
free_run bs vs r = record { choices = bs; values = vs; run = r }

free_parts : (bs : List Bool) (vs : List Value) (r : Run)
    → free_run_of (lines_of_thread store_test 0) None (initial_state store_test 0) bs vs ≡ Some r
    → free_run [] [] the_run ≡ free_run bs vs r
free_parts [] [] r eq = ap (free_run [] []) (some_is_one the_run r eq)
free_parts [] (v ∷ vs) r eq = absurd (no_none r eq)
free_parts (b ∷ bs) vs r eq = absurd (no_none r eq)

only_free_run : (V : Set Value) (f : FreeRun) → IsFreeRun store_test V 0 f
    → free_run [] [] the_run ≡ f
only_free_run V f h = free_parts f.choices f.values f.run h.1

few_values : (k : ℕ) → k ≤ 0 → (r : Refusal) → IsRefusedAt store_test k r → ⊥
few_values zero none TooManyValues h =
    not_over 16 (InRound store_test 0) (Number 0) only_value (omega arith) h
few_values zero none TooManyRuns (values, (zero, lt, many)) =
    not_over 4096 (IsFreeRun store_test (InRound store_test 0) 0)
    (free_run [] [] the_run) (only_free_run (InRound store_test 0)) (omega arith) many
few_values zero none TooManyRuns (values, (suc thread, lt, many)) = absurd (omega arith)
few_values zero none TooManyEvents h = h
few_values zero none TooManyCandidates h = h
few_values zero none AddressFault h = h
few_values zero none TooManyCombinations h = h
few_values (suc k) none r h = absurd (omega arith)

no_fault : HasFault store_test → ⊥
no_fault (x, is, (r, there, faulted)) =
    in_runs r (subst (λ (runs : List Run). Contains runs r) (sym (only_runs x.runs is.runs)) there)
    faulted
  where
    in_runs : (r : Run) → Contains store_execution.runs r → r.faulted ≡ true → ⊥
    in_runs r (zero, lt, eq) faulted =
        true≢false (sym faulted ∙ sym (ap (λ (one : Run). one.faulted) eq))
    in_runs r (suc k, lt, eq) faulted = absurd (omega arith)

pub store_is_accepted : IsAccepted store_test
store_is_accepted = (
  (
    (
      (omega arith, λ k r le. few_values k le r),
      not_over 1048576 (AreRuns store_test) store_execution.runs only_runs (omega arith),
    ),
    not_over 16384 (IsExecution store_test) store_execution only_execution (omega arith),
  ),
  no_fault,
)

-- ---- What it says

ends_so : EndsIn store_test store_execution (Number 1 ∷ [])
ends_so = (
  (
    _,
    Initial (codes "x") ∷ [],
    Does 0 1,
    (0, omega arith, refl),
    refl,
    (_, refl, (refl, (0, omega arith, refl))),
  ),
  tt,
)

abbrev IsSatisfying : Set Execution
IsSatisfying x = Satisfies store_test x store_test.condition

satisfies : IsSatisfying store_execution
satisfies = ends_so.0

abbrev Kept : Set Execution
Kept = IsKept store_test store_items

is_kept : Kept store_execution
is_kept = (store_executes, (λ a b h. absurd (let lt : _ = h.1 in omega arith), tt))

-- a set of the one kept execution
counts_one : (S : Set Execution) → S store_execution → ((x : Execution) → S x → Kept x)
    → HasCount S 1
counts_one S there kept = (
  store_execution ∷ [],
  record {
    once = λ i j d before lt. absurd (omega arith);
    exact = λ x. (one_of x, λ s. (0, omega arith, only_execution x (kept x s).0));
  },
  refl,
)
  where
    one_of : (x : Execution) → Contains (store_execution ∷ []) x → S x
    one_of x (zero, lt, eq) = subst S eq there
    one_of x (suc k, lt, eq) = absurd (omega arith)

counts_none : (S : Set Execution) → ((x : Execution) → S x → ⊥) → HasCount S 0
counts_none S none = (
  [],
  record {
    once = λ i j d before lt. absurd (omega arith);
    exact = λ x. (λ h. absurd (let lt : _ = h.1 in omega arith), λ s. absurd (none x s));
  },
  refl,
)

of_kept : (P : Execution → Type 0) → P store_execution → (x : Execution) → Kept x → P x
of_kept P there x kept = subst P (only_execution x kept.0) there

counted : IsCounted store_test Kept store_state
counted = record {
  count =
      counts_one (λ x. Kept x × EndsIn store_test x (Number 1 ∷ [])) (is_kept, ends_so)
      (λ x s. s.0);
  above = omega arith;
  holds = λ x kept ends. (
    λ h. of_kept IsSatisfying satisfies x kept,
    λ h. refl,
  );
}

all_counted : All (IsCounted store_test Kept) (store_state ∷ [])
all_counted zero d lt = counted
all_counted (suc k) d lt = absurd (omega arith)

pub store_says
    : Says store_test store_items Kept (MeetsFlag store_test store_items) store_evaluation
store_says = record {
  states = record {
    rising = λ i j d before lt. absurd (omega arith);
    counted = all_counted;
    whole = λ x kept. (
      store_state,
      (0, omega arith, refl),
      of_kept (λ y. EndsIn store_test y (Number 1 ∷ [])) ends_so x kept,
    );
  };
  positive = counts_one (λ x. Kept x × IsSatisfying x) (is_kept, satisfies) (λ x s. s.0);
  negative = counts_none (λ x. Kept x × (IsSatisfying x → ⊥))
      (λ x s. s.1 (of_kept IsSatisfying satisfies x s.0));
  observation = refl;
  ok = refl;
  flags = ([], refl, refl);
}
