-- The events that stand in runs, and the loads among them, as lists.
use Rattle.std.proofs.Common.{◌≡◌, ◌⊎◌, inl, inr, ℕ, ◌+◌, ◌<◌, ◌≤◌, List, [], ◌∷◌, ◌++◌, length, map, drop, get_or, Contains, Bool, true, false, refl, sym, ap, subst, ◌∙◌, arith, add-one}
use Rattle.std.specs.Prelude.{if◌then◌else◌, Option, option_map, unwrap_or, flat_map}
use Rattle.std.proofs.lemmas.List.{at_drop_more, at_drop_all, append_assoc, append-nil}
use Rattle.std.proofs.lemmas.Option.{slice_get_past}
use Rattle.text_values.specs.TestValue.{Content}
use Rattle.meaning.specs.Sets.{IsOnce, IsListOf}
use Rattle.meaning.specs.Names.{Name, locations, locations_of_entry, locations_of_formula, locations_of_observable}
use Rattle.meaning.specs.Machine.{is_load}
use Rattle.meaning.specs.Runs.{Instance, Run}
use Rattle.meaning.specs.Executions.{Event, Initial, Does, instances_of, loads_from, loads_in}
use Rattle.meaning.proofs.Orders.{Rise, order_rises, name_asymmetric}
use Rattle.plain_runs.proofs.Listing.{once_none, once_cons, listed_as, listed_none, listed_one, listed_map, listed_both}
use Rattle.plain_events.specs.Events.{of_runs, IsNode, DoesBelow}

-- ---- locations stand once

rising_once : (ns : List Name) → Rise ns → IsOnce ns
rising_once [] rise = once_none
rising_once (n ∷ ns) rise =
    once_cons n ns (λ there. name_asymmetric n n (rise.0 n there) (rise.0 n there))
    (rising_once ns rise.1)

pub locations_once : (t : Content) → IsOnce (locations t)
locations_once t =
    rising_once (locations t)
    (order_rises (flat_map locations_of_entry t.init ++ locations_of_formula t.condition ++ flat_map locations_of_observable t.observed))

-- ---- what one thread executes

same_index : (u v i j : ℕ) → Does u i ≡ Does v j → i ≡ j
same_index u v i j e = cc

same_thread : (u v i j : ℕ) → Does u i ≡ Does v j → u ≡ v
same_thread u v i j e = cc

no_thread : (l : Name) (u i : ℕ) → Initial l ≡ Does u i → ⊥
no_thread l u i e = cc

below_more : (n k : ℕ) → k < n + 1 → (k < n) ⊎ (k ≡ n)
below_more n k lt = grind arith

pub does_begin : (thread : ℕ) (es : List Event) → es ≡ [] → IsListOf (DoesBelow thread 0) es
does_begin thread es e =
    subst (λ (l : List Event). IsListOf (DoesBelow thread 0) l) (sym e)
    (listed_none (DoesBelow thread 0) (λ x is. absurd (let lt : _ = is.1 in omega (arith, lt))))

pub does_more : (thread n : ℕ) (old new : List Event) → new ≡ old ++ Does thread n ∷ []
    → IsListOf (DoesBelow thread n) old → IsListOf (DoesBelow thread (n + 1)) new
does_more thread n old new e before =
    subst (λ (l : List Event). IsListOf (DoesBelow thread (n + 1)) l) (sym e)
    (listed_as (λ x. DoesBelow thread n x ⊎ (Does thread n ≡ x)) (DoesBelow thread (n + 1))
    (old ++ Does thread n ∷ []) (λ x. (to x, back x))
    (listed_both (DoesBelow thread n) (λ x. Does thread n ≡ x) old (Does thread n ∷ []) apart before
    (listed_one (λ x. Does thread n ≡ x) (Does thread n) (λ y. ((λ h. h), λ h. h)))))
  where
    apart : (x : Event) → DoesBelow thread n x → Does thread n ≡ x → ⊥
    apart x (k, lt, is) at =
        let same : _ = same_index thread thread k n (is ∙ sym at) in omega (arith, lt, same)

    to : (x : Event) → DoesBelow thread n x ⊎ (Does thread n ≡ x) → DoesBelow thread (n + 1) x
    to x (inl (k, lt, is)) = (k, omega (arith, lt), is)
    to x (inr at) = (n, omega arith, at)

    split : (x : Event) (k : ℕ) → (k < n) ⊎ (k ≡ n) → Does thread k ≡ x
        → DoesBelow thread n x ⊎ (Does thread n ≡ x)
    split x k (inl lt) is = inl (k, lt, is)
    split x k (inr same) is = inr (ap (λ (j : ℕ). Does thread j) (sym same) ∙ is)

    back : (x : Event) → DoesBelow thread (n + 1) x → DoesBelow thread n x ⊎ (Does thread n ≡ x)
    back x (k, lt, is) = split x k (below_more n k lt) is

-- ---- what all threads execute

-- It is an initial store, or stands in the run of a thread below this.
abbrev pub IsNodeBelow : List Name → List Run → ℕ → Event → Type 0
IsNodeBelow names runs n (Initial l) = Contains names l
IsNodeBelow names runs n (Does thread k) =
    (thread < n) × (k < length (instances_of (of_runs runs) thread))

same_name : (k l : Name) → Initial k ≡ Initial l → k ≡ l
same_name k l e = cc

module _ (names : List Name) (runs : List Run) where
  pub nodes_begin : (es : List Event) → IsOnce names → es ≡ map Initial names
      → IsListOf (IsNodeBelow names runs 0) es
  nodes_begin es once e =
      subst (λ (l : List Event). IsListOf (IsNodeBelow names runs 0) l) (sym e)
      (listed_as (λ x. (l : Name) × Contains names l × (Initial l ≡ x)) (IsNodeBelow names runs 0)
      (map Initial names) (λ x. (to x, back x))
      (listed_map Initial (λ l. Contains names l) names same_name
      (record { once = once; exact = λ l. ((λ h. h), λ h. h) })))
    where
      to : (x : Event) → (l : Name) × Contains names l × (Initial l ≡ x)
          → IsNodeBelow names runs 0 x
      to x (l, there, is) = subst (λ (y : Event). IsNodeBelow names runs 0 y) is there

      back : (x : Event) → IsNodeBelow names runs 0 x
          → (l : Name) × Contains names l × (Initial l ≡ x)
      back (Initial l) there = (l, there, refl)
      back (Does thread k) is = absurd (let lt : _ = is.0 in omega (arith, lt))

  pub nodes_more : (n count : ℕ) (old more new : List Event)
      → count ≡ length (instances_of (of_runs runs) n) → IsListOf (IsNodeBelow names runs n) old
      → IsListOf (DoesBelow n count) more → new ≡ old ++ more
      → IsListOf (IsNodeBelow names runs (n + 1)) new
  nodes_more n count old more new long before listed e =
      subst (λ (l : List Event). IsListOf (IsNodeBelow names runs (n + 1)) l) (sym e)
      (listed_as (λ x. IsNodeBelow names runs n x ⊎ DoesBelow n count x)
      (IsNodeBelow names runs (n + 1)) (old ++ more) (λ x. (to x, back x))
      (listed_both (IsNodeBelow names runs n) (DoesBelow n count) old more apart before listed))
    where
      apart : (x : Event) → IsNodeBelow names runs n x → DoesBelow n count x → ⊥
      apart (Initial l) there (k, lt, is) = no_thread l n k (sym is)
      apart (Does thread j) (below, within) (k, lt, is) =
          let same : _ = same_thread n thread k j is in omega (arith, below, same)

      here : (k : ℕ) → k < count → k < length (instances_of (of_runs runs) n)
      here k lt = subst (λ (m : ℕ). k < m) long lt

      to : (x : Event) → IsNodeBelow names runs n x ⊎ DoesBelow n count x
          → IsNodeBelow names runs (n + 1) x
      to (Initial l) (inl there) = there
      to (Does thread j) (inl (below, within)) = (omega (arith, below), within)
      to x (inr (k, lt, is)) =
          subst (λ (y : Event). IsNodeBelow names runs (n + 1) y) is (omega arith, here k lt)

      split : (thread j : ℕ) → (thread < n) ⊎ (thread ≡ n)
          → j < length (instances_of (of_runs runs) thread)
          → IsNodeBelow names runs n (Does thread j) ⊎ DoesBelow n count (Does thread j)
      split thread j (inl below) within = inl (below, within)
      split thread j (inr same) within =
          inr (
            j,
            subst (λ (m : ℕ). j < m) (sym long) (subst (λ (u : ℕ). j < length (instances_of (of_runs runs) u)) same within),
            ap (λ (u : ℕ). Does u j) (sym same),
          )

      back : (x : Event) → IsNodeBelow names runs (n + 1) x
          → IsNodeBelow names runs n x ⊎ DoesBelow n count x
      back (Initial l) there = inl there
      back (Does thread j) (below, within) = split thread j (below_more n thread below) within

  pub nodes_all : (n : ℕ) (es : List Event) → length runs ≤ n
      → IsListOf (IsNodeBelow names runs n) es → IsListOf (IsNode names runs) es
  nodes_all n es le listed =
      listed_as (IsNodeBelow names runs n) (IsNode names runs) es (λ x. (to x, back x)) listed
    where
      to : (x : Event) → IsNodeBelow names runs n x → IsNode names runs x
      to (Initial l) there = there
      to (Does thread k) is = is.1

      none : (thread : ℕ) → length runs ≤ thread → instances_of (of_runs runs) thread ≡ []
      none thread past =
          ap (λ (o : Option Run). unwrap_or (option_map (λ r. r.instances) o) [])
          (slice_get_past runs thread past)

      below : (thread k : ℕ) → k < length (instances_of (of_runs runs) thread)
          → (thread < n) ⊎ (n ≤ thread) → thread < n
      below thread k within (inl lt) = lt
      below thread k within (inr past) =
          let empty : k < length {A = Instance} [] =
          subst (λ (l : List Instance). k < length l) (none thread (omega (arith, le, past))) within in
          absurd (omega (arith, empty))

      either : (thread : ℕ) → (thread < n) ⊎ (n ≤ thread)
      either thread = grind arith

      back : (x : Event) → IsNode names runs x → IsNodeBelow names runs n x
      back (Initial l) there = there
      back (Does thread k) within = (below thread k within (either thread), within)

-- ---- loads

loads_cons : (b : Bool) (e : Event) (rest : List Event)
    → (if b then e ∷ rest else rest) ≡ (if b then e ∷ [] else []) ++ rest
loads_cons true e rest = refl
loads_cons false e rest = refl

-- What the code has put, with the loads that are left, is what was there with all loads.
pub put_more : (thread k : ℕ) (instances : List Instance) (d i : Instance)
    (all old new : List Event) → k < length instances → i ≡ get_or instances k d
    → old ++ loads_from thread k (drop k instances) ≡ all
    → new ≡ old ++ (if is_load i.instruction then Does thread k ∷ [] else [])
    → new ++ loads_from thread (k + 1) (drop (k + 1) instances) ≡ all
put_more thread k instances d i all old new lt at before e =
    ap (λ (l : List Event). l ++ rest) e
    ∙ append_assoc old (if is_load i.instruction then Does thread k ∷ [] else []) rest
    ∙ ap (λ (l : List Event). old ++ l) (sym here)
    ∙ before
  where
    rest : List Event
    rest = loads_from thread (k + 1) (drop (k + 1) instances)

    here : loads_from thread k (drop k instances)
        ≡ (if is_load i.instruction then Does thread k ∷ [] else [])
        ++ loads_from thread (k + 1) (drop (k + 1) instances)
    here =
        at_drop_more (λ (l : List Instance). loads_from thread k l) instances k d lt
        ∙ ap (λ (j : Instance). loads_from thread k (j ∷ drop (k + 1) instances)) (sym at)
        ∙ ap (λ (n : ℕ). if is_load i.instruction then Does thread k ∷ loads_from thread n (drop (k + 1) instances) else loads_from thread n (drop (k + 1) instances))
        (sym (add-one k))
        ∙ loads_cons (is_load i.instruction) (Does thread k)
        (loads_from thread (k + 1) (drop (k + 1) instances))

pub put_all : (thread k : ℕ) (instances : List Instance) (all new : List Event)
    → length instances ≤ k → new ++ loads_from thread k (drop k instances) ≡ all → new ≡ all
put_all thread k instances all new le before =
    sym (append-nil new)
    ∙ ap (λ (l : List Event). new ++ l)
    (sym (at_drop_all (λ (l : List Instance). loads_from thread k l) instances k le))
    ∙ before

pub loads_more : (thread : ℕ) (runs : List Run) (d r : Run) (all old new : List Event)
    → thread < length runs → r ≡ get_or runs thread d
    → old ++ loads_in thread (drop thread runs) ≡ all
    → new ≡ old ++ loads_from thread 0 r.instances
    → new ++ loads_in (thread + 1) (drop (thread + 1) runs) ≡ all
loads_more thread runs d r all old new lt at before e =
    ap (λ (l : List Event). l ++ loads_in (thread + 1) (drop (thread + 1) runs)) e
    ∙ append_assoc old (loads_from thread 0 r.instances)
    (loads_in (thread + 1) (drop (thread + 1) runs))
    ∙ ap (λ (l : List Event). old ++ l) (sym here)
    ∙ before
  where
    here : loads_in thread (drop thread runs)
        ≡ loads_from thread 0 r.instances ++ loads_in (thread + 1) (drop (thread + 1) runs)
    here =
        at_drop_more (λ (l : List Run). loads_in thread l) runs thread d lt
        ∙ ap (λ (q : Run). loads_in thread (q ∷ drop (thread + 1) runs)) (sym at)
        ∙ ap (λ (n : ℕ). loads_from thread 0 r.instances ++ loads_in n (drop (thread + 1) runs))
        (sym (add-one thread))

pub loads_all : (thread : ℕ) (runs : List Run) (all new : List Event) → length runs ≤ thread
    → new ++ loads_in thread (drop thread runs) ≡ all → new ≡ all
loads_all thread runs all new le before =
    sym (append-nil new)
    ∙ ap (λ (l : List Event). new ++ l)
    (sym (at_drop_all (λ (l : List Run). loads_in thread l) runs thread le))
    ∙ before

-- ---- the nodes that do something

pub acting_listed : (t : Content) (runs : List Run) (P : Event → Type 0) (names : List Name)
    (nodes all new : List Event) → names ≡ locations t
    → ((e : Event) → P e → IsNode (locations t) runs e) → IsListOf (IsNode names runs) nodes
    → all ≡ nodes → IsListOf (λ e. Contains all e × P e) new → IsListOf P new
acting_listed t runs P names nodes all new are acts listed same kept =
    listed_as (λ e. Contains all e × P e) P new
    (λ e. ((λ is. is.1), λ is. (there e (acts e is), is))) kept
  where
    there : (e : Event) → IsNode (locations t) runs e → Contains all e
    there e is =
        subst (λ (l : List Event). Contains l e) (sym same)
        ((listed.exact e).1 (subst (λ (ns : List Name). IsNode ns runs e) (sym are) is))
