-- The orders of the stores of a location, as those of all lists of so many stores in which none
-- stands twice and the initial store is first.
use denote.Ref.{Bor}
use Rattle.std.proofs.Common.{Vec, ◌≡◌, ◌↔◌, inl, inr, ℕ, ◌+◌, ◌<◌, ◌≤◌, List, [], ◌∷◌, ◌++◌, length, map, take, get_or, Contains, Bool, false, sym, ap, subst, ◌∙◌, arith}
use Rattle.std.specs.Prelude.{Some, slice_get, IsTrue}
use Rattle.std.specs.List.{AllZip}
use Rattle.std.specs.declared.alloc.Global.{Global}
use Rattle.std.proofs.lemmas.List.{take_more, map-append}
use Rattle.std.proofs.lemmas.Slice.Zip.{AllZip-long}
use Rattle.text_values.specs.TestValue.{Content}
use Rattle.meaning.specs.Sets.{Set, IsOnce, IsListOf}
use Rattle.meaning.specs.Names.{Name, locations}
use Rattle.meaning.specs.Runs.{Run}
use Rattle.meaning.specs.Executions.{Event, Execution, Initial, IsStoreOf, IsOrder}
use Rattle.meaning.proofs.Counting.{here, behind, head_or_tail}
use Rattle.plain_runs.proofs.Counting.{no_longer, has_all}
use Rattle.plain_runs.proofs.Listing.{none_there, listed_as, once_cons, tail_once, head_new}
use Rattle.plain_runs.specs.Locations.{names_as}
use Rattle.plain_events.proofs.Picking.{listed_picks}
use Rattle.plain_events.specs.declared.event.Event as code
use Rattle.plain_events.specs.Events.{event_as, of_runs}
use Rattle.plain_executions.specs.Executions.{event_lists_as, order_lists_as, AreAllPicked, IsCoherenceOf}
use Rattle.plain_executions.proofs.Depending.{no}

-- ---- all that choices pick

pub picked_listed : {A X : Type 0} (S : A → Set X) (ts : List A) (lists : List (List X))
    (all : List (List X)) → AllZip (λ t l. IsListOf (S t) l) ts lists → AreAllPicked lists all
    → IsListOf (λ (xs : List X). AllZip S ts xs) all
picked_listed {A} {X} S ts lists all have (choices, listed, e) =
    subst (λ (l : List (List X)). IsListOf (λ (xs : List X). AllZip S ts xs) l) (sym e)
    (listed_picks S ts lists have choices listed)

-- ---- lists of so many members

pub members_zipped : {A X : Type 0} (S : Set X) (ts : List A) (xs : List X)
    → length xs ≡ length ts → ((x : X) → Contains xs x → S x) → AllZip (λ t x. S x) ts xs
members_zipped S [] [] long are = tt
members_zipped S [] (x ∷ xs) long are = absurd (omega (arith, long))
members_zipped S (t ∷ ts) [] long are = absurd (omega (arith, long))
members_zipped S (t ∷ ts) (x ∷ xs) long are =
    (are x (here x xs), members_zipped S ts xs (omega (arith, long)) (λ y there. are y (behind x xs y there)))

pub zipped_members : {A X : Type 0} (S : Set X) (ts : List A) (xs : List X)
    → AllZip (λ t x. S x) ts xs → (x : X) → Contains xs x → S x
zipped_members S [] [] are x there = absurd (none_there x there)
zipped_members S [] (y ∷ xs) are x there = absurd are
zipped_members S (t ∷ ts) [] are x there = absurd are
zipped_members {A} {X} S (t ∷ ts) (y ∷ xs) (is, are) x there =
    elim (head_or_tail y xs x there) [
      | inl at ↦ subst S at is
      | inr later ↦ zipped_members S ts xs are x later
    ]

pub same_lists : {A X : Type 0} (S : Set X) (l : List X) (ts : List A) → IsListOf S l
    → AllZip (λ t ys. IsListOf S ys) ts (map (λ t. l) ts)
same_lists S l [] listed = tt
same_lists S l (t ∷ ts) listed = (listed, same_lists S l ts listed)

-- ---- orders

module _ (t : Content) (x : Execution) (l : Name) (stores : List Event)
    (listed : IsListOf (IsStoreOf t x l) stores) where
  abbrev S : Set Event
  S = IsStoreOf t x l

  abbrev IsFirst : Set (List Event)
  IsFirst es = slice_get es 0 ≡ Some (Initial l)

  whole : (es : List Event) → AllZip (λ e. S) stores es → IsOnce es → IsListOf S es
  whole es are once = record { once = once; exact = λ e. (to e, back e) }
    where
      to : (e : Event) → Contains es e → S e
      to = zipped_members S stores es are

      back : (e : Event) → S e → Contains es e
      back e is =
          has_all es stores once (λ y there. (listed.exact y).1 (to y there))
          (let long : _ = AllZip-long (λ e. S) stores es are in omega (arith, long)) e
          ((listed.exact e).1 is)

  so_many : (es : List Event) → IsListOf S es → AllZip (λ e. S) stores es
  so_many es all =
      members_zipped S stores es
      (let less : length es ≤ length stores = no_longer es stores all.once (λ y there. (listed.exact y).1 ((all.exact y).0 there)) in
      let more : length stores ≤ length es = no_longer stores es listed.once (λ y there. (all.exact y).1 ((listed.exact y).0 there)) in
      omega (arith, less, more))
      (λ y. (all.exact y).0)

  pub all_stores_listed : (lists all : List (List Event)) → lists ≡ map (λ e. stores) stores
      → AreAllPicked lists all → IsListOf (λ es. AllZip (λ e. S) stores es) all
  all_stores_listed lists all e picked =
      picked_listed (λ e. S) stores lists all
      (subst (λ (ls : List (List Event)). AllZip (λ e es. IsListOf S es) stores ls) (sym e)
      (same_lists S stores stores listed))
      picked

  pub orders_listed : (all orders : List (List Event))
      → IsListOf (λ es. AllZip (λ e. S) stores es) all
      → IsListOf (λ es. Contains all es × (IsOnce es × IsFirst es)) orders
      → IsListOf (IsOrder t x l) orders
  orders_listed all orders chosen kept =
      listed_as (λ es. Contains all es × (IsOnce es × IsFirst es)) (IsOrder t x l) orders
      (λ es. (to es, back es)) kept
    where
      to : (es : List Event) → Contains all es × (IsOnce es × IsFirst es) → IsOrder t x l es
      to es (there, (once, first)) = (whole es ((chosen.exact es).0 there) once, first)

      back : (es : List Event) → IsOrder t x l es → Contains all es × (IsOnce es × IsFirst es)
      back es (are, first) = ((chosen.exact es).1 (so_many es are), (are.once, first))

module _ (t : Content) (x : Execution) (l : Name) (stores same : List code.Event)
    (lists again all also : List (Vec code.Event Global))
    (listed : IsListOf (IsStoreOf t x l) (map event_as stores)) (copied : same ≡ stores)
    (made : event_lists_as lists ≡ map (λ (e : Event). map event_as same) (map event_as same))
    (kept : again ≡ lists) (picked : AreAllPicked (event_lists_as again) (event_lists_as all))
    (chosen : also ≡ all) where
  all_listed : IsListOf (λ es. AllZip (λ (e : Event). IsStoreOf t x l) (map event_as stores) es)
      (event_lists_as also)
  all_listed =
      all_stores_listed t x l (map event_as stores) listed (event_lists_as lists) (event_lists_as also)
      (made ∙ ap (λ (es : List code.Event). map (λ (e : Event). map event_as es) (map event_as es)) copied)
      (subst (λ (ls : List (Vec code.Event Global)). AreAllPicked (event_lists_as ls) (event_lists_as also)) kept
      (subst (λ (ls : List (Vec code.Event Global)). AreAllPicked (event_lists_as again) (event_lists_as ls)) (sym chosen) picked))

  pub all_once : IsOnce (event_lists_as also)
  all_once = all_listed.once

  pub location_listed : (orders : List (List Event))
      → IsListOf (λ es. Contains (event_lists_as also) es × (IsOnce es × (slice_get es 0 ≡ Some (Initial l)))) orders
      → IsListOf (IsOrder t x l) orders
  location_listed orders these =
      orders_listed t x l (map event_as stores) listed (event_lists_as also) orders all_listed these

pub coherent_listed : (t : Content) (runs : List Run) (names : List (Bor (List ℕ)))
    (lists again all : List (Vec (Vec code.Event Global) Global)) → names_as names ≡ locations t
    → AllZip (λ l os. IsListOf (IsOrder t (of_runs runs) l) os) (names_as names) (order_lists_as lists)
    → again ≡ lists → AreAllPicked (order_lists_as again) (order_lists_as all)
    → IsListOf (IsCoherenceOf t runs) (order_lists_as all)
coherent_listed t runs names lists again all located are kept picked =
    picked_listed (IsOrder t (of_runs runs)) (locations t) (order_lists_as lists) (order_lists_as all)
    (subst
    (λ (ns : List Name). AllZip (λ l os. IsListOf (IsOrder t (of_runs runs) l) os) ns (order_lists_as lists))
    located are)
    (subst
    (λ (ls : List (Vec (Vec code.Event Global) Global)). AreAllPicked (order_lists_as ls) (order_lists_as all))
    kept picked)

-- ---- what the code asks of a list

pub once_twice : {X Y : Type 0} (f : X → Y) (order : List X) (x : X) (rest : List X)
    → order ≡ x ∷ rest → Contains (map f rest) (f x) → IsTrue false ↔ IsOnce (map f order)
once_twice {X} f order x rest e there =
    no (λ once. head_new (f x) (map f rest) (subst (λ (l : List X). IsOnce (map f l)) e once) there)

pub once_more : {X Y : Type 0} (f : X → Y) (order : List X) (x : X) (rest : List X) (b : Bool)
    → order ≡ x ∷ rest → (Contains (map f rest) (f x) → ⊥) → IsTrue b ↔ IsOnce (map f rest)
    → IsTrue b ↔ IsOnce (map f order)
once_more {X} f order x rest b e new is =
    subst (λ (l : List X). IsTrue b ↔ IsOnce (map f l)) (sym e) (
      (λ yes. once_cons (f x) (map f rest) new (is.0 yes)),
      λ once. is.1 (tail_once (f x) (map f rest) once),
    )

-- as many copies of a list as there are things in it so far
pub copied_more : {X Y : Type 0} (f : X → Y) (xs : List X) (k : ℕ) (d : X)
    (old new : List (List Y)) (copy : List Y) → k < length xs
    → old ≡ map (λ (y : Y). map f xs) (map f (take k xs)) → copy ≡ map f xs
    → new ≡ old ++ copy ∷ [] → new ≡ map (λ (y : Y). map f xs) (map f (take (k + 1) xs))
copied_more {X} {Y} f xs k d old new copy lt before same e =
    e ∙ ap (λ (l : List (List Y)). l ++ copy ∷ []) before
    ∙ ap (λ (ys : List Y). map (λ (y : Y). map f xs) (map f (take k xs)) ++ ys ∷ []) same
    ∙ sym (ap (λ (l : List X). map (λ (y : Y). map f xs) (map f l)) (take_more xs k d lt)
    ∙ ap (λ (l : List Y). map (λ (y : Y). map f xs) l) (map-append f (take k xs) (get_or xs k d ∷ []))
    ∙ map-append (λ (y : Y). map f xs) (map f (take k xs)) (f (get_or xs k d) ∷ []))
