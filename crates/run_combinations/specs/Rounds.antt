-- How the values that can arise are found, round by round.
use Rattle.std.specs.Prelude.{ℕ, ◌≡◌, ◌<◌, ◌≤◌, ◌⊎◌, ◌↔◌, IsTrue, Bool, List, [], ◌++◌, length, take, slice_index_or, All, map, slice_get, slice_index, Option, Some, filter, Contains}
use Rattle.std.specs.List.{flat_map}
use Rattle.bit_rows.specs.Relation.{Events, IsMember, IsEvents}
use Rattle.store_orders.specs.Lists.{IsFiltered, tuples}
use Rattle.store_orders.specs.Events.{numbers, is_load, is_store}
use Rattle.run_combinations.specs.ReadChoices.{MayReadFrom, Derived, IsPossible, AreReadChoices, nexts, accesses_in, stores_for}
use Rattle.store_orders.specs.declared.combination.Event.{Event}
use Rattle.run_combinations.specs.declared.reading.Reading.{Reading}
use Rattle.run_combinations.specs.declared.reading.Load.{Load}
use Rattle.run_combinations.specs.declared.reading.Store.{Store}

-- the loads among the first events, each with the stores that it may read
pub record AreLoads (es : List Event) (n : ℕ) (loads : List Load) : Type 0 where
  pub events : map (λ l. l.event) loads ≡ numbers is_load 0 (take n es)
  pub sources : (k : ℕ) (l : Load) (e : Event) → slice_get loads k ≡ Some l
      → slice_get (filter is_load (take n es)) k ≡ Some e
      → IsEvents l.sources (length es) (Contains (stores_for es e))

-- the stores among the first events, each with the loads that it needs
pub record AreStores (es : List Event) (pairs : List (ℕ × ℕ)) (n : ℕ) (stores : List Store)
    : Type 0 where
  pub events : map (λ s. s.event) stores ≡ numbers is_store 0 (take n es)
  pub needs : (k : ℕ) (s : Store) → slice_get stores k ≡ Some s
      → IsEvents s.needs (length es) (λ a. Contains pairs (a, s.event)
      × Contains (numbers is_load 0 es) a)

-- the loads and stores are those of the events, with their sources and needs
pub record IsReadingOf (es : List Event) (pairs : List (ℕ × ℕ)) (r : Reading) : Type 0 where
  pub count : r.count ≡ length es
  pub few : r.count ≤ 128
  pub loads : map (λ l. l.event) r.loads.items ≡ numbers is_load 0 es
  pub sources : (i : ℕ) (l : Load) → slice_get r.loads.items i ≡ Some l
      → IsEvents l.sources r.count (MayReadFrom (accesses_in es pairs) i)
  pub stores : map (λ s. s.event) r.stores.items ≡ numbers is_store 0 es
  pub needs : (k : ℕ) (s : Store) → slice_get r.stores.items k ≡ Some s
      → IsEvents s.needs r.count (λ a. (accesses_in es pairs).Need a s.event)

-- the fact holds of one of the first items and its index
pub record AnyBelow {X : Type 0} (Q : ℕ → X → Type 0) (n : ℕ) (xs : List X) : Type 0 where
  pub index : ℕ
  pub item : X
  pub below : index < n
  pub there : slice_get xs index ≡ Some item
  pub holds : Q index item

-- the event below a bound is that of one of the first items of which the fact holds
abbrev pub Stepped : {X : Type 0} → (X → ℕ) → (ℕ → X → Type 0) → ℕ → ℕ → List X → ℕ → Type 0
Stepped event W bound n xs x = AnyBelow (λ k y. (x < bound) × (x ≡ event y) × W k y) n xs

-- all of the first set are in the second
abbrev pub IsEventSubset : Events → Events → Type 0
IsEventSubset s t = (s.count ≡ t.count) × ((a : ℕ) → IsMember s a → IsMember t a)

-- some of the first set is in the second
abbrev pub HasCommonEvent : Events → Events → Type 0
HasCommonEvent s t = (s.count ≡ t.count) × ((a : ℕ) × IsMember s a × IsMember t a)

-- the load at an index reads one of these
abbrev pub CanRead : List ℕ → Events → ℕ → Load → Type 0
CanRead reads_from derived i l =
    ((i < length reads_from) × IsMember derived (slice_index reads_from i))
    ⊎ ((length reads_from ≤ i) × HasCommonEvent l.sources derived)

abbrev pub CanArise : List ℕ → Option ℕ → Events → ℕ → Load → Type 0
CanArise reads_from without derived i l = (without ≡ Some i → ⊥) × CanRead reads_from derived i l

abbrev pub store_event : Store → ℕ
store_event s = s.event

abbrev pub load_event : Load → ℕ
load_event l = l.event

-- the events, and the stores whose needs are among them
abbrev pub WithStores : Reading → Events → Events → Type 0
WithStores r old new =
    IsEvents new old.count (λ x. IsMember old x
    ⊎ Stepped store_event (λ k s. IsEventSubset s.needs old) old.count (length r.stores.items)
    r.stores.items x)

-- the events, and the loads that read one of them
abbrev pub WithLoads : Reading → List ℕ → Option ℕ → Events → Events → Type 0
WithLoads r reads_from without old new =
    IsEvents new old.count (λ x. IsMember old x
    ⊎ Stepped load_event (CanArise reads_from without old) old.count (length r.loads.items)
    r.loads.items x)

pub record IsArisingRound (r : Reading) (reads_from : List ℕ) (without : Option ℕ)
    (old new : Events) : Type 0 where
  pub between : Events
  pub stores : WithStores r old between
  pub loads : WithLoads r reads_from without between new

-- all values of the set can arise
abbrev pub AllArise : Reading → List ℕ → Option ℕ → Events → Type 0
AllArise r reads_from without derived =
    (es : List Event) (pairs : List (ℕ × ℕ)) → IsReadingOf es pairs r → (x : ℕ) → IsMember derived x
    → Derived (accesses_in es pairs) reads_from without x

-- the set has just the values that can arise
abbrev pub HasDerived : Reading → List ℕ → Option ℕ → Events → Type 0
HasDerived r reads_from without derived =
    (es : List Event) (pairs : List (ℕ × ℕ)) → IsReadingOf es pairs r → (x : ℕ)
    → (IsMember derived x → Derived (accesses_in es pairs) reads_from without x)
    × (Derived (accesses_in es pairs) reads_from without x → IsMember derived x)

-- whether all loads can read
abbrev pub TellsPossible : Reading → Bool → Type 0
TellsPossible r b =
    (es : List Event) (pairs : List (ℕ × ℕ)) → IsReadingOf es pairs r
    → IsTrue b ↔ IsPossible (accesses_in es pairs) []

-- the possible read choices of the first loads
abbrev pub ArePossible : Reading → ℕ → List (List ℕ) → Type 0
ArePossible r i read_choices =
    (es : List Event) (pairs : List (ℕ × ℕ)) → IsReadingOf es pairs r
    → IsFiltered (IsPossible (accesses_in es pairs))
    (tuples [] (take i (accesses_in es pairs).sources)) read_choices

-- the possible read choices with one load more, of the first of a list
abbrev pub AreNext : Reading → Load → ℕ → ℕ → List (List ℕ) → List (List ℕ) → Type 0
AreNext r load index k read_choices next =
    (es : List Event) (pairs : List (ℕ × ℕ)) → IsReadingOf es pairs r
    → slice_get r.loads.items index ≡ Some load
    → All (λ f. (length f ≡ index) × IsPossible (accesses_in es pairs) f) read_choices
    → IsFiltered (IsPossible (accesses_in es pairs))
    (flat_map (nexts (slice_index_or (accesses_in es pairs).sources index []))
    (take k read_choices))
    next

-- the list has gained those of one read choice
pub record GainsNext (r : Reading) (load : Load) (index : ℕ) (reads_from : List ℕ)
    (old new : List (List ℕ)) : Type 0 where
  pub more : List (List ℕ)
  pub added : new ≡ old ++ more
  pub next :
      (es : List Event) (pairs : List (ℕ × ℕ)) → IsReadingOf es pairs r
      → slice_get r.loads.items index ≡ Some load
      → length reads_from ≡ index → IsPossible (accesses_in es pairs) reads_from
      → IsFiltered (IsPossible (accesses_in es pairs))
      (nexts (slice_index_or (accesses_in es pairs).sources index []) reads_from) more

-- some of the first ones are over a limit
abbrev pub AreOver : Reading → Load → ℕ → List (List ℕ) → ℕ → Type 0
AreOver r load index read_choices limit =
    (k : ℕ) × (next : List (List ℕ)) × (limit < length next)
    × AreNext r load index k read_choices next

-- there are over so many read choices
abbrev pub HasManyChoices : Reading → ℕ → Type 0
HasManyChoices r limit =
    (es : List Event) (pairs : List (ℕ × ℕ)) (all : List (List ℕ)) → IsReadingOf es pairs r
    → AreReadChoices es pairs all → limit < length all

-- these are the read choices
abbrev pub HasReadChoices : Reading → List (List ℕ) → Type 0
HasReadChoices r read_choices =
    (es : List Event) (pairs : List (ℕ × ℕ)) → IsReadingOf es pairs r
    → AreReadChoices es pairs read_choices
