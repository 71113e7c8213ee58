-- The events of an execution are finite, and what an event does.
use Rattle.std.proofs.Common.{◌≡◌, ◌⊎◌, inl, inr, ℕ, zero, suc, ◌<◌, IsTrue, List, [], ◌∷◌, length, Option, Some, None, option_map, unwrap_or, slice_get, Contains, refl, sym, ap, subst, arith}
use Rattle.text_values.specs.declared.test.Place.TheVariants as observables
use Rattle.text_values.specs.declared.instruction.Fence as kinds
use Rattle.text_values.specs.declared.instruction.Instruction as text
use Rattle.text_values.specs.declared.instruction.Instruction.TheVariants as texts
use Rattle.text_values.specs.declared.instruction.Instruction.TheVariants.{LoadImmediate, Move, AddImmediate, Compute, Load, LoadIndexed, Store, StoreIndexed, Compare, CompareImmediate, BranchIf, Branch, Fence}
use Rattle.text_values.specs.TestValue.{Content}
use Rattle.meaning.specs.Sets.{Set}
use Rattle.meaning.specs.Names.{Name, locations}
use Rattle.meaning.specs.Machine.{Value, Number, Address, NoValue, address_of, is_load, stored_values}
use Rattle.meaning.specs.Runs.{Instance, Run, initial_value}
use Rattle.meaning.specs.Executions.{Event, Initial, Does, Execution, Action, Loads, Stores, Fences, instances_of, instructions_of, IsActionOf, HasAction, IsEvent, IsStoreOf, MayRead}
use Rattle.meaning.specs.Predefined.{IsLoadOf}
use Rattle.plain_runs.proofs.Running.{no_some, same_some}
use Rattle.meanings_exist.proofs.Decisions.{Decided, decided_as, test_decided, same_name, same_action}
use Rattle.meanings_exist.proofs.Finite.{Finite, finite_as, finite_none, finite_one, finite_list, finite_either, finite_over, finite_map, finite_if, finite_where, finite_below, some_decided, inhabited, member_or_not}

-- ---- what an instance does

same_address : (k l : Name) → Address k ≡ Address l → k ≡ l
same_address k l e = let same : k ≡ l = cc in same

address_in : (v : Value) → Finite (λ l. v ≡ Address l)
address_in (Address k) =
    finite_as (λ l. k ≡ l) (λ l. Address k ≡ Address l)
    (λ l e. ap (λ (n : Name). Address n) e) (λ l e. same_address k l e) (finite_one k)
address_in (Number n) =
    finite_none (λ l. Number n ≡ Address l) (λ l e. let wrong : ⊥ = cc in wrong)
address_in NoValue =
    finite_none (λ l. NoValue ≡ Address l) (λ l e. let wrong : ⊥ = cc in wrong)

same_kind : (f g : kinds.Fence) → texts.Fence f ≡ texts.Fence g → f ≡ g
same_kind f g e = let same : f ≡ g = cc in same

fence_in : (i : text.Instruction) → Finite (λ f. i ≡ texts.Fence f)
fence_in (Fence g) =
    finite_as (λ f. g ≡ f) (λ f. texts.Fence g ≡ texts.Fence f)
    (λ f e. ap (λ (h : kinds.Fence). texts.Fence h) e) (λ f e. same_kind g f e) (finite_one g)
fence_in (LoadImmediate d n) =
    finite_none (λ f. LoadImmediate d n ≡ texts.Fence f) (λ f e. let wrong : ⊥ = cc in wrong)
fence_in (Move d a) =
    finite_none (λ f. Move d a ≡ texts.Fence f) (λ f e. let wrong : ⊥ = cc in wrong)
fence_in (AddImmediate d a n) =
    finite_none (λ f. AddImmediate d a n ≡ texts.Fence f) (λ f e. let wrong : ⊥ = cc in wrong)
fence_in (Compute o d a b) =
    finite_none (λ f. Compute o d a b ≡ texts.Fence f) (λ f e. let wrong : ⊥ = cc in wrong)
fence_in (Load d a) =
    finite_none (λ f. Load d a ≡ texts.Fence f) (λ f e. let wrong : ⊥ = cc in wrong)
fence_in (LoadIndexed d a b) =
    finite_none (λ f. LoadIndexed d a b ≡ texts.Fence f) (λ f e. let wrong : ⊥ = cc in wrong)
fence_in (Store d a) =
    finite_none (λ f. Store d a ≡ texts.Fence f) (λ f e. let wrong : ⊥ = cc in wrong)
fence_in (StoreIndexed d a b) =
    finite_none (λ f. StoreIndexed d a b ≡ texts.Fence f) (λ f e. let wrong : ⊥ = cc in wrong)
fence_in (Compare a b) =
    finite_none (λ f. Compare a b ≡ texts.Fence f) (λ f e. let wrong : ⊥ = cc in wrong)
fence_in (CompareImmediate a n) =
    finite_none (λ f. CompareImmediate a n ≡ texts.Fence f) (λ f e. let wrong : ⊥ = cc in wrong)
fence_in (BranchIf c l) =
    finite_none (λ f. BranchIf c l ≡ texts.Fence f) (λ f e. let wrong : ⊥ = cc in wrong)
fence_in (Branch l) =
    finite_none (λ f. Branch l ≡ texts.Fence f) (λ f e. let wrong : ⊥ = cc in wrong)

module _ (i : Instance) where
  abbrev At : Name → Type 0
  At l = address_of i.instruction i.before ≡ Address l

  abbrev Loading : Set Action
  Loading a = (l : Name) × At l × (IsTrue (is_load i.instruction) × (Loads l i.loaded ≡ a))

  abbrev Storing : Set Action
  Storing a =
      (l : Name) × At l
      × ((v : Value) × Contains (stored_values i.instruction i.before) v × (Stores l v ≡ a))

  abbrev Fencing : Set Action
  Fencing a = (f : kinds.Fence) × (i.instruction ≡ texts.Fence f) × (Fences f ≡ a)

  loading : Finite Loading
  loading =
      finite_over At (λ l a. IsTrue (is_load i.instruction) × (Loads l i.loaded ≡ a))
      (address_in (address_of i.instruction i.before))
      (λ l at. finite_if (IsTrue (is_load i.instruction)) (λ a. Loads l i.loaded ≡ a)
      (test_decided (is_load i.instruction)) (finite_one (Loads l i.loaded)))

  storing : Finite Storing
  storing =
      finite_over At
      (λ l a. (v : Value) × Contains (stored_values i.instruction i.before) v × (Stores l v ≡ a))
      (address_in (address_of i.instruction i.before))
      (λ l at. finite_map (λ v. Contains (stored_values i.instruction i.before) v)
      (λ v. Stores l v) (finite_list (stored_values i.instruction i.before)))

  fencing : Finite Fencing
  fencing =
      finite_map (λ f. i.instruction ≡ texts.Fence f) (λ f. Fences f) (fence_in i.instruction)

  actions_of : Finite (IsActionOf i)
  actions_of =
      finite_as (λ a. Loading a ⊎ (Storing a ⊎ Fencing a)) (IsActionOf i) to back
      (finite_either Loading (λ a. Storing a ⊎ Fencing a) loading
      (finite_either Storing Fencing storing fencing))
    where
      to : (a : Action) → Loading a ⊎ (Storing a ⊎ Fencing a) → IsActionOf i a
      to a (inl (l, at, (loads, e))) =
          subst (λ (b : Action). IsActionOf i b) e (loads, at, refl)
      to a (inr (inl (l, at, (v, there, e)))) =
          subst (λ (b : Action). IsActionOf i b) e (at, there)
      to a (inr (inr (f, is, e))) = subst (λ (b : Action). IsActionOf i b) e is

      back : (a : Action) → IsActionOf i a → Loading a ⊎ (Storing a ⊎ Fencing a)
      back (Loads l v) h = inl (l, h.1, (h.0, ap (λ (w : Value). Loads l w) (sym h.2)))
      back (Stores l v) h = inr (inl (l, h.0, (v, h.1, refl)))
      back (Fences f) h = inr (inr (f, h, refl))

-- ---- what an event does

location_or_not : (t : Content) (l : Name) → Decided (Contains (locations t) l)
location_or_not t l =
    member_or_not (λ k. Contains (locations t) k) same_name (finite_list (locations t)) l

pub actions : (t : Content) (x : Execution) (e : Event) → Finite (HasAction t x e)
actions t x (Initial l) =
    finite_as
    (λ a. Contains (locations t) l × (Stores l (initial_value t (observables.Location l)) ≡ a))
    (HasAction t x (Initial l)) (λ a h. (h.0, sym h.1)) (λ a h. (h.0, sym h.1))
    (finite_if (Contains (locations t) l)
    (λ a. Stores l (initial_value t (observables.Location l)) ≡ a) (location_or_not t l)
    (finite_one (Stores l (initial_value t (observables.Location l)))))
actions t x (Does thread index) = by (slice_get (instances_of x thread) index)
  where
    by : (o : Option Instance) → Finite (λ a. (i : Instance) × (o ≡ Some i) × IsActionOf i a)
    by None =
        finite_none (λ a. (i : Instance) × (None ≡ Some i) × IsActionOf i a)
        (λ a h. no_some h.0 h.1)
    by (Some i) =
        finite_as (IsActionOf i) (λ a. (j : Instance) × (Some i ≡ Some j) × IsActionOf j a)
        (λ a h. (i, refl, h))
        (λ a h. subst (λ (j : Instance). IsActionOf j a) (sym (same_some i h.0 h.1)) h.2)
        (actions_of i)

pub event_or_not : (t : Content) (x : Execution) (e : Event) → Decided (IsEvent t x e)
event_or_not t x e = inhabited (HasAction t x e) (actions t x e)

pub action_or_not : (t : Content) (x : Execution) (e : Event) (a : Action)
    → Decided (HasAction t x e a)
action_or_not t x e a = member_or_not (HasAction t x e) same_action (actions t x e) a

-- the location that an action loads or stores
abbrev LoadsAt : Action → Set Name
LoadsAt a l = (v : Value) × (a ≡ Loads l v)

abbrev StoresAt : Action → Set Name
StoresAt a l = (v : Value) × (a ≡ Stores l v)

loads_at : (a : Action) → Finite (LoadsAt a)
loads_at (Loads k v) =
    finite_as (λ l. k ≡ l) (LoadsAt (Loads k v)) (λ l e. (v, ap (λ (n : Name). Loads n v) e))
    (λ l h. same_there k l v h.0 h.1) (finite_one k)
  where
    same_there : (m n : Name) (u w : Value) → Loads m u ≡ Loads n w → m ≡ n
    same_there m n u w e = let same : m ≡ n = cc in same
loads_at (Stores k v) =
    finite_none (LoadsAt (Stores k v))
    (λ l h. let e : Stores k v ≡ Loads l h.0 = h.1 in let wrong : ⊥ = cc in wrong)
loads_at (Fences f) =
    finite_none (LoadsAt (Fences f))
    (λ l h. let e : Fences f ≡ Loads l h.0 = h.1 in let wrong : ⊥ = cc in wrong)

stores_at : (a : Action) → Finite (StoresAt a)
stores_at (Stores k v) =
    finite_as (λ l. k ≡ l) (StoresAt (Stores k v)) (λ l e. (v, ap (λ (n : Name). Stores n v) e))
    (λ l h. same_there k l v h.0 h.1) (finite_one k)
  where
    same_there : (m n : Name) (u w : Value) → Stores m u ≡ Stores n w → m ≡ n
    same_there m n u w e = let same : m ≡ n = cc in same
stores_at (Loads k v) =
    finite_none (StoresAt (Loads k v))
    (λ l h. let e : Loads k v ≡ Stores l h.0 = h.1 in let wrong : ⊥ = cc in wrong)
stores_at (Fences f) =
    finite_none (StoresAt (Fences f))
    (λ l h. let e : Fences f ≡ Stores l h.0 = h.1 in let wrong : ⊥ = cc in wrong)

-- the locations that an event loads, and those that it stores
pub loaded_locations : (t : Content) (x : Execution) (e : Event) → Finite (λ l. IsLoadOf t x l e)
loaded_locations t x e =
    finite_as (λ l. (a : Action) × HasAction t x e a × LoadsAt a l) (λ l. IsLoadOf t x l e)
    (λ l h. (h.2.0, subst (λ (a : Action). HasAction t x e a) h.2.1 h.1))
    (λ l h. (Loads l h.0, h.1, (h.0, refl)))
    (finite_over (HasAction t x e) LoadsAt (actions t x e) (λ a is. loads_at a))

pub stored_locations : (t : Content) (x : Execution) (e : Event)
    → Finite (λ l. IsStoreOf t x l e)
stored_locations t x e =
    finite_as (λ l. (a : Action) × HasAction t x e a × StoresAt a l) (λ l. IsStoreOf t x l e)
    (λ l h. (h.2.0, subst (λ (a : Action). HasAction t x e a) h.2.1 h.1))
    (λ l h. (Stores l h.0, h.1, (h.0, refl)))
    (finite_over (HasAction t x e) StoresAt (actions t x e) (λ a is. stores_at a))

pub load_or_not : (t : Content) (x : Execution) (l : Name) (e : Event)
    → Decided (IsLoadOf t x l e)
load_or_not t x l e =
    member_or_not (λ k. IsLoadOf t x k e) same_name (loaded_locations t x e) l

pub store_or_not : (t : Content) (x : Execution) (l : Name) (e : Event)
    → Decided (IsStoreOf t x l e)
store_or_not t x l e =
    member_or_not (λ k. IsStoreOf t x k e) same_name (stored_locations t x e) l

-- the action is a load of what the store stores
abbrev LoadsFrom : Content → Execution → Event → Set Action
LoadsFrom t x store a =
    (l : Name) × (v : Value) × ((a ≡ Loads l v) × HasAction t x store (Stores l v))

-- whether a load may read a store
pub reads_or_not : (t : Content) (x : Execution) (load store : Event)
    → Decided (MayRead t x load store)
reads_or_not t x load store =
    decided_as to (λ h. (Loads h.0 h.1, h.2, (h.0, h.1, (refl, h.3))))
    (some_decided (HasAction t x load) (LoadsFrom t x store) (actions t x load) (λ a is. by a))
  where
    to : (a : Action) × HasAction t x load a × LoadsFrom t x store a → MayRead t x load store
    to (a, is, (l, v, (e, stored))) =
        (l, v, subst (λ (b : Action). HasAction t x load b) e is, stored)

    same_place : (m n : Name) (u w : Value) → Loads m u ≡ Loads n w → m ≡ n
    same_place m n u w e = let same : m ≡ n = cc in same

    same_read : (m n : Name) (u w : Value) → Loads m u ≡ Loads n w → u ≡ w
    same_read m n u w e = let same : u ≡ w = cc in same

    by : (a : Action) → Decided (LoadsFrom t x store a)
    by (Loads k w) =
        decided_as (λ h. (k, w, (refl, h)))
        (λ h. subst (λ (n : Name). HasAction t x store (Stores n w))
        (sym (same_place k h.0 w h.1 h.2.0))
        (subst (λ (u : Value). HasAction t x store (Stores h.0 u))
        (sym (same_read k h.0 w h.1 h.2.0)) h.2.1))
        (action_or_not t x store (Stores k w))
    by (Stores k w) = inr (λ h. let e : Stores k w ≡ Loads h.0 h.1 = h.2.0 in let wrong : ⊥ = cc in wrong)
    by (Fences f) = inr (λ h. let e : Fences f ≡ Loads h.0 h.1 = h.2.0 in let wrong : ⊥ = cc in wrong)

-- ---- events

pub get_below : {X : Type 0} (xs : List X) (k : ℕ) (x : X) → slice_get xs k ≡ Some x
    → k < length xs
get_below [] k x at = absurd (no_some x at)
get_below (y ∷ ys) zero x at = omega arith
get_below (y ∷ ys) (suc k) x at =
    let rest : k < length ys = get_below ys k x at in omega (arith, rest)

-- a thread that executes something is one of those that run
thread_below : (x : Execution) (thread index : ℕ) (i : Instance)
    → slice_get (instances_of x thread) index ≡ Some i → thread < length x.runs
thread_below x thread index i at = by (slice_get x.runs thread) refl at
  where
    by : (o : Option Run) → slice_get x.runs thread ≡ o
        → slice_get (unwrap_or (option_map (λ (r : Run). r.instances) o) []) index ≡ Some i
        → thread < length x.runs
    by None e at = absurd (no_some i at)
    by (Some r) e at = get_below x.runs thread r e

-- the instructions that are executed, as events
abbrev pub Executed : Execution → Set Event
Executed x e =
    (thread : ℕ) × (thread < length x.runs)
    × ((index : ℕ) × (index < length (instances_of x thread)) × (Does thread index ≡ e))

executed : (x : Execution) → Finite (Executed x)
executed x =
    finite_over (λ thread. thread < length x.runs)
    (λ thread e. (index : ℕ) × (index < length (instances_of x thread))
    × (Does thread index ≡ e))
    (finite_below (length x.runs))
    (λ thread lt. finite_map (λ index. index < length (instances_of x thread))
    (λ index. Does thread index) (finite_below (length (instances_of x thread))))

abbrev pub IsPlace : Content → Execution → Set Event
IsPlace t x e = ((l : Name) × Contains (locations t) l × (Initial l ≡ e)) ⊎ Executed x e

pub places : (t : Content) (x : Execution) → Finite (IsPlace t x)
places t x =
    finite_either (λ e. (l : Name) × Contains (locations t) l × (Initial l ≡ e)) (Executed x)
    (finite_map (λ l. Contains (locations t) l) (λ l. Initial l) (finite_list (locations t)))
    (executed x)

pub does_place : (t : Content) (x : Execution) (thread index : ℕ) (i : Instance)
    → slice_get (instances_of x thread) index ≡ Some i → IsPlace t x (Does thread index)
does_place t x thread index i at =
    inr (
      thread,
      thread_below x thread index i at,
      (index, get_below (instances_of x thread) index i at, refl),
    )

pub event_place : (t : Content) (x : Execution) (e : Event) → IsEvent t x e → IsPlace t x e
event_place t x (Initial l) h = inl (l, h.1.0, refl)
event_place t x (Does thread index) h = does_place t x thread index h.1.0 h.1.1

pub events : (t : Content) (x : Execution) → Finite (IsEvent t x)
events t x =
    finite_as (λ e. IsPlace t x e × IsEvent t x e) (IsEvent t x) (λ e h. h.1)
    (λ e h. (event_place t x e h, h))
    (finite_where (IsPlace t x) (IsEvent t x) (places t x) (λ e is. event_or_not t x e))

-- past the end of a run no instruction reads anything
pub in_range : (x : Execution) (P : text.Instruction → Type 0) → (P (texts.Branch []) → ⊥)
    → (thread index : ℕ) → P (instructions_of x thread index)
    → (i : Instance) × (slice_get (instances_of x thread) index ≡ Some i)
in_range x P none thread index is = by (slice_get (instances_of x thread) index) is
  where
    by : (o : Option Instance)
        → P (unwrap_or (option_map (λ (i : Instance). i.instruction) o) (texts.Branch []))
        → (i : Instance) × (o ≡ Some i)
    by None h = absurd (none h)
    by (Some i) h = (i, refl)
