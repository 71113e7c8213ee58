-- The predefined relations of an execution relate its events alone, and the predefined sets have no
-- others.
use Rattle.std.proofs.Common.{inl, inr, ℕ, zero, suc, List, [], ◌∷◌, IsTrue, Contains, refl, sym, subst, arith, true≢false}
use Rattle.std.specs.List.{AllZip}
use Rattle.text_values.specs.declared.instruction.Instruction.{Instruction}
use Rattle.text_values.specs.declared.instruction.Instruction.TheVariants as does
use Rattle.text_values.specs.declared.instruction.Fence as kinds
use Rattle.text_values.specs.declared.instruction.Fence.TheVariants.{Sync, LightweightSync, Eieio, Isync}
use Rattle.predefined_names.specs.declared.predefined.Predefined.{Predefined}
use Rattle.predefined_names.specs.declared.predefined.Predefined.TheVariants as names
use Rattle.text_values.specs.TestValue.{Content}
use Rattle.meaning.specs.Names.{Name, locations}
use Rattle.meaning.specs.Machine.{is_load}
use Rattle.meaning.specs.Dependencies.{Instructions, Slot, IsAddressRegister, IsStoredRegister, IsAddr, IsData, IsCtrl, IsCtrlIsync, is_event}
use Rattle.meaning.specs.Executions.{Event, Initial, Does, Execution, Loads, Stores, Fences, IsEvent, IsStoreOf, ProgramOrder, ReadsFrom, Coherence, Dependency, MayRead, IsOrder, IsExecution, instructions_of, loads_in}
use Rattle.meaning.specs.Predefined.{IsAccessOf, Internal, External, FromReads, SameLocation, Fenced, EventsOf, PairsOf}
use Rattle.plain_executions.proofs.Indexing.{stands}
use Rattle.plain_executions.proofs.Pairing.{zip_related}
use Rattle.plain_outcomes.proofs.Sound.{event_at}

-- Both are events.
abbrev Both : Content → Execution → Event → Event → Type 0
Both t x a b = IsEvent t x a × IsEvent t x b

-- ---- instructions

load_event : (i : Instruction) → IsTrue (is_load i) → IsTrue (is_event i)
load_event (does.Load d a) is = refl
load_event (does.LoadIndexed d a b) is = refl
load_event _ is = absurd (true≢false (sym is))

address_event : (i : Instruction) (p : Slot) → IsAddressRegister i p → IsTrue (is_event i)
address_event (does.Load d a) p is = refl
address_event (does.LoadIndexed d a b) p is = refl
address_event (does.Store d a) p is = refl
address_event (does.StoreIndexed d a b) p is = refl
address_event _ p is = absurd is

stored_event : (i : Instruction) (p : Slot) → IsStoredRegister i p → IsTrue (is_event i)
stored_event (does.Store d a) p is = refl
stored_event (does.StoreIndexed d a b) p is = refl
stored_event _ p is = absurd is

-- the orders of an execution are each of a location
order_of : {X Y : Type 0} (P : X → Y → Type 0) (xs : List X) (ys : List Y) → AllZip P xs ys
    → (y : Y) → Contains ys y → (x : X) × P x y
order_of P [] [] are y there = absurd (omega (arith, there.1))
order_of P [] (z ∷ ys) are y there = absurd are
order_of P (x ∷ xs) [] are y there = absurd are
order_of P (x ∷ xs) (z ∷ ys) are y (zero, lt, at) = (x, subst (λ (w : _). P x w) at are.0)
order_of P (x ∷ xs) (z ∷ ys) are y (suc k, lt, at) =
    order_of P xs ys are.1 y (k, omega (arith, lt), at)

module _ (t : Content) (x : Execution) where
  -- ---- events by what they do

  access_event : (l : Name) (e : Event) → IsAccessOf t x l e → IsEvent t x e
  access_event l e (inl (v, has)) = (Loads l v, has)
  access_event l e (inr (v, has)) = (Stores l v, has)

  pub events_among : (p : Predefined) (e : Event) → EventsOf t x p e → IsEvent t x e
  events_among names.Loads e (l, (v, has)) = (Loads l v, has)
  events_among names.Stores e (l, (v, has)) = (Stores l v, has)
  events_among names.Accesses e (l, is) = access_event l e is
  events_among names.Fences e (f, has) = (Fences f, has)
  events_among names.InitialStores e is = is.0
  events_among names.SyncFences e has = (Fences Sync, has)
  events_among names.LwsyncFences e has = (Fences LightweightSync, has)
  events_among names.EieioFences e has = (Fences Eieio, has)
  events_among names.IsyncFences e has = (Fences Isync, has)
  events_among _ e is = absurd is

  ordered : (a b : Event) → ProgramOrder t x a b → Both t x a b
  ordered (Does u i) (Does v j) is = (is.0, is.1)
  ordered (Initial l) b is = absurd is
  ordered (Does u i) (Initial l) is = absurd is

  located : (a b : Event) → SameLocation t x a b → Both t x a b
  located a b (l, first, second) = (access_event l a first, access_event l b second)

  fenced : (f : kinds.Fence) (a b : Event) → Fenced t x f a b → Both t x a b
  fenced f a b is = (access_event is.0.0 a is.0.1, access_event is.1.0 b is.1.1)

  module _ (is : IsExecution t x) where
    -- ---- communication

    read : (a b : Event) → ReadsFrom x a b → Both t x a b
    read a b there =
        let may : MayRead t x b a =
        zip_related (MayRead t x) (loads_in 0 x.runs) x.reads_from is.reads b a there in
        ((Stores may.0 may.1, may.3), (Loads may.0 may.1, may.2))

    store_event : (l : Name) (e : Event) → IsStoreOf t x l e → IsEvent t x e
    store_event l e (v, has) = (Stores l v, has)

    cohering : (a b : Event) → Coherence x a b → Both t x a b
    cohering a b (order, there, i, j, lt, first, second) =
        let of : (l : Name) × IsOrder t x l order =
        order_of (IsOrder t x) (locations t) x.coherence is.orders order there in (
          store_event of.0 a ((of.1.0.exact a).0 (stands order i a first)),
          store_event of.0 b ((of.1.0.exact b).0 (stands order j b second)),
        )

    read_before : (a b : Event) → FromReads x a b → Both t x a b
    read_before a b (c, reads, before) = ((read c a reads).1, (cohering c b before).1)

    -- ---- dependencies

    depends : (R : Instructions → ℕ → ℕ → Type 0)
        → ((at : Instructions) (i j : ℕ) → R at i j → IsTrue (is_event (at i)) × IsTrue (is_event (at j)))
        → (a b : Event) → Dependency R x a b → Both t x a b
    depends R events (Does u i) (Does v j) (same, related) =
        let both : _ = events (instructions_of x u) i j related in (
          event_at t x is u i both.0,
          subst (λ (w : ℕ). IsEvent t x (Does w j)) same (event_at t x is u j both.1),
        )
    depends R events (Initial l) b related = absurd related
    depends R events (Does u i) (Initial l) related = absurd related

    pub pairs_among : (p : Predefined) (a b : Event) → PairsOf t x p a b → Both t x a b
    pairs_among names.Identity a b (event, same) =
        (event, subst (λ (e : Event). IsEvent t x e) same event)
    pairs_among names.ProgramOrder a b related = ordered a b related
    pairs_among names.SameLocation a b related = located a b related
    pairs_among names.ProgramOrderSameLocation a b related = ordered a b related.0
    pairs_among names.Internal a b related = (related.0, related.1)
    pairs_among names.External a b related = (related.0, related.1)
    pairs_among names.ReadsFrom a b related = read a b related
    pairs_among names.Coherence a b related = cohering a b related
    pairs_among names.FromReads a b related = read_before a b related
    pairs_among names.ReadsFromExternal a b related = read a b related.0
    pairs_among names.ReadsFromInternal a b related = read a b related.0
    pairs_among names.CoherenceExternal a b related = cohering a b related.0
    pairs_among names.CoherenceInternal a b related = cohering a b related.0
    pairs_among names.FromReadsExternal a b related = read_before a b related.0
    pairs_among names.FromReadsInternal a b related = read_before a b related.0
    pairs_among names.Communication a b (inl (inl related)) = read a b related
    pairs_among names.Communication a b (inl (inr related)) = cohering a b related
    pairs_among names.Communication a b (inr related) = read_before a b related
    pairs_among names.AddressDependency a b related =
        depends IsAddr
        (λ at i j is. (load_event (at i) is.0, address_event (at j) is.1.0 is.1.1)) a b related
    pairs_among names.DataDependency a b related =
        depends IsData
        (λ at i j is. (load_event (at i) is.0, stored_event (at j) is.1.0 is.1.1)) a b related
    pairs_among names.ControlDependency a b related =
        depends IsCtrl (λ at i j is. (load_event (at i) is.1.3.0, is.0)) a b related
    pairs_among names.ControlIsyncDependency a b related =
        depends IsCtrlIsync (λ at i j is. (load_event (at i) is.1.3.1.3.0, is.0)) a b related
    pairs_among names.SyncOrder a b related = fenced Sync a b related
    pairs_among names.LwsyncOrder a b related = fenced LightweightSync a b related
    pairs_among names.EieioOrder a b related = fenced Eieio a b related
    pairs_among names.IsyncOrder a b related = fenced Isync a b related
    pairs_among _ a b related = absurd related
