-- An event by number is in the set of a predefined name where the event by name is.
use Rattle.std.proofs.Common.{ℕ, ◌≡◌, ◌↔◌, ◌⊎◌, inl, inr, Option, Some, None, slice_get, refl, sym, ap, subst, ◌∙◌, List}
use Rattle.std.proofs.lemmas.Option.{same_Some}
use Rattle.text_values.specs.declared.instruction.Fence as kinds
use Rattle.text_values.specs.declared.instruction.Fence.TheVariants.{Sync, LightweightSync, Eieio, Isync}
use Rattle.predefined_names.specs.declared.predefined.Predefined.{Predefined}
use Rattle.predefined_names.specs.declared.predefined.Predefined.TheVariants as names
use Rattle.text_values.specs.TestValue.{Content}
use Rattle.store_orders.specs.declared.combination.Action as numbered_action
use Rattle.store_orders.specs.declared.combination.Action.TheVariants as actions
use Rattle.store_orders.specs.declared.combination.Event as numbered_event
use Rattle.base_names.specs.Events as of
use Rattle.base_names.specs.Events.{location_of}
use Rattle.base_names.specs.Names.{IsIn}
use Rattle.meaning.specs.Names.{Name, locations}
use Rattle.meaning.specs.Machine.{Value}
use Rattle.meaning.specs.Executions.{Event, Initial, Does, Execution, Action, Loads, Stores, Fences, HasAction, IsEvent, IsStoreOf}
use Rattle.meaning.specs.Predefined.{IsLoadOf, IsAccessOf, IsFence, IsInitial, HaveOneThread, EventsOf}
use Rattle.meaning_executions.specs.Events.{IsSameAction, loads, stores, fences, IsSameEvent, thread_of_event}
use Rattle.meaning_executions.proofs.Doing.{one_does}
use Rattle.meaning_executions.proofs.Numbering.{names_once}
use Rattle.meaning_executions.proofs.Reading.{load_by_name, store_by_name, load_by_number, store_by_number}

-- ---- actions

one_fence : {f g : kinds.Fence} → actions.Fence f ≡ actions.Fence g → f ≡ g
one_fence e = cc

one_named_fence : {f g : kinds.Fence} → Fences f ≡ Fences g → f ≡ g
one_named_fence e = cc

module _ (ls : List Name) where
  fence_by_name : {a : numbered_action.Action} {b : Action} → IsSameAction ls a b
      → (f : kinds.Fence) → a ≡ actions.Fence f → b ≡ Fences f
  fence_by_name (loads k lt value) f e = absurd cc
  fence_by_name (stores k lt value) f e = absurd cc
  fence_by_name (fences g) f e = ap (λ (h : kinds.Fence). Fences h) (one_fence e)

  fence_by_number : {a : numbered_action.Action} {b : Action} → IsSameAction ls a b
      → (f : kinds.Fence) → b ≡ Fences f → a ≡ actions.Fence f
  fence_by_number (loads k lt value) f e = absurd cc
  fence_by_number (stores k lt value) f e = absurd cc
  fence_by_number (fences g) f e = ap (λ (h : kinds.Fence). actions.Fence h) (one_named_fence e)

  -- an access of a location
  abbrev Accesses : Action → Name → Type 0
  Accesses b l = ((w : Value) × (b ≡ Loads l w)) ⊎ ((w : Value) × (b ≡ Stores l w))

  access_by_name : (a : numbered_action.Action) (b : Action) → IsSameAction ls a b → (k : ℕ)
      → location_of a ≡ Some k → (l : Name) × (slice_get ls k ≡ Some l) × Accesses b l
  access_by_name (actions.Load i v) b s k e =
      let at : i ≡ k = same_Some _ _ e in
      let by : _ = load_by_name ls s k v (ap (λ (j : ℕ). actions.Load j v) at) in
      (by.0, by.3.location, inl (by.1, by.2))
  access_by_name (actions.Store i v) b s k e =
      let at : i ≡ k = same_Some _ _ e in
      let by : _ = store_by_name ls s k v (ap (λ (j : ℕ). actions.Store j v) at) in
      (by.0, by.3.location, inr (by.1, by.2))
  access_by_name (actions.Fence f) b s k e = absurd (let g : None ≡ Some k = e in cc)

  access_by_number : (a : numbered_action.Action) (b : Action) → IsSameAction ls a b → (l : Name)
      → Accesses b l → (k : ℕ) × (slice_get ls k ≡ Some l) × (location_of a ≡ Some k)
  access_by_number a b s l (inl h) =
      let by : _ = load_by_number ls s l h.0 h.1 in
      (by.0, by.3.location, ap location_of by.2)
  access_by_number a b s l (inr h) =
      let by : _ = store_by_number ls s l h.0 h.1 in
      (by.0, by.3.location, ap location_of by.2)

-- ---- one event

module _ (t : Content) (y : Execution) where
  pub event_of_access : (l : Name) (e : Event) → IsAccessOf t y l e → IsEvent t y e
  event_of_access l e (inl h) = (Loads l h.0, h.1)
  event_of_access l e (inr h) = (Stores l h.0, h.1)

  pub event_of_set : (p : Predefined) (e : Event) → EventsOf t y p e → IsEvent t y e
  event_of_set names.Loads e h = (Loads h.0 h.1.0, h.1.1)
  event_of_set names.Stores e h = (Stores h.0 h.1.0, h.1.1)
  event_of_set names.Accesses e h = event_of_access h.0 e h.1
  event_of_set names.Fences e h = (Fences h.0, h.1)
  event_of_set names.InitialStores e h = h.0
  event_of_set names.SyncFences e h = (Fences Sync, h)
  event_of_set names.LwsyncFences e h = (Fences LightweightSync, h)
  event_of_set names.EieioFences e h = (Fences Eieio, h)
  event_of_set names.IsyncFences e h = (Fences Isync, h)
  event_of_set _ e h = absurd h

  module _ (d : numbered_event.Event) (e : Event) (same : IsSameEvent t y d e) where
    -- what it does is what it was said to do
    it_does : (a : Action) → HasAction t y e a → same.action ≡ a
    it_does a h = one_does t y e same.action a same.does h

    does_it : (a : Action) → same.action ≡ a → HasAction t y e a
    does_it a is = subst (λ (b : Action). HasAction t y e b) is same.does

    load_same : of.IsLoad d ↔ ((l : Name) × IsLoadOf t y l e)
    load_same = (
      λ h. let by : _ = load_by_name (locations t) same.same h.0 h.1 h.2 in
          (by.0, (by.1, does_it (Loads by.0 by.1) by.2)),
      λ h. let by : _ = load_by_number (locations t) same.same h.0 h.1.0
          (it_does (Loads h.0 h.1.0) h.1.1) in
          (by.0, by.1, by.2),
    )

    store_same : of.IsStore d ↔ ((l : Name) × IsStoreOf t y l e)
    store_same = (
      λ h. let by : _ = store_by_name (locations t) same.same h.0 h.1 h.2 in
          (by.0, (by.1, does_it (Stores by.0 by.1) by.2)),
      λ h. let by : _ = store_by_number (locations t) same.same h.0 h.1.0
          (it_does (Stores h.0 h.1.0) h.1.1) in
          (by.0, by.1, by.2),
    )

    has_access : (l : Name) → Accesses (locations t) same.action l → IsAccessOf t y l e
    has_access l (inl h) = inl (h.0, does_it (Loads l h.0) h.1)
    has_access l (inr h) = inr (h.0, does_it (Stores l h.0) h.1)

    is_access : (l : Name) → IsAccessOf t y l e → Accesses (locations t) same.action l
    is_access l (inl h) = inl (h.0, it_does (Loads l h.0) h.1)
    is_access l (inr h) = inr (h.0, it_does (Stores l h.0) h.1)

    pub access_there : (k : ℕ) → location_of d.action ≡ Some k
        → (l : Name) × (slice_get (locations t) k ≡ Some l) × IsAccessOf t y l e
    access_there k h =
        let by : _ = access_by_name (locations t) d.action same.action same.same k h in
        (by.0, by.1, has_access by.0 by.2)

    pub access_back : (l : Name) → IsAccessOf t y l e
        → (k : ℕ) × (slice_get (locations t) k ≡ Some l) × (location_of d.action ≡ Some k)
    access_back l h =
        access_by_number (locations t) d.action same.action same.same l (is_access l h)

    access_same : of.IsAccess d ↔ ((l : Name) × IsAccessOf t y l e)
    access_same = (
      λ h. let by : _ = access_there h.0 h.1 in (by.0, by.2),
      λ h. let by : _ = access_back h.0 h.1 in (by.0, by.2),
    )

    pub fence_same : (f : kinds.Fence) → of.IsFence f d ↔ IsFence t y f e
    fence_same f = (
      λ h. does_it (Fences f) (fence_by_name (locations t) same.same f h),
      λ h. fence_by_number (locations t) same.same f (it_does (Fences f) h),
    )

    initial_same : of.IsInitial d ↔ (IsEvent t y e × IsInitial e)
    initial_same = (
      λ h. ((same.action, same.does), at e (sym same.thread ∙ h)),
      λ h. same.thread ∙ none e h.1,
    )
      where
        at : (g : Event) → thread_of_event g ≡ None → IsInitial g
        at (Initial l) is = tt
        at (Does u i) is = absurd (let g : Some u ≡ None = is in cc)

        none : (g : Event) → IsInitial g → thread_of_event g ≡ None
        none (Initial l) is = refl
        none (Does u i) is = absurd is

    pub set_same : (p : Predefined) → IsIn p d ↔ EventsOf t y p e
    set_same names.Loads = load_same
    set_same names.Stores = store_same
    set_same names.Accesses = access_same
    set_same names.Fences =
        (λ h. (h.0, (fence_same h.0).0 h.1), λ h. (h.0, (fence_same h.0).1 h.1))
    set_same names.InitialStores = initial_same
    set_same names.SyncFences = fence_same Sync
    set_same names.LwsyncFences = fence_same LightweightSync
    set_same names.EieioFences = fence_same Eieio
    set_same names.IsyncFences = fence_same Isync
    set_same _ = (λ h. h, λ h. h)

  -- ---- two events

  module _ (d f : numbered_event.Event) (a b : Event) (first : IsSameEvent t y d a)
      (second : IsSameEvent t y f b) where
    pub location_same : of.IsSameLocation d f
        ↔ ((l : Name) × IsAccessOf t y l a × IsAccessOf t y l b)
    location_same = (
      λ h. let one : _ = access_there d a first h.0 h.1 in
          let other : _ = access_there f b second h.0 h.2 in
          let is : other.0 ≡ one.0 = same_Some _ _ (sym other.1 ∙ one.1) in
          (one.0, one.2, subst (λ (l : Name). IsAccessOf t y l b) is other.2),
      λ h. let one : _ = access_back d a first h.0 h.1 in
          let other : _ = access_back f b second h.0 h.2 in
          let is : other.0 ≡ one.0 = names_once t other.0 one.0 h.0 other.1 one.1 in
          (one.0, one.2, other.2 ∙ ap (λ (k : ℕ). Some k) is),
    )

    pub thread_same : of.IsSameThread d f ↔ HaveOneThread a b
    thread_same = at a b first.thread second.thread
      where
        at : (v w : Event) → d.thread ≡ thread_of_event v → f.thread ≡ thread_of_event w
            → of.IsSameThread d f ↔ HaveOneThread v w
        at (Does u i) (Does v j) p q = (
          λ h. same_Some _ _ (sym p ∙ h.1) ∙ sym (same_Some _ _ (sym q ∙ h.2)),
          λ h. (u, p, q ∙ ap (λ (k : ℕ). Some k) (sym h)),
        )
        at (Initial l) w p q = (
          λ h. absurd (let g : None ≡ Some h.0 = sym p ∙ h.1 in cc),
          λ h. absurd h,
        )
        at (Does u i) (Initial l) p q = (
          λ h. absurd (let g : None ≡ Some h.0 = sym q ∙ h.2 in cc),
          λ h. absurd h,
        )
