-- The members of the sets that have predefined names.
use Rattle.std.proofs.Common.{◌≡◌, ◌↔◌, ◌⊎◌, inl, inr, ℕ, ◌+◌, ◌<◌, ◌≤◌, List, [], length, map, get_or, Contains, All, refl, sym, ap, subst, ◌∙◌, arith}
use Rattle.std.specs.Prelude.{Option, Some, option_map, slice_get}
use Rattle.std.proofs.lemmas.Option.{slice_get-map, slice_get_within, slice_get-get_or, get_or_from_slice_get, same_Some}
use Rattle.text_values.specs.declared.instruction.Fence.TheVariants.{Sync, LightweightSync, Eieio, Isync}
use Rattle.predefined_names.specs.declared.predefined.Predefined.{Predefined}
use Rattle.predefined_names.specs.declared.predefined.Predefined.TheVariants as names
use Rattle.text_values.specs.TestValue.{Content}
use Rattle.meaning.specs.Sets.{Set}
use Rattle.meaning.specs.Names.{Name}
use Rattle.meaning.specs.Executions.{Event, Execution, Action, Loads, Stores, Fences, IsStoreOf}
use Rattle.meaning.specs.Predefined.{IsLoadOf, EventsOf}
use Rattle.meaning_plain.specs.Lists.{HasMembers, Grows}
use Rattle.plain_runs.proofs.Running.{option_mapped}
use Rattle.plain_events.specs.declared.event.Event as code
use Rattle.plain_events.specs.Events.{event_as, action_as}
use Rattle.plain_runs.proofs.Listing.{none_there}
use Rattle.plain_names.specs.declared.seen.Seen.{Seen}
use Rattle.plain_names.specs.Seen.{seen_event, seen_events, IsSeenAs, AreSeen}
use Rattle.plain_names.specs.Members.{IsLoading, IsStoring, IsMemberBy, IsMemberSeen, IsMemberAt}

-- ---- the loop

module _ (P : Seen → Type 0) (seen : List Seen) where
  abbrev pub At : Set ℕ
  At n = (s : Seen) × (slice_get seen n ≡ Some s) × P s

  pub members_begin : (ns : List ℕ) → ns ≡ [] → HasMembers (λ n. (n < 0) × At n) ns
  members_begin ns e n = (
    (λ there. absurd (none_there n (subst (λ (l : List ℕ). Contains l n) e there))),
    λ is. absurd (let lt : n < 0 = is.0 in omega (arith, lt)),
  )

  one_more : (j k : ℕ) → j < k + 1 → (j < k) ⊎ (j ≡ k)
  one_more j k lt = grind arith

  pub members_more : (k : ℕ) (d : Seen) (old new : List ℕ) → k < length seen
      → HasMembers (λ n. (n < k) × At n) old
      → Grows (λ n. (n ≡ k) × P (get_or seen k d)) old new
      → HasMembers (λ n. (n < k + 1) × At n) new
  members_more k d old new below before step n = (to, back)
    where
      here : At k ↔ P (get_or seen k d)
      here = (
        (λ is. subst P (same_Some is.0 (get_or seen k d) (sym is.1 ∙ slice_get-get_or seen k d below)) is.2),
        λ is. (get_or seen k d, slice_get-get_or seen k d below, is),
      )

      among : Contains old n ⊎ ((n ≡ k) × P (get_or seen k d)) → (n < k + 1) × At n
      among (inl there) =
          let is : (n < k) × At n = (before n).0 there in
          ((let lt : n < k = is.0 in omega (arith, lt)), is.1)
      among (inr (e, is)) = (omega (arith, e), subst (λ (j : ℕ). At j) (sym e) (here.1 is))

      to : Contains new n → (n < k + 1) × At n
      to there = among ((step.exact n).0 there)

      split : At n → (n < k) ⊎ (n ≡ k) → Contains new n
      split is (inl lt) = (step.exact n).1 (inl ((before n).1 (lt, is)))
      split is (inr e) = (step.exact n).1 (inr (e, here.0 (subst (λ (j : ℕ). At j) e is)))

      back : (n < k + 1) × At n → Contains new n
      back (lt, is) = split is (one_more n k lt)

  pub members_all : (k : ℕ) (ns : List ℕ) → length seen ≤ k
      → HasMembers (λ n. (n < k) × At n) ns → HasMembers At ns
  members_all k ns le are n = (
    (λ there. ((are n).0 there).1),
    λ is. (are n).1
        ((let lt : n < length seen = slice_get_within seen n is.0 is.1 in omega (arith, lt, le)), is),
  )

-- ---- what a set is, by what its members do

module _ (t : Content) (x : Execution) (s : Seen) (does : IsSeenAs t x s) where
  abbrev E : Event
  E = event_as s.event

  abbrev A : Action
  A = action_as s.action

  access_to : IsLoading A ⊎ IsStoring A → (l : Name) × (IsLoadOf t x l E ⊎ IsStoreOf t x l E)
  access_to (inl (l, v, e)) = (l, inl (v, (does (Loads l v)).0 e))
  access_to (inr (l, v, e)) = (l, inr (v, (does (Stores l v)).0 e))

  access_from : (l : Name) → IsLoadOf t x l E ⊎ IsStoreOf t x l E → IsLoading A ⊎ IsStoring A
  access_from l (inl (v, has)) = inl (l, v, (does (Loads l v)).1 has)
  access_from l (inr (v, has)) = inr (l, v, (does (Stores l v)).1 has)

  pub meant : (p : Predefined) → IsMemberBy p E A ↔ EventsOf t x p E
  meant names.Loads = (
    (λ is. (is.0, (is.1, (does (Loads is.0 is.1)).0 is.2))),
    λ has. (has.0, has.1.0, (does (Loads has.0 has.1.0)).1 has.1.1),
  )
  meant names.Stores = (
    (λ is. (is.0, (is.1, (does (Stores is.0 is.1)).0 is.2))),
    λ has. (has.0, has.1.0, (does (Stores has.0 has.1.0)).1 has.1.1),
  )
  meant names.Accesses = (access_to, λ has. access_from has.0 has.1)
  meant names.Fences = (
    (λ is. (is.0, (does (Fences is.0)).0 is.1)),
    λ has. (has.0, (does (Fences has.0)).1 has.1),
  )
  meant names.InitialStores = ((λ is. ((A, (does A).0 refl), is)), λ has. has.1)
  meant names.SyncFences = does (Fences Sync)
  meant names.LwsyncFences = does (Fences LightweightSync)
  meant names.EieioFences = does (Fences Eieio)
  meant names.IsyncFences = does (Fences Isync)
  meant _ = ((λ is. is), λ is. is)

-- ---- events at an index

module _ (seen : List Seen) where
  pub at_to : (n : ℕ) (s : Seen) → slice_get seen n ≡ Some s
      → slice_get (seen_events seen) n ≡ Some (event_as s.event)
  at_to n s at =
      slice_get-map event_as (map seen_event seen) n
      ∙ ap (λ (o : Option code.Event). option_map event_as o)
      (slice_get-map seen_event seen n ∙ ap (λ (o : Option Seen). option_map seen_event o) at)

  pub at_from : (n : ℕ) (e : Event) → slice_get (seen_events seen) n ≡ Some e
      → (s : Seen) × (slice_get seen n ≡ Some s) × (event_as s.event ≡ e)
  at_from n e at =
      let first : (c : code.Event) × (slice_get (map seen_event seen) n ≡ Some c) × (event_as c ≡ e) =
      option_mapped event_as (slice_get (map seen_event seen) n) e
      (sym (slice_get-map event_as (map seen_event seen) n) ∙ at) in
      let second : (s : Seen) × (slice_get seen n ≡ Some s) × (s.event ≡ first.0) =
      option_mapped seen_event (slice_get seen n) first.0
      (sym (slice_get-map seen_event seen n) ∙ first.1) in
      (second.0, second.1, ap event_as second.2 ∙ first.2)

  pub seen_at : (P : Seen → Type 0) → All P seen → (n : ℕ) (s : Seen) → slice_get seen n ≡ Some s → P s
  seen_at P all n s at =
      subst P (get_or_from_slice_get seen n s s at) (all n s (slice_get_within seen n s at))

  pub members_meant : (t : Content) (x : Execution) (p : Predefined) (ns : List ℕ)
      → HasMembers (IsMemberSeen p seen) ns → AreSeen t x seen
      → HasMembers (IsMemberAt t x p (seen_events seen)) ns
  members_meant t x p ns are shown n = ((λ there. to ((are n).0 there)), λ is. (are n).1 (back is))
    where
      to : IsMemberSeen p seen n → IsMemberAt t x p (seen_events seen) n
      to (s, at, is) =
          (event_as s.event, at_to n s at, (meant t x s (seen_at (IsSeenAs t x) shown.actions n s at) p).0 is)

      back : IsMemberAt t x p (seen_events seen) n → IsMemberSeen p seen n
      back (e, at, is) =
          let found : (s : Seen) × (slice_get seen n ≡ Some s) × (event_as s.event ≡ e) = at_from n e at in (
            found.0,
            found.1,
            (meant t x found.0 (seen_at (IsSeenAs t x) shown.actions n found.0 found.1) p).1
                (subst (λ (c : Event). EventsOf t x p c) (sym found.2) is),
          )
