-- What the relations that have predefined names are, by what their events are and do.
use Rattle.std.proofs.Common.{◌≡◌, ◌↔◌, inl, inr, ℕ, List, map, Contains, refl, sym, ap, subst, ◌∙◌}
use Rattle.std.specs.Prelude.{Some, slice_get}
use Rattle.std.proofs.lemmas.List.Elements.{All-contains}
use Rattle.text_values.specs.declared.instruction.Fence as kinds
use Rattle.text_values.specs.declared.instruction.Fence.TheVariants.{Sync, LightweightSync, Eieio, Isync}
use Rattle.predefined_names.specs.declared.predefined.Predefined.{Predefined}
use Rattle.predefined_names.specs.declared.predefined.Predefined.TheVariants as names
use Rattle.text_values.specs.TestValue.{Content}
use Rattle.meaning.specs.Names.{Name}
use Rattle.meaning.specs.Executions.{Event, Initial, Does, Execution, Loads, Stores, Fences, HasAction, IsEvent, ProgramOrder, ReadsFrom, Coherence}
use Rattle.meaning.specs.Predefined.{IsAccessOf, HaveOneThread, SameLocation, Internal, External, FromReads, Fenced, PairsOf}
use Rattle.meaning_plain.specs.Lists.{HasPairs}
use Rattle.plain_runs.proofs.Listing.{mapped_from}
use Rattle.plain_events.specs.declared.event.Event as code
use Rattle.plain_events.specs.Events.{event_as, action_as}
use Rattle.plain_executions.specs.Executions.{AreRelated}
use Rattle.plain_names.specs.declared.seen.Seen.{Seen}
use Rattle.plain_names.specs.Seen.{seen_event, seen_events, IsSeenAs, AreSeen}
use Rattle.plain_names.proofs.Belonging.{meant, at_to, at_from, seen_at}
use Rattle.plain_names.specs.Related.{IsAccessing, AreAccessing, IsBefore, HasFenceBetween, IsFencedBy, IsRelatedBy}

module _ (t : Content) (x : Execution) where
  before_meant : (e f : Event) → IsEvent t x e → IsEvent t x f
      → IsBefore e f ↔ ProgramOrder t x e f
  before_meant (Initial k) (Initial l) is also = ((λ no. no), λ no. no)
  before_meant (Initial k) (Does v j) is also = ((λ no. no), λ no. no)
  before_meant (Does u i) (Initial l) is also = ((λ no. no), λ no. no)
  before_meant (Does u i) (Does v j) is also =
      ((λ b. (is, also, b.0, b.1)), λ p. (p.2, p.3))

  event_of : (s : Seen) → IsSeenAs t x s → IsEvent t x (event_as s.event)
  event_of s does = (action_as s.action, (does (action_as s.action)).0 refl)

  accessing : (s : Seen) → IsSeenAs t x s → (l : Name)
      → IsAccessing l (action_as s.action) ↔ IsAccessOf t x l (event_as s.event)
  accessing s does l = (to, from)
    where
      to : IsAccessing l (action_as s.action) → IsAccessOf t x l (event_as s.event)
      to (inl (v, e)) = inl (v, (does (Loads l v)).0 e)
      to (inr (v, e)) = inr (v, (does (Stores l v)).0 e)

      from : IsAccessOf t x l (event_as s.event) → IsAccessing l (action_as s.action)
      from (inl (v, has)) = inl (v, (does (Loads l v)).1 has)
      from (inr (v, has)) = inr (v, (does (Stores l v)).1 has)

  module _ (a b : Seen) (first : IsSeenAs t x a) (second : IsSeenAs t x b) where
    abbrev A : Event
    A = event_as a.event

    abbrev B : Event
    B = event_as b.event

    po : IsBefore A B ↔ ProgramOrder t x A B
    po = before_meant A B (event_of a first) (event_of b second)

    loc : AreAccessing (action_as a.action) (action_as b.action) ↔ SameLocation t x A B
    loc = (
      (λ are. (are.0, (accessing a first are.0).0 are.1, (accessing b second are.0).0 are.2)),
      λ are. (are.0, (accessing a first are.0).1 are.1, (accessing b second are.0).1 are.2),
    )

    internal : HaveOneThread A B ↔ Internal t x A B
    internal = ((λ have. (event_of a first, event_of b second, have)), λ are. are.2)

    external : (HaveOneThread A B → ⊥) ↔ External t x A B
    external = (
      (λ none. (event_of a first, event_of b second, λ are. none are.2)),
      λ are have. are.2 (event_of a first, event_of b second, have),
    )

    both : (P Q R S : Type 0) → P ↔ Q → R ↔ S → (P × R) ↔ (Q × S)
    both P Q R S one other =
        ((λ is. (one.0 is.0, other.0 is.1)), λ is. (one.1 is.0, other.1 is.1))

    same : (P : Type 0) → P ↔ P
    same P = ((λ is. is), λ is. is)

    module _ (seen : List Seen) (are : AreSeen t x seen) where
      known : (s : Seen) → Contains seen s → IsSeenAs t x s
      known s there = All-contains (IsSeenAs t x) seen s are.actions there

      found : (e : Event) → IsEvent t x e
          → (s : Seen) × Contains seen s × (event_as s.event ≡ e)
      found e is =
          let one : (c : code.Event) × Contains (map seen_event seen) c × (event_as c ≡ e) =
          mapped_from event_as (map seen_event seen) e ((are.listed.exact e).1 is) in
          let two : (s : Seen) × Contains seen s × (s.event ≡ one.0) =
          mapped_from seen_event seen one.0 one.1 in
          (two.0, two.1, ap event_as two.2 ∙ one.2)

      fence_to : (f : kinds.Fence) → HasFenceBetween seen f A B
          → (c : Event) × ProgramOrder t x A c × HasAction t x c (Fences f) × ProgramOrder t x c B
      fence_to f (c, there, (begins, is, ends)) =
          let does : IsSeenAs t x c = known c there in
          let e : IsEvent t x (event_as c.event) = event_of c does in (
            event_as c.event,
            (before_meant A (event_as c.event) (event_of a first) e).0 begins,
            (does (Fences f)).0 is,
            (before_meant (event_as c.event) B e (event_of b second)).0 ends,
          )

      fence_from : (f : kinds.Fence)
          → (c : Event) × ProgramOrder t x A c × HasAction t x c (Fences f) × ProgramOrder t x c B
          → HasFenceBetween seen f A B
      fence_from f (e, begins, is, ends) =
          let event : IsEvent t x e = (Fences f, is) in
          let one : (s : Seen) × Contains seen s × (event_as s.event ≡ e) = found e event in (
            one.0,
            one.1,
            (
              subst (λ (z : Event). IsBefore A z) (sym one.2)
                  ((before_meant A e (event_of a first) event).1 begins),
              (known one.0 one.1 (Fences f)).1
                  (subst (λ (z : Event). HasAction t x z (Fences f)) (sym one.2) is),
              subst (λ (z : Event). IsBefore z B) (sym one.2)
                  ((before_meant e B event (event_of b second)).1 ends),
            ),
          )

      fenced : (f : kinds.Fence) → IsFencedBy seen f a b ↔ Fenced t x f A B
      fenced f = (
        (λ is. ((meant t x a first names.Accesses).0 is.0, (meant t x b second names.Accesses).0 is.1, fence_to f is.2)),
        λ is. ((meant t x a first names.Accesses).1 is.0, (meant t x b second names.Accesses).1 is.1, fence_from f is.2),
      )

      pub related_meant : (p : Predefined) → IsRelatedBy p seen x a b ↔ PairsOf t x p A B
      related_meant names.Identity = ((λ e. (event_of a first, e)), λ is. is.1)
      related_meant names.ProgramOrder = po
      related_meant names.SameLocation = loc
      related_meant names.ProgramOrderSameLocation =
          both (IsBefore A B) (ProgramOrder t x A B)
          (AreAccessing (action_as a.action) (action_as b.action)) (SameLocation t x A B) po loc
      related_meant names.Internal = internal
      related_meant names.External = external
      related_meant names.ReadsFrom = same (ReadsFrom x A B)
      related_meant names.Coherence = same (Coherence x A B)
      related_meant names.FromReads = same (FromReads x A B)
      related_meant names.ReadsFromExternal =
          both (ReadsFrom x A B) (ReadsFrom x A B) (HaveOneThread A B → ⊥) (External t x A B)
          (same (ReadsFrom x A B)) external
      related_meant names.ReadsFromInternal =
          both (ReadsFrom x A B) (ReadsFrom x A B) (HaveOneThread A B) (Internal t x A B)
          (same (ReadsFrom x A B)) internal
      related_meant names.CoherenceExternal =
          both (Coherence x A B) (Coherence x A B) (HaveOneThread A B → ⊥) (External t x A B)
          (same (Coherence x A B)) external
      related_meant names.CoherenceInternal =
          both (Coherence x A B) (Coherence x A B) (HaveOneThread A B) (Internal t x A B)
          (same (Coherence x A B)) internal
      related_meant names.FromReadsExternal =
          both (FromReads x A B) (FromReads x A B) (HaveOneThread A B → ⊥) (External t x A B)
          (same (FromReads x A B)) external
      related_meant names.FromReadsInternal =
          both (FromReads x A B) (FromReads x A B) (HaveOneThread A B) (Internal t x A B)
          (same (FromReads x A B)) internal
      related_meant names.SyncOrder = fenced Sync
      related_meant names.LwsyncOrder = fenced LightweightSync
      related_meant names.EieioOrder = fenced Eieio
      related_meant names.IsyncOrder = fenced Isync
      related_meant _ = ((λ is. is), λ is. is)

-- the pairs of indexes
pub pairs_meant : (t : Content) (x : Execution) (p : Predefined) (seen : List Seen) (ps : List (ℕ × ℕ))
    → HasPairs (AreRelated (IsRelatedBy p seen x) seen) ps → AreSeen t x seen
    → HasPairs (AreRelated (PairsOf t x p) (seen_events seen)) ps
pairs_meant t x p seen ps have are i j = ((λ there. to ((have i j).0 there)), λ is. (have i j).1 (back is))
  where
    does : (k : ℕ) (s : Seen) → slice_get seen k ≡ Some s → IsSeenAs t x s
    does k s at = seen_at seen (IsSeenAs t x) are.actions k s at

    to : AreRelated (IsRelatedBy p seen x) seen i j → AreRelated (PairsOf t x p) (seen_events seen) i j
    to (a, b, at, also, is) = (
      event_as a.event,
      event_as b.event,
      at_to seen i a at,
      at_to seen j b also,
      (related_meant t x a b (does i a at) (does j b also) seen are p).0 is,
    )

    back : AreRelated (PairsOf t x p) (seen_events seen) i j → AreRelated (IsRelatedBy p seen x) seen i j
    back (e, f, at, also, is) =
        let a : (s : Seen) × (slice_get seen i ≡ Some s) × (event_as s.event ≡ e) = at_from seen i e at in
        let b : (s : Seen) × (slice_get seen j ≡ Some s) × (event_as s.event ≡ f) = at_from seen j f also in (
          a.0,
          b.0,
          a.1,
          b.1,
          (related_meant t x a.0 b.0 (does i a.0 a.1) (does j b.0 b.1) seen are p).1
              (subst (λ (z : Event). PairsOf t x p z (event_as b.0.event)) (sym a.2)
              (subst (λ (z : Event). PairsOf t x p e z) (sym b.2) is)),
        )
