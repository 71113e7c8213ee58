-- The relations that look at two events alone are the same by number and by name.
use Rattle.std.proofs.Common.{ℕ, ◌≡◌, ◌<◌, ◌↔◌, List, [], length, get_or, Some, slice_get, sym, ap, subst, ◌∙◌}
use Rattle.std.proofs.lemmas.Option.{same_Some, slice_get_within, slice_get-get_or}
use Rattle.text_values.specs.declared.instruction.Fence as kinds
use Rattle.predefined_names.specs.declared.predefined.Predefined.TheVariants as names
use Rattle.text_values.specs.TestValue.{Content}
use Rattle.bit_rows.specs.Pairs as pairs
use Rattle.store_orders.specs.declared.combination.Event as numbered_event
use Rattle.base_names.specs.Events as of
use Rattle.base_names.specs.Events.{At, Both, Below}
use Rattle.meaning.specs.Sets.{Set, Relation, Intersection, Identity}
use Rattle.meaning.specs.Executions.{Event, Initial, Does, Execution, IsEvent, ProgramOrder}
use Rattle.meaning.specs.Predefined.{IsFence, HaveOneThread, EventsOf, SameLocation, Internal, External, Fenced}
use Rattle.meaning_executions.specs.Events.{IsNumbered, named_events, IsSameEvent, AreSameEvents}
use Rattle.meaning_executions.proofs.Lists.{as_long, at_left}
use Rattle.meaning_executions.proofs.Reading.{event_at}
use Rattle.meaning_executions.specs.Names.{IsSameSet, IsSameRelation}
use Rattle.meaning_executions.proofs.EventSets.{event_of_access, event_of_set, fence_same, set_same, location_same, thread_same}
use Rattle.meaning_executions.proofs.Rising.{order_same}

module _ (t : Content) (y : Execution) (ns : List numbered_event.Event)
    (are : AreSameEvents t y ns (named_events t y.runs)) where
  abbrev pub es : List Event
  es = named_events t y.runs

  many : length ns ≡ length es
  many = as_long (IsSameEvent t y) ns es are.alike

  pub numbered_below : (n : ℕ) → n < length ns → (e : Event) × IsNumbered es n e
  numbered_below n lt =
      let within : n < length es = subst (λ (k : ℕ). n < k) many lt in
      (get_or es n (Initial []), slice_get-get_or es n (Initial []) within)

  pub below_numbered : (n : ℕ) (e : Event) → IsNumbered es n e → n < length ns
  below_numbered n e at =
      subst (λ (k : ℕ). n < k) (sym many) (slice_get_within es n e at)

  pub is_event : (n : ℕ) (e : Event) → IsNumbered es n e → IsEvent t y e
  is_event n e at = let found : _ = event_at t y ns es are n e at in (found.2.action, found.2.does)

  -- ---- at numbers

  pub at_same : (S : numbered_event.Event → Type 0) (T : Set Event)
      → ((d : numbered_event.Event) (e : Event) → IsSameEvent t y d e → S d ↔ T e)
      → (n : ℕ) (e : Event) → IsNumbered es n e → At ns S n ↔ T e
  at_same S T to n e at =
      let found : _ = event_at t y ns es are n e at in (
        λ h. let is : h.0 ≡ found.0 = same_Some _ _ (sym h.1 ∙ found.1) in
            (to found.0 e found.2).0 (subst S is h.2),
        λ q. (found.0, found.1, (to found.0 e found.2).1 q),
      )

  pub both_same : (R : numbered_event.Event → numbered_event.Event → Type 0) (Q : Relation Event)
      → ((d f : numbered_event.Event) (a b : Event) → IsSameEvent t y d a → IsSameEvent t y f b
      → R d f ↔ Q a b)
      → (m n : ℕ) (a b : Event) → IsNumbered es m a → IsNumbered es n b → Both ns R m n ↔ Q a b
  both_same R Q to m n a b at there =
      let one : _ = event_at t y ns es are m a at in
      let other : _ = event_at t y ns es are n b there in (
        λ h. let is : h.0 ≡ one.0 = same_Some _ _ (sym h.2 ∙ one.1) in
            let same : h.1 ≡ other.0 = same_Some _ _ (sym h.3 ∙ other.1) in
            (to one.0 other.0 a b one.2 other.2).0
            (subst (λ (d : numbered_event.Event). R d other.0) is
            (subst (λ (f : numbered_event.Event). R h.0 f) same h.4)),
        λ q. (
          one.0,
          other.0,
          one.1,
          other.1,
          (to one.0 other.0 a b one.2 other.2).1 q,
        ),
      )

  pub below_same : (R : ℕ → ℕ → Type 0) (Q : Relation Event)
      → ((a b : Event) → Q a b → IsEvent t y a × IsEvent t y b)
      → ((m n : ℕ) (a b : Event) → IsNumbered es m a → IsNumbered es n b → R m n ↔ Q a b)
      → IsSameRelation es (Below (length ns) R) Q
  below_same R Q both to = record {
    by_name = λ m n h.
        let one : _ = numbered_below m h.0 in
        let other : _ = numbered_below n h.1 in
        (one.0, other.0, one.1, other.1, (to m n one.0 other.0 one.1 other.1).0 h.2);
    by_number = λ a b q.
        let ends : _ = both a b q in
        let one : _ = are.complete a ends.0 in
        let other : _ = are.complete b ends.1 in (
          one.0,
          other.0,
          one.1,
          other.1,
          (
            below_numbered one.0 a one.1,
            below_numbered other.0 b other.1,
            (to one.0 other.0 a b one.1 other.1).1 q,
          ),
        );
  }

  -- ---- program order

  threads_at : (m n : ℕ) (a b : Event) → IsNumbered es m a → IsNumbered es n b
      → Both ns of.IsSameThread m n ↔ HaveOneThread a b
  threads_at = both_same of.IsSameThread HaveOneThread (thread_same t y)

  order_at : (m n : ℕ) (a b : Event) → IsNumbered es m a → IsNumbered es n b
      → of.ProgramOrder ns m n ↔ ProgramOrder t y a b
  order_at m n (Does u i) (Does v j) at there =
      let one : _ = threads_at m n (Does u i) (Does v j) at there in (
        λ h. let is : u ≡ v = one.0 h.1 in (
          is_event m (Does u i) at,
          is_event n (Does v j) there,
          is,
          (order_same t y.runs m n u i j at
              (subst (λ (w : ℕ). IsNumbered es n (Does w j)) (sym is) there)).0 h.0,
        ),
        λ h. (
          (order_same t y.runs m n u i j at
              (subst (λ (w : ℕ). IsNumbered es n (Does w j)) (sym h.2) there)).1 h.3,
          one.1 h.2,
        ),
      )
  order_at m n (Initial l) b at there =
      (λ h. absurd ((threads_at m n (Initial l) b at there).0 h.1), λ h. absurd h)
  order_at m n (Does u i) (Initial l) at there =
      (λ h. absurd ((threads_at m n (Does u i) (Initial l) at there).0 h.1), λ h. absurd h)

  order_ends : (a b : Event) → ProgramOrder t y a b → IsEvent t y a × IsEvent t y b
  order_ends (Does u i) (Does v j) h = (h.0, h.1)
  order_ends (Initial l) b h = absurd h
  order_ends (Does u i) (Initial l) h = absurd h

  pub orders : IsSameRelation es (Below (length ns) (of.ProgramOrder ns)) (ProgramOrder t y)
  orders = below_same (of.ProgramOrder ns) (ProgramOrder t y) order_ends order_at

  -- ---- locations and threads

  location_at : (m n : ℕ) (a b : Event) → IsNumbered es m a → IsNumbered es n b
      → of.SameLocation ns m n ↔ SameLocation t y a b
  location_at = both_same of.IsSameLocation (SameLocation t y) (location_same t y)

  location_ends : (a b : Event) → SameLocation t y a b → IsEvent t y a × IsEvent t y b
  location_ends a b h = (event_of_access t y h.0 a h.1, event_of_access t y h.0 b h.2)

  pub same_locations : IsSameRelation es (Below (length ns) (of.SameLocation ns)) (SameLocation t y)
  same_locations =
      below_same (of.SameLocation ns) (SameLocation t y) location_ends location_at

  pub orders_of_locations : IsSameRelation es
      (Below (length ns) (pairs.Inter (of.ProgramOrder ns) (of.SameLocation ns)))
      (Intersection (ProgramOrder t y) (SameLocation t y))
  orders_of_locations =
      below_same (pairs.Inter (of.ProgramOrder ns) (of.SameLocation ns))
      (Intersection (ProgramOrder t y) (SameLocation t y)) (λ a b h. location_ends a b h.1)
      (λ m n a b at there. (
        λ h. ((order_at m n a b at there).0 h.0, (location_at m n a b at there).0 h.1),
        λ h. ((order_at m n a b at there).1 h.0, (location_at m n a b at there).1 h.1),
      ))

  internal_at : (m n : ℕ) (a b : Event) → IsNumbered es m a → IsNumbered es n b
      → of.Internal ns m n ↔ Internal t y a b
  internal_at m n a b at there = (
    λ h. (is_event m a at, is_event n b there, (threads_at m n a b at there).0 h),
    λ h. (threads_at m n a b at there).1 h.2,
  )

  pub internals : IsSameRelation es (Below (length ns) (of.Internal ns)) (Internal t y)
  internals = below_same (of.Internal ns) (Internal t y) (λ a b h. (h.0, h.1)) internal_at

  pub externals : IsSameRelation es
      (Below (length ns) (pairs.Complement (length ns) (of.Internal ns))) (External t y)
  externals =
      below_same (pairs.Complement (length ns) (of.Internal ns)) (External t y)
      (λ a b h. (h.0, h.1))
      (λ m n a b at there. (
        λ h. (
          is_event m a at,
          is_event n b there,
          λ q. h.2 ((internal_at m n a b at there).1 q),
        ),
        λ h. (
          below_numbered m a at,
          below_numbered n b there,
          λ q. h.2 ((internal_at m n a b at there).0 q),
        ),
      ))

  pub identities : IsSameRelation es (Below (length ns) (pairs.Identity (length ns)))
      (Identity (IsEvent t y))
  identities =
      below_same (pairs.Identity (length ns)) (Identity (IsEvent t y))
      (λ a b h. (h.0, subst (λ (e : Event). IsEvent t y e) h.1 h.0))
      (λ m n a b at there. (
        λ h. (
          is_event m a at,
          same_Some _ _ (sym at ∙ (ap (λ (k : ℕ). slice_get es k) h.1 ∙ there)),
        ),
        λ h. (
          below_numbered m a at,
          are.once m n b (at ∙ ap (λ (e : Event). Some e) h.1) there,
        ),
      ))

  -- ---- fences

  accesses_at : (n : ℕ) (e : Event) → IsNumbered es n e
      → At ns of.IsAccess n ↔ EventsOf t y names.Accesses e
  accesses_at =
      at_same of.IsAccess (EventsOf t y names.Accesses)
      (λ d e same. set_same t y d e same names.Accesses)

  fence_at : (f : kinds.Fence) (n : ℕ) (e : Event) → IsNumbered es n e
      → At ns (of.IsFence f) n ↔ IsFence t y f e
  fence_at f =
      at_same (of.IsFence f) (IsFence t y f) (λ d e same. fence_same t y d e same f)

  fenced_at : (f : kinds.Fence) (m n : ℕ) (a b : Event) → IsNumbered es m a → IsNumbered es n b
      → of.Fenced ns f m n ↔ Fenced t y f a b
  fenced_at f m n a b at there = (
    λ h.
        let between : _ = h.2 in
        let k : ℕ = between.0 in
        let named : _ = at_left (IsSameEvent t y) ns es are.alike k between.2.0 between.2.1 in (
          (accesses_at m a at).0 h.0,
          (accesses_at n b there).0 h.1,
          (
            named.0,
            (order_at m k a named.0 at named.1).0 between.1,
            (fence_at f k named.0 named.1).0 between.2,
            (order_at k n named.0 b named.1 there).0 between.3,
          ),
        ),
    λ h.
        let between : _ = h.2 in
        let c : Event = between.0 in
        let numbered : _ = are.complete c (order_ends a c between.1).1 in (
          (accesses_at m a at).1 h.0,
          (accesses_at n b there).1 h.1,
          (
            numbered.0,
            (order_at m numbered.0 a c at numbered.1).1 between.1,
            (fence_at f numbered.0 c numbered.1).1 between.2,
            (order_at numbered.0 n c b numbered.1 there).1 between.3,
          ),
        ),
  )

  pub fences : (f : kinds.Fence)
      → IsSameRelation es (Below (length ns) (of.Fenced ns f)) (Fenced t y f)
  fences f =
      below_same (of.Fenced ns f) (Fenced t y f)
      (λ a b h. (
        event_of_set t y names.Accesses a h.0,
        event_of_set t y names.Accesses b h.1,
      )) (fenced_at f)
