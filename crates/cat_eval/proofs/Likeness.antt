-- Combinations that differ in values alone have the same predefined sets, and the same relations
-- that do not depend on what the loads read or on the order of the stores.
use Rattle.std.proofs.Common.{ℕ, ◌≡◌, ◌<◌, ◌∙◌, Bool, true, false, List, length, get_or, refl, sym, ap, subst}
use Rattle.std.specs.Prelude.{slice_get, Some}
use Rattle.std.proofs.lemmas.Bool.{false≢true}
use Rattle.std.proofs.lemmas.Option.{slice_get-get_or, get_or_from_slice_get}
use Rattle.predefined_names.specs.declared.predefined.Predefined.{Predefined}
use Rattle.predefined_names.specs.declared.predefined.Predefined.TheVariants as names
use Rattle.taints.specs.DependencyLists.{DependencyLists}
use Rattle.store_orders.specs.declared.combination.Action.{Action}
use Rattle.store_orders.specs.declared.combination.Action.TheVariants.{Load, Store, Fence}
use Rattle.store_orders.specs.declared.combination.Combination.{Combination}
use Rattle.store_orders.specs.declared.combination.Event.{Event}
use Rattle.base_names.specs.Events.{location_of, IsAccess, IsFence, IsSameThread, IsSameLocation, At, Both, ProgramOrder, Fenced, ListedPairs}
use Rattle.base_names.specs.Names.{IsIn, Fixed}
use Rattle.base_names.specs.Candidate.{IsEntered, SetIn, SharedIn}
use Rattle.base_names.specs.Known.{Known}
use Rattle.cat_eval.specs.Alike.{IsActionLike, IsLike, AreEventsLike, AreAlike}
use Rattle.cat_eval.proofs.Visits.{get_within}

abbrev is_read : Action → Bool
is_read (Load l v) = true
is_read (Store l v) = false
is_read (Fence f) = false

abbrev is_write : Action → Bool
is_write (Load l v) = false
is_write (Store l v) = true
is_write (Fence f) = false

abbrev is_fence : Action → Bool
is_fence (Load l v) = false
is_fence (Store l v) = false
is_fence (Fence f) = true

action_back : (a b : Action) → IsActionLike a b → IsActionLike b a
action_back (Load l v) (Load m w) h = sym h
action_back (Load l v) (Store m w) h = h
action_back (Load l v) (Fence g) h = h
action_back (Store l v) (Load m w) h = h
action_back (Store l v) (Store m w) h = sym h
action_back (Store l v) (Fence g) h = h
action_back (Fence f) (Load m w) h = h
action_back (Fence f) (Store m w) h = h
action_back (Fence f) (Fence g) h = sym h

like_back : (e f : Event) → IsLike e f → IsLike f e
like_back e f h = (sym h.0, action_back e.action f.action h.1)

same_location : (a b : Action) → IsActionLike a b → location_of a ≡ location_of b
same_location (Load l v) (Load m w) h = ap (λ (n : ℕ). Some n) h
same_location (Load l v) (Store m w) h = absurd h
same_location (Load l v) (Fence g) h = absurd h
same_location (Store l v) (Load m w) h = absurd h
same_location (Store l v) (Store m w) h = ap (λ (n : ℕ). Some n) h
same_location (Store l v) (Fence g) h = absurd h
same_location (Fence f) (Load m w) h = absurd h
same_location (Fence f) (Store m w) h = absurd h
same_location (Fence f) (Fence g) h = refl

read_like : (a b : Action) → IsActionLike a b → (l : ℕ) (v : _) → a ≡ Load l v
    → (m : ℕ) × (w : _) × (b ≡ Load m w)
read_like (Load l v) (Load m w) h k u e = (m, w, refl)
read_like (Load l v) (Store m w) h k u e = absurd h
read_like (Load l v) (Fence g) h k u e = absurd h
read_like (Store l v) b h k u e = absurd (false≢true (ap is_read e))
read_like (Fence f) b h k u e = absurd (false≢true (ap is_read e))

write_like : (a b : Action) → IsActionLike a b → (l : ℕ) (v : _) → a ≡ Store l v
    → (m : ℕ) × (w : _) × (b ≡ Store m w)
write_like (Store l v) (Store m w) h k u e = (m, w, refl)
write_like (Store l v) (Load m w) h k u e = absurd h
write_like (Store l v) (Fence g) h k u e = absurd h
write_like (Load l v) b h k u e = absurd (false≢true (ap is_write e))
write_like (Fence f) b h k u e = absurd (false≢true (ap is_write e))

fence_like : (a b : Action) → IsActionLike a b → (k : _) → a ≡ Fence k → b ≡ Fence k
fence_like (Fence f) (Fence g) h k e = ap (λ x. Fence x) (sym h) ∙ e
fence_like (Fence f) (Load m w) h k e = absurd h
fence_like (Fence f) (Store m w) h k e = absurd h
fence_like (Load l v) b h k e = absurd (false≢true (ap is_fence e))
fence_like (Store l v) b h k e = absurd (false≢true (ap is_fence e))

access_like : (e f : Event) → IsLike e f → IsAccess e → IsAccess f
access_like e f h (l, at) = (l, sym (same_location e.action f.action h.1) ∙ at)

fence_event : (k : _) (e f : Event) → IsLike e f → IsFence k e → IsFence k f
fence_event k e f h at = fence_like e.action f.action h.1 k at

in_like : (name : Predefined) (e f : Event) → IsLike e f → IsIn name e → IsIn name f
in_like names.Loads e f h (l, v, at) = read_like e.action f.action h.1 l v at
in_like names.Stores e f h (l, v, at) = write_like e.action f.action h.1 l v at
in_like names.Accesses e f h at = access_like e f h at
in_like names.Fences e f h (k, at) = (k, fence_event k e f h at)
in_like names.InitialStores e f h at = sym h.0 ∙ at
in_like names.SyncFences e f h at = fence_event _ e f h at
in_like names.LwsyncFences e f h at = fence_event _ e f h at
in_like names.EieioFences e f h at = fence_event _ e f h at
in_like names.IsyncFences e f h at = fence_event _ e f h at
in_like _ e f h at = absurd at

thread_like : (e g f k : Event) → IsLike e f → IsLike g k → IsSameThread e g → IsSameThread f k
thread_like e g f k h j (t, p, q) = (t, sym h.0 ∙ p, sym j.0 ∙ q)

location_like : (e g f k : Event) → IsLike e f → IsLike g k → IsSameLocation e g
    → IsSameLocation f k
location_like e g f k h j (l, p, q) = (
  l,
  sym (same_location e.action f.action h.1) ∙ p,
  sym (same_location g.action k.action j.1) ∙ q,
)

events_back : (es fs : List Event) → AreEventsLike es fs → AreEventsLike fs es
events_back es fs like = (sym like.0, (λ i lt d. like_back _ _ (like.1 i (rw like.0 lt) d)))

-- the event at an index has one like it there
event_at : (es fs : List Event) → AreEventsLike es fs → (a : ℕ) (e : Event)
    → slice_get es a ≡ Some e → (f : Event) × (slice_get fs a ≡ Some f) × IsLike e f
event_at es fs like a e at =
    let lt : a < length es = get_within es e a at in
    let inside : a < length fs = rw (← like.0) lt in (
      get_or fs a e,
      slice_get-get_or fs a e inside,
      subst (λ (x : Event). IsLike x (get_or fs a e)) (get_or_from_slice_get es a e e at)
          (like.1 a lt e),
    )

module _ (es fs : List Event) (like : AreEventsLike es fs) where
  at_like : (S : Event → Type 0) → ((e f : Event) → IsLike e f → S e → S f) → (a : ℕ) → At es S a
      → At fs S a
  at_like S moves a (e, at, h) =
      let t = event_at es fs like a e at in
      (t.0, t.1, moves e t.0 t.2 h)

  both_like : (R : Event → Event → Type 0)
      → ((e g f k : Event) → IsLike e f → IsLike g k → R e g → R f k) → (a b : ℕ) → Both es R a b
      → Both fs R a b
  both_like R moves a b (e, g, at_a, at_b, h) =
      let s = event_at es fs like a e at_a in
      let t = event_at es fs like b g at_b in
      (s.0, t.0, s.1, t.1, moves e g s.0 t.0 s.2 t.2 h)

  order_like : (a b : ℕ) → ProgramOrder es a b → ProgramOrder fs a b
  order_like a b (lt, h) = (lt, both_like IsSameThread thread_like a b h)

  fenced_like : (k : _) (a b : ℕ) → Fenced es k a b → Fenced fs k a b
  fenced_like k a b (first, last, (c, before, at, after)) = (
    at_like IsAccess access_like a first,
    at_like IsAccess access_like b last,
    (c, order_like a c before, at_like (IsFence k) (fence_event k) c at, order_like c b after),
  )

fixed_like : (name : Predefined) (n : ℕ) (c d : Combination) → AreAlike c d → (a b : ℕ)
    → Fixed name n c a b → Fixed name n d a b
fixed_like names.Identity n c d like a b h = h
fixed_like names.ProgramOrder n c d like a b h =
    order_like c.events.items d.events.items like.events a b h
fixed_like names.SameLocation n c d like a b h =
    both_like c.events.items d.events.items like.events IsSameLocation location_like a b h
fixed_like names.ProgramOrderSameLocation n c d like a b h = (
  order_like c.events.items d.events.items like.events a b h.0,
  both_like c.events.items d.events.items like.events IsSameLocation location_like a b h.1,
)
fixed_like names.Internal n c d like a b h =
    both_like c.events.items d.events.items like.events IsSameThread thread_like a b h
fixed_like names.External n c d like a b h = (
  h.0,
  h.1,
  (λ inside. h.2 (both_like d.events.items c.events.items
      (events_back c.events.items d.events.items like.events) IsSameThread
      thread_like a b inside)),
)
fixed_like names.AddressDependency n c d like a b h =
    subst (λ (x : DependencyLists). ListedPairs x.addr_pairs a b) like.dependencies h
fixed_like names.DataDependency n c d like a b h =
    subst (λ (x : DependencyLists). ListedPairs x.data_pairs a b) like.dependencies h
fixed_like names.ControlDependency n c d like a b h =
    subst (λ (x : DependencyLists). ListedPairs x.ctrl_pairs a b) like.dependencies h
fixed_like names.ControlIsyncDependency n c d like a b h =
    subst (λ (x : DependencyLists). ListedPairs x.ctrlisync_pairs a b) like.dependencies h
fixed_like names.SyncOrder n c d like a b h =
    fenced_like c.events.items d.events.items like.events _ a b h
fixed_like names.LwsyncOrder n c d like a b h =
    fenced_like c.events.items d.events.items like.events _ a b h
fixed_like names.EieioOrder n c d like a b h =
    fenced_like c.events.items d.events.items like.events _ a b h
fixed_like names.IsyncOrder n c d like a b h =
    fenced_like c.events.items d.events.items like.events _ a b h
fixed_like _ n c d like a b h = absurd h

pub alike_back : (c d : Combination) → AreAlike c d → AreAlike d c
alike_back c d like = record {
  events = events_back c.events.items d.events.items like.events;
  dependencies = sym like.dependencies;
}

set_like : (n : ℕ) (name : Predefined) (c d : Combination) → AreAlike c d → (a : ℕ)
    → SetIn c n name a → SetIn d n name a
set_like n name c d like a h =
    (h.0, at_like c.events.items d.events.items like.events (IsIn name) (in_like name) a h.1)

shared_like : (n : ℕ) (name : Predefined) (c d : Combination) → AreAlike c d → (a b : ℕ)
    → SharedIn c n name a b → SharedIn d n name a b
shared_like n name c d like a b h = (h.0, h.1, fixed_like name n c d like a b h.2)

-- what was made for one of them stands for the other
pub alike_entered : (base : Known) (c d : Combination) → AreAlike c d → IsEntered base c
    → IsEntered base d
alike_entered base c d like h = record {
  count = h.count ∙ like.events.0;
  sets = λ name held a. (
    (λ x. set_like base.count name c d like a ((h.sets name held a).0 x)),
    (λ x. (h.sets name held a).1 (set_like base.count name d c (alike_back c d like) a x)),
  );
  shared = λ name held a b. (
    (λ x. shared_like base.count name c d like a b ((h.shared name held a b).0 x)),
    (λ x. (h.shared name held a b).1 (shared_like base.count name d c (alike_back c d like) a b x)),
  );
}
