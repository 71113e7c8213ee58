-- A walk over the events behind one event, and the fences that it meets.
use Rattle.std.proofs.Common.{ℕ, ◌≡◌, ◌<◌, ◌+◌, ◌↔◌, ◌⊎◌, inl, inr, arith, refl, sym, ap, ◌∙◌, Bool, IsTrue, List, length, get_or, slice_get, Option, Some, None, is_some, true, false}
use Rattle.std.proofs.lemmas.Option.{get_or_from_slice_get}
use Rattle.std.proofs.lemmas.Bool.{cases_eq, false≢true}
use Rattle.text_values.specs.declared.instruction.Fence.{Fence}
use Rattle.store_orders.specs.declared.combination.Event.{Event}
use Rattle.base_names.specs.Events.{location_of, IsAccess, IsFence, IsSameThread, At, Both, ProgramOrder, Fenced, FenceBelow}
use Rattle.base_names.proofs.Linked.{at_number}

-- one number is of one event
pub one_event : (events : List Event) (a : ℕ) (e f : Event) → slice_get events a ≡ Some e
    → slice_get events a ≡ Some f → e ≡ f
one_event events a e f p q =
    sym (get_or_from_slice_get events a e e p) ∙ get_or_from_slice_get events a f e q

pub some_event : {X : Type 0} {x y : X} → Some x ≡ Some y → x ≡ y
some_event {X} {x} {y} e = ap (λ o. unwrap o) e
  where
    unwrap : Option X → X
    unwrap (Some z) = z
    unwrap None = x

-- two events that are of the thread of a third
pub third : (events : List Event) (a b c : ℕ) → Both events IsSameThread a b
    → Both events IsSameThread a c → Both events IsSameThread b c
third events a b c h k =
    let e : h.0 ≡ k.0 = one_event events a h.0 k.0 h.2 k.2 in
    let t : h.4.0 ≡ k.4.0 = some_event (sym h.4.1 ∙ rw e k.4.1) in
    (h.1, k.1, h.3, k.3, (h.4.0, h.4.2, rw t k.4.2))

-- a walk that has met a fence, or meets one now
pub fence_more : (events : List Event) (kind : Fence) (from to : ℕ) (flag follows flag' : Bool)
    → (IsTrue flag ↔ FenceBelow events kind from to)
    → (IsTrue follows ↔ ProgramOrder events from to)
    → (IsTrue flag' ↔ (IsTrue flag ⊎ (IsTrue follows × At events (IsFence kind) to)))
    → IsTrue flag' ↔ FenceBelow events kind from (to + 1)
fence_more events kind from to flag follows flag' before order now = (
  (λ t. elim (now.0 t) [
    | inl f ↦ let b = before.0 f in (b.0, omega (arith, b.1), b.2, b.3)
    | inr h ↦ (to, omega arith, order.0 h.0, h.1)
  ]),
  (λ h. elim (cases_eq h.0 to) [
    | inl same ↦ now.1 (inr (order.1 (rw (← same) h.2), rw (← same) h.3))
    | inr other ↦ now.1 (inl (before.1 (h.0, below other h.1, h.2, h.3)))
  ]),
)
  where
    below : {a i : ℕ} → (a ≡ i → ⊥) → a < i + 1 → a < i
    below ne lt = omega arith

-- a fenced pair ends where the walk has met a fence
pub fenced_end : (events : List Event) (kind : Fence) (from to : ℕ) (flag follows : Bool)
    → (IsTrue flag ↔ FenceBelow events kind from to)
    → (IsTrue follows ↔ ProgramOrder events from to) → At events IsAccess from
    → (IsTrue flag × IsTrue follows × At events IsAccess to) ↔ Fenced events kind from to
fenced_end events kind from to flag follows before order access = (
  (λ h.
      let b = before.0 h.0 in
      let o = order.0 h.1 in
      (access, h.2, (b.0, b.2, b.3, (b.1, third events from b.0 to b.2.1 o.1)))),
  (λ h.
      let c = h.2 in
      let lt : c.0 < to = c.3.0 in
      let f : FenceBelow events kind from to = (c.0, lt, c.1, c.2) in
      let o : ProgramOrder events from to = (omega (arith, lt, c.1.0), joined from c.0 to c.1.1 c.3.1) in
      (before.1 f, order.1 o, h.1)),
)
  where
    joined : (a b c : ℕ) → Both events IsSameThread a b → Both events IsSameThread b c
        → Both events IsSameThread a c
    joined a b c h k =
        let e : h.1 ≡ k.0 = one_event events b h.1 k.0 h.3 k.2 in
        let t : h.4.0 ≡ k.4.0 = some_event (sym h.4.2 ∙ rw e k.4.1) in
        (h.0, k.1, h.2, k.3, (h.4.0, h.4.1, rw t k.4.2))

-- an event with no location is no access
pub no_access : (events : List Event) (a : ℕ) (d : Event) → a < length events → {o : Option ℕ}
    → o ≡ location_of (get_or events a d).action → is_some o ≡ false → At events IsAccess a → ⊥
no_access events a d inside same none h =
    let found = (at_number events IsAccess a d inside).0 h in
    false≢true (sym none ∙ rw (same, found.1) refl)

-- an event with one is
pub is_access : (events : List Event) (a : ℕ) (d : Event) → a < length events → {o : Option ℕ}
    → o ≡ location_of (get_or events a d).action → is_some o ≡ true → At events IsAccess a
is_access events a d inside {o} same some =
    (at_number events IsAccess a d inside).1 (go o same some)
  where
    go : (o : Option ℕ) → o ≡ location_of (get_or events a d).action → is_some o ≡ true
        → IsAccess (get_or events a d)
    go (Some l) e s = (l, sym e)
    go None e s = absurd (false≢true s)
