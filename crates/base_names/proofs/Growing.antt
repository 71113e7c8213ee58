-- Reads-from and coherence, load by load and store by store.
use Rattle.std.proofs.Common.{ℕ, ◌≡◌, ◌<◌, ◌+◌, ◌↔◌, ◌⊎◌, List, [], ◌∷◌, ◌++◌, length, take, get_or, inl, inr, arith, refl, ap, ◌∙◌}
use Rattle.std.proofs.lemmas.Bool.{cases_eq}
use Rattle.std.proofs.lemmas.List.{take_more}
use Rattle.bit_rows.specs.Relation.{Relation, Has, IsRelation}
use Rattle.bit_rows.specs.Pairs.{Union}
use Rattle.store_orders.specs.declared.combination.Event.{Event}
use Rattle.store_orders.specs.declared.combination.Action.{Action}
use Rattle.store_orders.specs.declared.combination.Action.TheVariants.{Load, Store, Fence}
use Rattle.base_names.specs.Events.{Below, IsLoad, loads_in, loads_with, ReadsFromBelow, ReadsFromAt, CoherenceFrom, CoherenceTo}
use Rattle.base_names.proofs.Linking.{with_pairs}
use Rattle.base_names.proofs.Linked.{at_number}

below : {a i : ℕ} → (a ≡ i → ⊥) → a < i + 1 → a < i
below ne lt = omega arith

-- what one step adds, where nothing stood before the loop
pub grown : {now new : Relation} {n : ℕ} (R S T : ℕ → ℕ → Type 0) → IsRelation now n R
    → IsRelation new now.count (Union (Has now) (Below now.count T))
    → ((a b : ℕ) → S a b ↔ (R a b ⊎ Below n T a b)) → IsRelation new n S
grown {now} {new} {n} R S T before step same = with_pairs (counted step) (λ a b. (
  (λ h. elim h [
    | inl x ↦ (same a b).1 (inl ((before.pairs a b).0 x))
    | inr t ↦ (same a b).1
        (inr t)
  ]),
  (λ s. elim ((same a b).0 s) [ inl r ↦ inl ((before.pairs a b).1 r) | inr t ↦ inr t ]),
))
  where
    counted : IsRelation new now.count (Union (Has now) (Below now.count T))
        → IsRelation new n (Union (Has now) (Below n T))
    counted = rw before.count (λ r. r)

-- ---- coherence

pub order_more : {now new : Relation} {n : ℕ} (events : List Event) (order : List ℕ) (i : ℕ)
    → IsRelation now n (Below n (CoherenceTo events order i))
    → IsRelation new now.count (Union (Has now) (Below now.count (CoherenceFrom events order i)))
    → IsRelation new n (Below n (CoherenceTo events order (i + 1)))
order_more {n = n} events order i before step =
    grown (Below n (CoherenceTo events order i)) (Below n (CoherenceTo events order (i + 1)))
    (CoherenceFrom events order i) before step (λ a b. (
      (λ h.
          let k = h.2 in
          elim (cases_eq k.0 i) [
            | inl same ↦ inr (h.0, h.1, rw same at k.2)
            | inr other ↦ inl (h.0, h.1, (k.0, below other k.1, k.2))
          ]),
      (λ h. elim h [
        | inl r ↦ (r.0, r.1, (r.2.0, omega (arith, r.2.1), r.2.2))
        | inr t ↦ (t.0, t.1, (i, omega arith, t.2))
      ]),
    ))

-- ---- reads-from

pub reads_more : (xs : List Event) (e : Event)
    → loads_in (xs ++ e ∷ []) ≡ loads_with e.action (loads_in xs)
reads_more [] e = refl
reads_more (x ∷ xs) e = rw (reads_more xs e) (both x.action e.action (loads_in xs))
  where
    both : (f g : Action) (n : ℕ) → loads_with f (loads_with g n) ≡ loads_with g (loads_with f n)
    both (Load l v) (Load m w) n = refl
    both (Load l v) (Store m w) n = refl
    both (Load l v) (Fence k) n = refl
    both (Store l v) (Load m w) n = refl
    both (Store l v) (Store m w) n = refl
    both (Store l v) (Fence k) n = refl
    both (Fence k) (Load m w) n = refl
    both (Fence k) (Store m w) n = refl
    both (Fence k) (Fence k') n = refl

-- one more load, and none
pub next_load : (events : List Event) (i : ℕ) (d : Event) → i < length events
    → IsLoad (get_or events i d) → loads_in (take (i + 1) events) ≡ loads_in (take i events) + 1
next_load events i d inside read =
    ap loads_in (take_more events i d inside) ∙ reads_more (take i events) (get_or events i d)
    ∙ rw read.2 refl

pub no_load : (events : List Event) (i : ℕ) (d : Event) → i < length events
    → (IsLoad (get_or events i d) → ⊥) → loads_in (take (i + 1) events) ≡ loads_in (take i events)
no_load events i d inside none =
    ap loads_in (take_more events i d inside) ∙ reads_more (take i events) (get_or events i d)
    ∙ same (get_or events i d).action none
  where
    same : (f : Action) → (((l : ℕ) × (v : _) × (f ≡ Load l v)) → ⊥) → {n : ℕ} → loads_with f n ≡ n
    same (Load l v) none = absurd (none (l, v, refl))
    same (Store l v) none = refl
    same (Fence k) none = refl

pub reads_step : {now new : Relation} {n : ℕ} (events : List Event) (reads_from : List ℕ) (i next : ℕ)
    (d : Event) → i < length events → IsLoad (get_or events i d)
    → next ≡ loads_in (take i events) → IsRelation now n (Below n (ReadsFromBelow events reads_from i))
    → IsRelation new now.count (Union (Has now) (Below now.count (ReadsFromAt reads_from next i)))
    → IsRelation new n (Below n (ReadsFromBelow events reads_from (i + 1)))
reads_step {n = n} events reads_from i next d inside read count before step =
    grown (Below n (ReadsFromBelow events reads_from i)) (Below n (ReadsFromBelow events reads_from (i + 1)))
    (ReadsFromAt reads_from next i) before step (λ a b. (
      (λ h.
          let k = h.2 in
          elim (cases_eq b i) [
            | inl here ↦ inr (h.0, h.1, (here, rw count (rw here at k.1.1)))
            | inr other ↦ inl (h.0, h.1, (below other k.0, k.1))
          ]),
      (λ h. elim h [
        | inl r ↦ (r.0, r.1, (omega (arith, r.2.0), r.2.1))
        | inr t ↦ (
          t.0,
          t.1,
          (
            omega (arith, t.2.0),
            (
              rw t.2.0 ((at_number events IsLoad i d inside).1 read),
              rw t.2.0 (rw count at t.2.1),
            ),
          ),
        )
      ]),
    ))

pub reads_skip : {now : Relation} {n : ℕ} (events : List Event) (reads_from : List ℕ) (i : ℕ)
    (d : Event) → i < length events → (IsLoad (get_or events i d) → ⊥)
    → IsRelation now n (Below n (ReadsFromBelow events reads_from i))
    → IsRelation now n (Below n (ReadsFromBelow events reads_from (i + 1)))
reads_skip events reads_from i d inside none before = with_pairs before (λ a b. (
  (λ r. (r.0, r.1, (omega (arith, r.2.0), r.2.1))),
  (λ h.
      let k = h.2 in
      elim (cases_eq b i) [
        | inl here ↦ absurd (none ((at_number events IsLoad i d inside).0 (rw here at k.1.0)))
        | inr other ↦ (h.0, h.1, (below other k.0, k.1))
      ]),
))
