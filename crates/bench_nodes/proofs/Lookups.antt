-- What is looked up is what a search would find.
use Rattle.std.proofs.Common.{◌≡◌, inl, inr, ℕ, zero, suc, ◌+◌, ◌<◌, ◌≤◌, Bool, true, false, not, ◌==◌, ◌&&◌, ◌||◌, cond, if◌then◌else◌, List, [], ◌∷◌, length, map, Option, Some, None, option_map, slice_get, get_or, refl, ap, sym, ◌∙◌, subst, eq-eqb, eqb-true, arith}
use Rattle.std.specs.List.{position_or_len}
use Rattle.std.proofs.lemmas.Bool.{cases_Bool, ltb-true, ne_eqb, not-true}
use Rattle.std.proofs.lemmas.List.Sums.{position_or_len_is}
use Rattle.std.proofs.lemmas.Option.{slice_get_within, get_or_from_slice_get, same_Some}
use Rattle.memo_core.specs.declared.keys.Kind.{Kind}
use Rattle.memo_core.specs.declared.keys.Node.{Node}
use Rattle.memo_core.specs.Names.{kind_number}
use Rattle.memo_core.proofs.Tests.{and_true, same_node_exact}
use Rattle.bench_nodes.specs.declared.places.SlotName.{SlotName}
use Rattle.bench_nodes.specs.declared.table.Slot.{Slot}
use Rattle.bench_nodes.specs.declared.table.TestRow.{TestRow}
use Rattle.bench_nodes.specs.Nodes.{node_of, slot_keys, test_stamp, stamp_in, row_of, has_test_row, users_at}
use Rattle.bench_nodes.specs.Slots.{is_slot, has_slot, uses}
use Rattle.bench_nodes.specs.Places.{is_after, rise_after, are_rising, are_apart, node_named, user_names, user_lists}

-- ---- tests

above : (n : ℕ) (ts : List TestRow) (i : ℕ) (t : TestRow) → rise_after (Some n) ts ≡ true
    → slice_get ts i ≡ Some t → n < t.id
above n [] i t h at = cc
above n (u ∷ ts) zero t h at =
    let p = and_true (is_after (Some n) u.id) (rise_after (Some u.id) ts) h in
    subst (λ (x : TestRow). n < x.id) (same_Some u t at) (ltb-true n u.id p.0)
above n (u ∷ ts) (suc i) t h at =
    let p = and_true (is_after (Some n) u.id) (rise_after (Some u.id) ts) h in
    let here = ltb-true n u.id p.0 in
    let there = above u.id ts i t p.1 at in omega (arith, here, there)

below : (last : Option ℕ) (ts : List TestRow) (k at : ℕ) (d t : TestRow) → rise_after last ts ≡ true
    → k < at → slice_get ts at ≡ Some t → (get_or ts k d).id < t.id
below last [] k at d t h lt e = cc
below last (u ∷ ts) k zero d t h lt e = absurd (omega (arith, lt))
below last (u ∷ ts) zero (suc at) d t h lt e =
    above u.id ts at t (and_true (is_after last u.id) (rise_after (Some u.id) ts) h).1 e
below last (u ∷ ts) (suc k) (suc at) d t h lt e =
    below (Some u.id) ts k at d t (and_true (is_after last u.id) (rise_after (Some u.id) ts) h).1
    (omega (arith, lt)) e

-- where the numbers rise, a test of that number is the first
pub placed_at : (ts : List TestRow) (id at : ℕ) (t : TestRow) → are_rising ts ≡ true
    → slice_get ts at ≡ Some t → t.id ≡ id → at ≡ position_or_len (λ x. x.id == id) ts
placed_at ts id at t h e is =
    let within = slice_get_within ts at t e in
    sym (position_or_len_is (λ x. x.id == id) ts at t (omega (arith, within))
    (λ k lt.
    let less = below None ts k at t t h lt e in
    ne_eqb (get_or ts k t).id id (λ same. omega (arith, less, same, is)))
    (λ lt. eq-eqb (get_or ts at t).id id (ap (λ (x : TestRow). x.id)
    (get_or_from_slice_get ts at t t e) ∙ is)))

-- the test of a number stands at its index
pub row_at : (ts : List TestRow) (id : ℕ)
    → slice_get ts (position_or_len (λ x. x.id == id) ts) ≡ row_of ts id
row_at [] id = refl
row_at (t ∷ ts) id = by_test (t.id == id) (row_at ts id)
  where
    next : (i : ℕ) → 1 + i ≡ suc i
    next i = omega arith

    by_test : (b : Bool) → slice_get ts (position_or_len (λ x. x.id == id) ts) ≡ row_of ts id
        → slice_get (t ∷ ts) (cond (not b) (1 + position_or_len (λ x. x.id == id) ts) 0)
        ≡ (if b then Some t else row_of ts id)
    by_test true later = refl
    by_test false later =
        ap (λ (i : ℕ). slice_get (t ∷ ts) i) (next (position_or_len (λ x. x.id == id) ts)) ∙ later

pub place_within : (ts : List TestRow) (id : ℕ) → position_or_len (λ x. x.id == id) ts ≤ length ts
place_within [] id = omega arith
place_within (t ∷ ts) id = by_test (t.id == id) (place_within ts id)
  where
    by_test : (b : Bool) → position_or_len (λ x. x.id == id) ts ≤ length ts
        → cond (not b) (1 + position_or_len (λ x. x.id == id) ts) 0 ≤ suc (length ts)
    by_test true later = omega arith
    by_test false later = omega (arith, later)

pub row_stamp : (ts : List TestRow) (part id : ℕ) (t : TestRow) → Some t ≡ row_of ts id
    → stamp_in t part ≡ test_stamp ts part id
row_stamp [] part id t h = cc
row_stamp (u ∷ ts) part id t h = elim (cases_Bool (u.id == id)) [
  | inl e ↦ rw e (ap (λ (x : TestRow). stamp_in x part) (same_Some t u (rw e at h)))
  | inr f ↦ rw f (row_stamp ts part id t (rw f at h))
]

pub no_stamp : (ts : List TestRow) (part id : ℕ) → None ≡ row_of ts id → 0 ≡ test_stamp ts part id
no_stamp [] part id h = refl
no_stamp (u ∷ ts) part id h = elim (cases_Bool (u.id == id)) [
  | inl e ↦ absurd (let g : None ≡ Some u = rw e at h in cc)
  | inr f ↦ rw f (no_stamp ts part id (rw f at h))
]

pub turned : (a b : ℕ) (c : Bool) → a == b ≡ c → b == a ≡ c
turned a b true e = eq-eqb b a (sym (eqb-true a b e))
turned a b false e = ne_eqb b a (λ same. let t = eq-eqb a b (sym same) in cc)

pub has_row : (ts : List TestRow) (id : ℕ) (t : TestRow) → Some t ≡ row_of ts id
    → true ≡ has_test_row ts id
has_row [] id t h = cc
has_row (u ∷ ts) id t h = elim (cases_Bool (u.id == id)) [
  | inl e ↦ rw (turned u.id id true e) refl
  | inr f ↦ rw (turned u.id id false f) (has_row ts id t (rw f at h))
]

pub has_no_row : (ts : List TestRow) (id : ℕ) → None ≡ row_of ts id → false ≡ has_test_row ts id
has_no_row [] id h = refl
has_no_row (u ∷ ts) id h = elim (cases_Bool (u.id == id)) [
  | inl e ↦ absurd (let g : None ≡ Some u = rw e at h in cc)
  | inr f ↦ rw (turned u.id id false f) (has_no_row ts id (rw f at h))
]

-- ---- slots

pub or_true : (a : Bool) → a || true ≡ true
or_true true = refl
or_true false = refl

pub has_placed : (ss : List Slot) (kind : Kind) (of at : ℕ)
    → option_map (is_slot kind of) (slice_get ss at) ≡ Some true → true ≡ has_slot ss kind of
has_placed [] kind of at h = cc
has_placed (s ∷ ss) kind of zero h =
    let e : is_slot kind of s ≡ true = same_Some (is_slot kind of s) true h in rw e refl
has_placed (s ∷ ss) kind of (suc at) h =
    let later = has_placed ss kind of at h in rw (sym later) (sym (or_true (is_slot kind of s)))

pub all_of : (a b c : Bool) → a && c ≡ true → b ≡ true → a && b && c ≡ true
all_of true b c h i = rw i h
all_of false b c h i = h

-- a slot of that kind and number has them
pub slot_is : (kind : Kind) (of : ℕ) (s : Slot) → is_slot kind of s ≡ true
    → (kind ≡ s.kind) × (of ≡ s.of)
slot_is kind of s h =
    let a : Node = record { kind = kind; test = 0; of = of } in
    let b : Node = record { kind = s.kind; test = 0; of = s.of } in
    let e : a ≡ b = same_node_exact a b (all_of (kind_number kind == kind_number s.kind) (0 == 0) (of == s.of) h refl) in
    (ap (λ (n : Node). n.kind) e, ap (λ (n : Node). n.of) e)

-- where no two slots are of one kind and number, a slot of these is the first
pub keys_placed : (ss : List Slot) (kind : Kind) (of at : ℕ) (s : Slot) → are_apart ss ≡ true
    → option_map (is_slot kind of) (slice_get ss at) ≡ Some true → Some s ≡ slice_get ss at
    → s.inputs.items ≡ slot_keys ss kind of
keys_placed [] kind of at s apart h e = cc
keys_placed (u ∷ ss) kind of zero s apart h e =
    let is : is_slot kind of u ≡ true = same_Some (is_slot kind of u) true h in
    rw is (ap (λ (x : Slot). x.inputs.items) (same_Some s u e))
keys_placed (u ∷ ss) kind of (suc at) s apart h e =
    let p = and_true (not (has_slot ss u.kind u.of)) (are_apart ss) apart in
    elim (cases_Bool (is_slot kind of u)) [
      | inl is ↦ absurd (
          let same = slot_is kind of u is in
          let there : has_slot ss kind of ≡ true = sym (has_placed ss kind of at h) in
          let none : has_slot ss kind of ≡ false = rw (same.0, same.1) (not-true (has_slot ss u.kind u.of) p.0) in
          cc
          )
      | inr other ↦ rw other (keys_placed ss kind of at s p.1 h e)
    ]

-- ---- users

pub users_named : (ss : List Slot) (kind : Kind) (of test : ℕ)
    → users_at ss kind of test ≡ map (node_named test) (user_names ss kind of)
users_named [] kind of test = refl
users_named (s ∷ ss) kind of test = elim (cases_Bool (uses kind of s.inputs.items)) [
  | inl e ↦ rw e (ap (λ (ns : List Node). node_of test s ∷ ns) (users_named ss kind of test))
  | inr f ↦ rw f (users_named ss kind of test)
]

names_at : (all ss : List Slot) (kind : Kind) (of at : ℕ) (names : List SlotName)
    → option_map (is_slot kind of) (slice_get ss at) ≡ Some true
    → slice_get (user_lists all ss) at ≡ Some names → user_names all kind of ≡ names
names_at all [] kind of at names h e = cc
names_at all (s ∷ ss) kind of zero names h e =
    let same = slot_is kind of s (same_Some (is_slot kind of s) true h) in
    rw (same.0, same.1) (same_Some (user_names all s.kind s.of) names e)
names_at all (s ∷ ss) kind of (suc at) names h e = names_at all ss kind of at names h e

pub users_placed : (ss : List Slot) (kind : Kind) (of test at : ℕ) (names : List SlotName)
    → option_map (is_slot kind of) (slice_get ss at) ≡ Some true
    → slice_get (user_lists ss ss) at ≡ Some names
    → users_at ss kind of test ≡ map (node_named test) names
users_placed ss kind of test at names h e =
    users_named ss kind of test ∙ ap (map (node_named test)) (names_at ss ss kind of at names h e)
