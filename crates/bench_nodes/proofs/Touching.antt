-- An edit touches no node but those of the slots that are named.
use Rattle.std.proofs.Common.{◌≡◌, ◌⊎◌, inl, inr, ℕ, ◌+◌, ◌-◌, ◌<◌, Bool, true, false, ◌==◌, ◌&&◌, List, [], ◌∷◌, ◌++◌, Option, Some, None, get_or, length, refl, ap, sym, ◌∙◌, subst, eq-eqb, eqb-true, arith}
use Rattle.std.specs.List.{AllByRecursion as Each}
use Rattle.std.proofs.lemmas.Bool.{cases_Bool, ltb-true, ne_eqb}
use Rattle.std.proofs.lemmas.Option.{same_Some}
use Rattle.memo_core.specs.declared.keys.Kind.{Kind}
use Rattle.memo_core.specs.declared.keys.Kind.TheVariants.{Space, Group, Check, Verdict}
use Rattle.memo_core.specs.declared.keys.Key.{Key}
use Rattle.memo_core.specs.declared.keys.Key.TheVariants.{Part}
use Rattle.memo_core.specs.declared.keys.Node.{Node}
use Rattle.memo_core.specs.Names.{kind_number}
use Rattle.memo_core.specs.Right.{IsSamePart}
use Rattle.memo_core.specs.Laws.{IsUsedAlike, TouchesOnly}
use Rattle.memo_core.specs.Lemmas.Equality.{and_true, same_node_exact}
use Rattle.memo_core.specs.Step.{Has}
use Rattle.bench_nodes.specs.declared.places.SlotName.{SlotName}
use Rattle.bench_nodes.specs.declared.table.ItemRow.{ItemRow}
use Rattle.bench_nodes.specs.declared.table.ModelRow.{ModelRow}
use Rattle.bench_nodes.specs.declared.table.NodeTable.{NodeTable}
use Rattle.bench_nodes.specs.declared.table.Slot.{Slot}
use Rattle.bench_nodes.specs.declared.table.SlotKey.{SlotKey}
use Rattle.bench_nodes.specs.declared.table.SlotKey.TheVariants as slots
use Rattle.bench_nodes.specs.declared.table.TestRow.{TestRow}
use Rattle.bench_nodes.specs.Nodes.{is_slot, has_slot, slot_keys, item_stamp, fault_stamp, test_stamp, stamp_in, part_stamp, key_at, keys_at, thread_parts, space_parts, row_of, row_parts, space_keys, node_inputs, used, has_test_row, net_of}
use Rattle.bench_nodes.specs.Places.{slot_name, node_named}
use Rattle.bench_nodes.specs.Touched.{same_slot_key, same_slot_keys, keeps_stamp, keep_stamps, is_slot_kept, changed_slots, gone_slots, touched_slots, SlotRows, rows_of, nodes_named, nodes_of_tests, keeps_part, keep_parts, same_stamps, same_space, keeps_inputs, is_node_kept, test_slots, all_names}
use Rattle.bench_nodes.proofs.Laws.{used_test, used_slot, used_by}
use Rattle.bench_nodes.proofs.Lookups.{all_of, slot_is, row_stamp, no_stamp, has_row, has_no_row}

-- ---- names of slots

abbrev pub named : Kind → ℕ → SlotName
named kind of = record { kind = kind; of = of }

-- a slot of that kind and number has that name
name_is : (kind : Kind) (of : ℕ) (s : Slot) → is_slot kind of s ≡ true → slot_name s ≡ named kind of
name_is kind of s h =
    let e = slot_is kind of s h in
    ap (λ (k : Kind). named k s.of) (sym e.0) ∙ ap (named kind) (sym e.1)

in_left : {X : Type 0} (xs ys : List X) (x : X) → Has xs x → Has (xs ++ ys) x
in_left [] ys x h = absurd h
in_left (z ∷ xs) ys x h = elim h [ inl e ↦ inl e | inr r ↦ inr (in_left xs ys x r) ]

in_right : {X : Type 0} (xs ys : List X) (x : X) → Has ys x → Has (xs ++ ys) x
in_right [] ys x h = h
in_right (z ∷ xs) ys x h = inr (in_right xs ys x h)

pub has_named : (test : ℕ) (ns : List SlotName) (x : SlotName) → Has ns x
    → Has (nodes_named test ns) (node_named test x)
has_named test [] x h = absurd h
has_named test (n ∷ ns) x h = elim h [
  | inl e ↦ inl (ap (node_named test) e)
  | inr l ↦ inr (has_named test ns x l)
]

has_of_tests : (ns : List SlotName) (ts : List TestRow) (id : ℕ) (x : SlotName) → Has ns x
    → has_test_row ts id ≡ true → Has (nodes_of_tests ns ts) (node_named id x)
has_of_tests ns [] id x h there = cc
has_of_tests ns (t ∷ ts) id x h there = elim (cases_Bool (id == t.id)) [
  | inl e ↦ in_left (nodes_named t.id ns) (nodes_of_tests ns ts) (node_named id x)
      (subst (λ (m : ℕ). Has (nodes_named m ns) (node_named id x)) (eqb-true id t.id e)
      (has_named id ns x h))
  | inr f ↦ in_right (nodes_named t.id ns) (nodes_of_tests ns ts) (node_named id x)
      (has_of_tests ns ts id x h (rw f at there))
]

pub has_all_names : (ss : List Slot) (kind : Kind) (of : ℕ) → has_slot ss kind of ≡ true
    → Has (all_names ss) (named kind of)
has_all_names [] kind of h = cc
has_all_names (s ∷ ss) kind of h = elim (cases_Bool (is_slot kind of s)) [
  | inl e ↦ inl (name_is kind of s e)
  | inr f ↦ inr (has_all_names ss kind of (rw f at h))
]

-- ---- inputs that are equal by the test are equal

key_exact : (a b : SlotKey) → same_slot_key a b ≡ true → a ≡ b
key_exact (slots.Test p) (slots.Test q) h = ap slots.Test (eqb-true p q h)
key_exact (slots.Item p) (slots.Item q) h = ap slots.Item (eqb-true p q h)
key_exact (slots.Fault p) (slots.Fault q) h = ap slots.Fault (eqb-true p q h)
key_exact (slots.Value k m x) (slots.Value l n y) h =
    let p = and_true ((kind_number k == kind_number l) && (m == n)) (x == y) h in
    let a : Node = record { kind = k; test = 0; of = m } in
    let b : Node = record { kind = l; test = 0; of = n } in
    let e : a ≡ b = same_node_exact a b (all_of (kind_number k == kind_number l) (0 == 0) (m == n) p.0 refl) in
    ap (λ (z : Node). slots.Value z.kind z.of x) e ∙ ap (slots.Value l n) (eqb-true x y p.1)
key_exact (slots.Test p) (slots.Item q) h = cc
key_exact (slots.Test p) (slots.Fault q) h = cc
key_exact (slots.Test p) (slots.Value l n y) h = cc
key_exact (slots.Item p) (slots.Test q) h = cc
key_exact (slots.Item p) (slots.Fault q) h = cc
key_exact (slots.Item p) (slots.Value l n y) h = cc
key_exact (slots.Fault p) (slots.Test q) h = cc
key_exact (slots.Fault p) (slots.Item q) h = cc
key_exact (slots.Fault p) (slots.Value l n y) h = cc
key_exact (slots.Value k m x) (slots.Test q) h = cc
key_exact (slots.Value k m x) (slots.Item q) h = cc
key_exact (slots.Value k m x) (slots.Fault q) h = cc

keys_exact : (ks ls : List SlotKey) → same_slot_keys ks ls ≡ true → ks ≡ ls
keys_exact [] [] h = refl
keys_exact (k ∷ ks) (l ∷ ls) h =
    let p = and_true (same_slot_key k l) (same_slot_keys ks ls) h in
    ap (λ (x : SlotKey). x ∷ ks) (key_exact k l p.0)
    ∙ ap (λ (xs : List SlotKey). l ∷ xs) (keys_exact ks ls p.1)
keys_exact [] (l ∷ ls) h = cc
keys_exact (k ∷ ks) [] h = cc

-- ---- what holds of each input

keys_each : (Q : Key → Type 0) (test : ℕ) (ks : List SlotKey)
    → ((k : SlotKey) → Has ks k → Q (key_at test k)) → Each Q (keys_at test ks)
keys_each Q test [] f = tt
keys_each Q test (k ∷ ks) f = (f k (inl refl), keys_each Q test ks (λ l h. f l (inr h)))

threads_each : (Q : Key → Type 0) (id part : ℕ) (ts : List ℕ) (more : List Key) → 5 < part
    → ((p : ℕ) → 3 < p → Q (Part p id)) → Each Q more → Each Q (thread_parts id part ts ++ more)
threads_each Q id part [] more low f m = m
threads_each Q id part (t ∷ ts) more low f m =
    (f part (omega (arith, low)), threads_each Q id (part + 1) ts more (omega (arith, low)) f m)

space_each : (Q : Key → Type 0) (r : TestRow) → ((p : ℕ) → 3 < p → Q (Part p r.id))
    → Each Q (space_parts r)
space_each Q r f = (
  f 5 (omega arith),
  threads_each Q r.id 6 r.threads.items (Part 4 r.id ∷ []) (omega arith) f (f 4 (omega arith), tt),
)

row_each : (Q : Key → Type 0) (ts : List TestRow) (id : ℕ) → ((p : ℕ) → 3 < p → Q (Part p id))
    → Each Q (space_keys ts id)
row_each Q [] id f = tt
row_each Q (t ∷ ts) id f = elim (cases_Bool (t.id == id)) [
  | inl e ↦ rw e (space_each Q t (subst (λ (m : ℕ). (p : ℕ) → 3 < p → Q (Part p m))
      (sym (eqb-true t.id id e)) f))
  | inr n ↦ rw n (row_each Q ts id f)
]

-- a part of a test has the stamp of that test
test_part : (t : NodeTable) (part of : ℕ) → 1 < part
    → part_stamp t part of ≡ test_stamp t.tests.items part of
test_part t part of low =
    let a : (part == 0) ≡ false = ne_eqb part 0 (λ e. omega (arith, e, low)) in
    let b : (part == 1) ≡ false = ne_eqb part 1 (λ e. omega (arith, e, low)) in
    rw (a, b) refl

-- ---- an edit of models

-- the slot was there with these inputs, and they keep their stamps
record IsSlotKept (old new : SlotRows) (kind : Kind) (of : ℕ) (keys : List SlotKey) : Type 0 where
  there : has_slot old.slots kind of ≡ true
  same : slot_keys old.slots kind of ≡ keys
  stamps : keep_stamps old new keys ≡ true

module _ (old new : SlotRows) where
  kept_by : (kind : Kind) (of : ℕ) (s : Slot) → is_slot kind of s ≡ true
      → is_slot_kept old new s ≡ true → IsSlotKept old new kind of s.inputs.items
  kept_by kind of s here h =
      let e = slot_is kind of s here in
      let p = and_true (has_slot old.slots s.kind s.of && same_slot_keys (slot_keys old.slots s.kind s.of) s.inputs.items) (keep_stamps old new s.inputs.items) h in
      let q = and_true (has_slot old.slots s.kind s.of) (same_slot_keys (slot_keys old.slots s.kind s.of) s.inputs.items) p.0 in
      record {
        there = rw (e.0, e.1) q.0;
        same = rw (e.0, e.1) (keys_exact (slot_keys old.slots s.kind s.of) s.inputs.items q.1);
        stamps = p.1;
      }

  more_changed : (s : Slot) (ss : List Slot) (x : SlotName) → Has (changed_slots old new ss) x
      → Has (changed_slots old new (s ∷ ss)) x
  more_changed s ss x h =
      elim (cases_Bool (is_slot_kept old new s)) [ inl k ↦ rw k h | inr f ↦ rw f (inr h) ]

  changed_or_kept : (ss : List Slot) (kind : Kind) (of : ℕ) → has_slot ss kind of ≡ true
      → Has (changed_slots old new ss) (named kind of)
      ⊎ IsSlotKept old new kind of (slot_keys ss kind of)
  changed_or_kept [] kind of h = cc
  changed_or_kept (s ∷ ss) kind of h = elim (cases_Bool (is_slot kind of s)) [
    | inl e ↦ elim (cases_Bool (is_slot_kept old new s)) [
      | inl k ↦ inr (rw e (kept_by kind of s e k))
      | inr f ↦ inl (rw f (inl (name_is kind of s e)))
    ]
    | inr n ↦ elim (changed_or_kept ss kind of (rw n at h)) [
      | inl has ↦ inl (more_changed s ss (named kind of) has)
      | inr k ↦ inr (rw n k)
    ]
  ]

  each_kept : (ks : List SlotKey) (k : SlotKey) → keep_stamps old new ks ≡ true → Has ks k
      → keeps_stamp old new k ≡ true
  each_kept [] k h has = absurd has
  each_kept (l ∷ ks) k h has =
      let p = and_true (keeps_stamp old new l) (keep_stamps old new ks) h in
      elim has [
        | inl e ↦ subst (λ (x : SlotKey). keeps_stamp old new x ≡ true) e p.0
        | inr l ↦ each_kept ks k p.1 l
      ]

more_gone : (new : List Slot) (s : Slot) (ss : List Slot) (x : SlotName) → Has (gone_slots new ss) x
    → Has (gone_slots new (s ∷ ss)) x
more_gone new s ss x h =
    elim (cases_Bool (has_slot new s.kind s.of)) [ inl k ↦ rw k h | inr f ↦ rw f (inr h) ]

gone_if : (new ss : List Slot) (kind : Kind) (of : ℕ) → has_slot new kind of ≡ false
    → has_slot ss kind of ≡ true → Has (gone_slots new ss) (named kind of)
gone_if new [] kind of none h = cc
gone_if new (s ∷ ss) kind of none h = elim (cases_Bool (is_slot kind of s)) [
  | inl e ↦ (let is = slot_is kind of s e in
      let f : has_slot new s.kind s.of ≡ false = rw (is.0, is.1) at none in
      rw f (inl (name_is kind of s e)))
  | inr n ↦ more_gone new s ss (named kind of) (gone_if new ss kind of none (rw n at h))
]

module _ {G : Type 0} (t u : NodeTable) (gives after : Node → G → Bool) (new : SlotRows)
    (tests : u.tests.items ≡ t.tests.items) (slots_are : u.slots.items ≡ new.slots)
    (items : (n : ℕ) → item_stamp t.items.items n ≡ item_stamp new.items n
    → item_stamp u.items.items n ≡ item_stamp t.items.items n)
    (models : (n : ℕ) → fault_stamp t.models.items n ≡ fault_stamp new.models n
    → fault_stamp u.models.items n ≡ fault_stamp t.models.items n) where
  abbrev Same : Key → Type 0
  Same k = IsSamePart (net_of t gives) (net_of u after) k

  tests_alike : (part of : ℕ) → 1 < part → part_stamp u part of ≡ part_stamp t part of
  tests_alike part of low =
      test_part u part of low ∙ ap (λ (ts : List TestRow). test_stamp ts part of) tests
      ∙ sym (test_part t part of low)

  key_alike : (test : ℕ) (k : SlotKey) → keeps_stamp (rows_of t) new k ≡ true
      → Same (key_at test k)
  key_alike test (slots.Test part) h = tests_alike part test (ltb-true 1 part h)
  key_alike test (slots.Item n) h =
      items n (eqb-true (item_stamp t.items.items n) (item_stamp new.items n) h)
  key_alike test (slots.Fault n) h =
      models n (eqb-true (fault_stamp t.models.items n) (fault_stamp new.models n) h)
  key_alike test (slots.Value kind of name) h = tt

  -- what a slot that is kept has in both tables
  record IsSlotAlike (kind : Kind) (test of : ℕ) : Type 0 where
    inputs : node_inputs u kind test of ≡ node_inputs t kind test of
    parts : Each Same (node_inputs t kind test of)

  module _ (kind : Kind) (test of : ℕ)
      (k : IsSlotKept (rows_of t) new kind of (slot_keys new.slots kind of)) where
    keys_are : keys_at test (slot_keys u.slots.items kind of)
        ≡ keys_at test (slot_keys t.slots.items kind of)
    keys_are =
        ap (λ (ss : List Slot). keys_at test (slot_keys ss kind of)) slots_are
        ∙ ap (keys_at test) (sym k.same)

    keys_same : Each Same (keys_at test (slot_keys t.slots.items kind of))
    keys_same = keys_each Same test (slot_keys t.slots.items kind of)
        (λ l has. key_alike test l (each_kept (rows_of t) new (slot_keys new.slots kind of) l
        k.stamps (subst (λ (ks : List SlotKey). Has ks l) k.same has)))

  inputs_alike : (kind : Kind) (test of : ℕ)
      → IsSlotKept (rows_of t) new kind of (slot_keys new.slots kind of) → IsSlotAlike kind test of
  inputs_alike Space test of k = record {
    inputs = ap (λ (ts : List TestRow). space_keys ts test) tests;
    parts =
        row_each Same t.tests.items test (λ p low. tests_alike p test (omega (arith, low)));
  }
  inputs_alike Group test of k =
      record { inputs = keys_are Group test of k; parts = keys_same Group test of k }
  inputs_alike Check test of k =
      record { inputs = keys_are Check test of k; parts = keys_same Check test of k }
  inputs_alike Verdict test of k =
      record { inputs = keys_are Verdict test of k; parts = keys_same Verdict test of k }

  abbrev names : List SlotName
  names = touched_slots (rows_of t) new

  module _ (n : Node) (there : has_test_row t.tests.items n.test ≡ true) where
    abbrev IsTouchedBy : Type 0
    IsTouchedBy =
        Has (nodes_of_tests names t.tests.items) n
        ⊎ IsUsedAlike (net_of t gives) (net_of u after) n

    if_named : Has names (named n.kind n.of) → IsTouchedBy
    if_named has =
        inl (has_of_tests names t.tests.items n.test (named n.kind n.of) has there)

    if_there : has_slot new.slots n.kind n.of ≡ true → IsTouchedBy
    if_there here = elim (changed_or_kept (rows_of t) new new.slots n.kind n.of here) [
      | inl has ↦ if_named (in_left (changed_slots (rows_of t) new new.slots)
          (gone_slots new.slots t.slots.items) (named n.kind n.of) has)
      | inr k ↦ (let a = inputs_alike n.kind n.test n.of k in inr (record {
        before = used_by t n there k.there;
        after = used_by u n (rw tests there) (rw slots_are here);
        inputs = a.inputs;
        parts = a.parts;
      }))
    ]

    if_gone : has_slot new.slots n.kind n.of ≡ false → has_slot t.slots.items n.kind n.of ≡ true
        → IsTouchedBy
    if_gone none was =
        if_named (in_right (changed_slots (rows_of t) new new.slots)
        (gone_slots new.slots t.slots.items) (named n.kind n.of)
        (gone_if new.slots t.slots.items n.kind n.of none was))

  pub models_touch : TouchesOnly (net_of t gives) (net_of u after) (nodes_of_tests names t.tests.items)
  models_touch n used_in = elim (cases_Bool (has_slot new.slots n.kind n.of)) [
    | inl here ↦ if_there n there here
    | inr none ↦ if_gone n there none (was none)
  ]
    where
      there : has_test_row t.tests.items n.test ≡ true
      there = elim used_in [
        | inl h ↦ used_test t n h
        | inr h ↦ rw tests at (used_test u n h)
      ]

      was : has_slot new.slots n.kind n.of ≡ false → has_slot t.slots.items n.kind n.of ≡ true
      was none = elim used_in [
        | inl h ↦ used_slot t n h
        | inr h ↦ (let e : true ≡ false = sym (rw slots_are at (used_slot u n h)) ∙ none in cc)
      ]

-- ---- an edit of a test

abbrev stamp_by : Option TestRow → ℕ → ℕ
stamp_by None part = 0
stamp_by (Some r) part = stamp_in r part

-- the rows alone say which tests are there and what stamps they have
stamp_is : (ts : List TestRow) (part id : ℕ) → test_stamp ts part id ≡ stamp_by (row_of ts id) part
stamp_is ts part id = go (row_of ts id) refl
  where
    go : (o : Option TestRow) → o ≡ row_of ts id → test_stamp ts part id ≡ stamp_by o part
    go None e = sym (no_stamp ts part id e)
    go (Some r) e = sym (row_stamp ts part id r e)

abbrev is_row : Option TestRow → Bool
is_row None = false
is_row (Some r) = true

row_is : (ts : List TestRow) (id : ℕ) → has_test_row ts id ≡ is_row (row_of ts id)
row_is ts id = go (row_of ts id) refl
  where
    go : (o : Option TestRow) → o ≡ row_of ts id → has_test_row ts id ≡ is_row o
    go None e = sym (has_no_row ts id e)
    go (Some r) e = sym (has_row ts id r e)

pub row_there : (ts : List TestRow) (id : ℕ) (r : TestRow) → row_of ts id ≡ Some r
    → has_test_row ts id ≡ true
row_there ts id r h = sym (has_row ts id r (sym h))

pub rows_same : (ts us : List TestRow) (id : ℕ) → row_of us id ≡ row_of ts id
    → has_test_row us id ≡ has_test_row ts id
rows_same ts us id h = row_is us id ∙ ap is_row h ∙ sym (row_is ts id)

more_named : (a : Option TestRow) (b : TestRow) (s : Slot) (ss : List Slot) (x : SlotName)
    → Has (test_slots a b ss) x → Has (test_slots a b (s ∷ ss)) x
more_named a b s ss x h = elim (cases_Bool (is_node_kept a b s.kind s.inputs.items))
    [ inl k ↦ rw k h | inr f ↦ rw f (inr h) ]

-- a slot of that kind and number is named, or the first of them is kept
pub named_or_kept : (a : Option TestRow) (b : TestRow) (ss : List Slot) (kind : Kind) (of : ℕ)
    → has_slot ss kind of ≡ true
    → Has (test_slots a b ss) (named kind of)
    ⊎ (is_node_kept a b kind (slot_keys ss kind of) ≡ true)
named_or_kept a b [] kind of h = cc
named_or_kept a b (s ∷ ss) kind of h = elim (cases_Bool (is_slot kind of s)) [
  | inl e ↦ elim (cases_Bool (is_node_kept a b s.kind s.inputs.items)) [
    | inl k ↦ inr (rw e (rw (slot_is kind of s e).0 k))
    | inr f ↦ inl (rw f (inl (name_is kind of s e)))
  ]
  | inr n ↦ elim (named_or_kept a b ss kind of (rw n at h)) [
    | inl has ↦ inl (more_named a b s ss (named kind of) has)
    | inr k ↦ inr (rw n k)
  ]
]

each_part_kept : (a b : TestRow) (ks : List SlotKey) (k : SlotKey) → keep_parts a b ks ≡ true
    → Has ks k → keeps_part a b k ≡ true
each_part_kept a b [] k h has = absurd has
each_part_kept a b (l ∷ ks) k h has =
    let p = and_true (keeps_part a b l) (keep_parts a b ks) h in elim has [
      | inl e ↦ subst (λ (x : SlotKey). keeps_part a b x ≡ true) e p.0
      | inr l ↦ each_part_kept a b ks k p.1 l
    ]

stamps_exact : (xs ys : List ℕ) → same_stamps xs ys ≡ true → xs ≡ ys
stamps_exact [] [] h = refl
stamps_exact (x ∷ xs) (y ∷ ys) h =
    let p = and_true (x == y) (same_stamps xs ys) h in
    ap (λ (z : ℕ). z ∷ xs) (eqb-true x y p.0)
    ∙ ap (λ (zs : List ℕ). y ∷ zs) (stamps_exact xs ys p.1)
stamps_exact [] (y ∷ ys) h = cc
stamps_exact (x ∷ xs) [] h = cc

thread_stamp : (r : TestRow) (p : ℕ) → 5 < p → stamp_in r p ≡ get_or r.threads.items (p - 6) 0
thread_stamp r p low =
    let a : (p == 2) ≡ false = ne_eqb p 2 (λ e. omega (arith, e, low)) in
    let b : (p == 3) ≡ false = ne_eqb p 3 (λ e. omega (arith, e, low)) in
    let c : (p == 4) ≡ false = ne_eqb p 4 (λ e. omega (arith, e, low)) in
    let d : (p == 5) ≡ false = ne_eqb p 5 (λ e. omega (arith, e, low)) in
    rw (a, b, c, d) refl

-- rows of the same space have its stamps alike
space_stamps : (a b : TestRow) → same_space a b ≡ true → (p : ℕ) → 3 < p
    → stamp_in a p ≡ stamp_in b p
space_stamps a b h p low =
    let q = and_true ((a.init == b.init) && (a.locations == b.locations)) (same_stamps a.threads.items b.threads.items) h in
    let i = and_true (a.init == b.init) (a.locations == b.locations) q.0 in
    elim (cases_Bool (p == 4)) [
      | inl e ↦ rw (eqb-true p 4 e) (eqb-true a.locations b.locations i.1)
      | inr f ↦ elim (cases_Bool (p == 5)) [
        | inl e ↦ rw (eqb-true p 5 e) (eqb-true a.init b.init i.0)
        | inr g ↦ (let far : 5 < p = omega (arith, low, not_equal p 4 f, not_equal p 5 g) in
            thread_stamp a p far
            ∙ ap (λ (l : List ℕ). get_or l (p - 6) 0)
            (stamps_exact a.threads.items b.threads.items q.1)
            ∙ sym (thread_stamp b p far))
      ]
    ]
  where
    not_equal : (x y : ℕ) → (x == y) ≡ false → x ≡ y → ⊥
    not_equal x y f e = let t : true ≡ false = sym (eq-eqb x y e) ∙ f in cc

-- lists of unlike lengths are not equal by the tests
and_false : (a b : Bool) → false ≡ b → false ≡ (a && b)
and_false true b e = e
and_false false b e = refl

pub unlike_stamps : (xs ys : List ℕ) → (length xs ≡ length ys → ⊥) → false ≡ same_stamps xs ys
unlike_stamps [] [] h = absurd (h refl)
unlike_stamps (x ∷ xs) (y ∷ ys) h =
    and_false (x == y) (same_stamps xs ys) (unlike_stamps xs ys (λ e. h (omega (arith, e))))
unlike_stamps [] (y ∷ ys) h = refl
unlike_stamps (x ∷ xs) [] h = refl

pub unlike_keys : (ks ls : List SlotKey) → (length ks ≡ length ls → ⊥) → false ≡ same_slot_keys ks ls
unlike_keys [] [] h = absurd (h refl)
unlike_keys (k ∷ ks) (l ∷ ls) h =
    and_false (same_slot_key k l) (same_slot_keys ks ls) (unlike_keys ks ls (λ e. h (omega (arith, e))))
unlike_keys [] (l ∷ ls) h = refl
unlike_keys (k ∷ ks) [] h = refl

same_threads : (id part : ℕ) (xs ys : List ℕ) → length xs ≡ length ys
    → thread_parts id part xs ≡ thread_parts id part ys
same_threads id part [] [] e = refl
same_threads id part (x ∷ xs) (y ∷ ys) e =
    ap (λ (ks : List Key). Part part id ∷ ks) (same_threads id (part + 1) xs ys (omega (arith, e)))
same_threads id part [] (y ∷ ys) e = absurd (omega (arith, e))
same_threads id part (x ∷ xs) [] e = absurd (omega (arith, e))

row_id : (ts : List TestRow) (id : ℕ) (r : TestRow) → row_of ts id ≡ Some r → r.id ≡ id
row_id [] id r h = cc
row_id (t ∷ ts) id r h = elim (cases_Bool (t.id == id)) [
  | inl e ↦ (let same = same_Some t r (rw e at h) in
      ap (λ (x : TestRow). x.id) (sym same) ∙ eqb-true t.id id e)
  | inr f ↦ row_id ts id r (rw f at h)
]

module _ {G : Type 0} (t u : NodeTable) (gives after : Node → G → Bool)
    (slots_are : u.slots.items ≡ t.slots.items) (items_are : u.items.items ≡ t.items.items)
    (models_are : u.models.items ≡ t.models.items) where
  abbrev Alike : Key → Type 0
  Alike k = IsSamePart (net_of t gives) (net_of u after) k

  part_alike : (part of : ℕ)
      → (1 < part → stamp_by (row_of u.tests.items of) part ≡ stamp_by (row_of t.tests.items of) part)
      → part_stamp u part of ≡ part_stamp t part of
  part_alike part of h = elim (cases_Bool (part == 0)) [
    | inl e ↦ rw e (ap (λ (is : List ItemRow). item_stamp is of) items_are)
    | inr f ↦ elim (cases_Bool (part == 1)) [
      | inl e ↦ rw (f, e) (ap (λ (ms : List ModelRow). fault_stamp ms of) models_are)
      | inr g ↦ rw (f, g) (stamp_is u.tests.items part of
          ∙ h (omega (arith, differ part 0 f, differ part 1 g))
          ∙ sym (stamp_is t.tests.items part of))
    ]
  ]
    where
      differ : (x y : ℕ) → (x == y) ≡ false → x ≡ y → ⊥
      differ x y f e = let t : true ≡ false = sym (eq-eqb x y e) ∙ f in cc

  item_alike : (n : ℕ) → part_stamp u 0 n ≡ part_stamp t 0 n
  item_alike n = ap (λ (is : List ItemRow). item_stamp is n) items_are

  fault_alike : (n : ℕ) → part_stamp u 1 n ≡ part_stamp t 1 n
  fault_alike n = ap (λ (ms : List ModelRow). fault_stamp ms n) models_are

  slot_alike : (kind : Kind) (of test : ℕ)
      → keys_at test (slot_keys u.slots.items kind of)
      ≡ keys_at test (slot_keys t.slots.items kind of)
  slot_alike kind of test = ap (λ (ss : List Slot). keys_at test (slot_keys ss kind of)) slots_are

  -- a node of a test has the same inputs, and the parts among them have the same stamps
  pub record IsNodeAlike (kind : Kind) (test of : ℕ) : Type 0 where
    pub inputs : node_inputs u kind test of ≡ node_inputs t kind test of
    pub parts : Each Alike (node_inputs t kind test of)

  -- of a test with the same row
  module _ (test : ℕ) (same : row_of u.tests.items test ≡ row_of t.tests.items test) where
    same_stamp : (part : ℕ) → part_stamp u part test ≡ part_stamp t part test
    same_stamp part = part_alike part test (λ low. ap (λ (o : Option TestRow). stamp_by o part) same)

    same_key : (k : SlotKey) → Alike (key_at test k)
    same_key (slots.Test part) = same_stamp part
    same_key (slots.Item n) = item_alike n
    same_key (slots.Fault n) = fault_alike n
    same_key (slots.Value kind of name) = tt

    same_slot : (kind : Kind) (of : ℕ) → Each Alike (keys_at test (slot_keys t.slots.items kind of))
    same_slot kind of = keys_each Alike test (slot_keys t.slots.items kind of) (λ k h. same_key k)

    pub same_node : (kind : Kind) (of : ℕ) → IsNodeAlike kind test of
    same_node Space of = record {
      inputs = ap row_parts same;
      parts = row_each Alike t.tests.items test (λ p low. same_stamp p);
    }
    same_node Group of =
        record { inputs = slot_alike Group of test; parts = same_slot Group of }
    same_node Check of =
        record { inputs = slot_alike Check of test; parts = same_slot Check of }
    same_node Verdict of =
        record { inputs = slot_alike Verdict of test; parts = same_slot Verdict of }

  -- of the test whose row is put in the place of another: what has the stamps of before has them
  -- under the number of the edit too
  module _ (test : ℕ) (a row new : TestRow) (was : row_of t.tests.items test ≡ Some a)
      (now : row_of u.tests.items test ≡ Some new)
      (raised : (part : ℕ) → stamp_in a part ≡ stamp_in row part → stamp_in new part ≡ stamp_in a part)
      (threads : length new.threads.items ≡ length row.threads.items) where
    kept_stamp : (part : ℕ) → stamp_in a part ≡ stamp_in row part
        → part_stamp u part test ≡ part_stamp t part test
    kept_stamp part e = part_alike part test (λ low. rw (was, now) (raised part e))

    kept_key : (k : SlotKey) → keeps_part a row k ≡ true → Alike (key_at test k)
    kept_key (slots.Test part) h =
        kept_stamp part (eqb-true (stamp_in a part) (stamp_in row part) h)
    kept_key (slots.Item n) h = item_alike n
    kept_key (slots.Fault n) h = fault_alike n
    kept_key (slots.Value kind of name) h = tt

    kept_slot : (kind : Kind) (of : ℕ) → keep_parts a row (slot_keys t.slots.items kind of) ≡ true
        → Each Alike (keys_at test (slot_keys t.slots.items kind of))
    kept_slot kind of h = keys_each Alike test (slot_keys t.slots.items kind of)
        (λ k has. kept_key k (each_part_kept a row (slot_keys t.slots.items kind of) k h has))

    same_parts : same_space a row ≡ true → space_parts new ≡ space_parts a
    same_parts h =
        let q = and_true ((a.init == row.init) && (a.locations == row.locations)) (same_stamps a.threads.items row.threads.items) h in
        let l : length new.threads.items ≡ length a.threads.items = threads ∙ ap (λ (xs : List ℕ). length xs) (sym (stamps_exact a.threads.items row.threads.items q.1)) in
        let e : new.id ≡ a.id = row_id u.tests.items test new now ∙ sym (row_id t.tests.items test a was) in
        ap (λ (i : ℕ). Part 5 i ∷ thread_parts i 6 new.threads.items ++ Part 4 i ∷ []) e
        ∙ ap (λ (ks : List Key). Part 5 a.id ∷ ks ++ Part 4 a.id ∷ [])
        (same_threads a.id 6 new.threads.items a.threads.items l)

    pub kept_node : (kind : Kind) (of : ℕ)
        → keeps_inputs a row kind (slot_keys t.slots.items kind of) ≡ true
        → IsNodeAlike kind test of
    kept_node Space of h = record {
      inputs = ap row_parts now ∙ same_parts h ∙ sym (ap row_parts was);
      parts =
          row_each Alike t.tests.items test
          (λ p low. kept_stamp p (space_stamps a row h p low));
    }
    kept_node Group of h =
        record { inputs = slot_alike Group of test; parts = kept_slot Group of h }
    kept_node Check of h =
        record { inputs = slot_alike Check of test; parts = kept_slot Check of h }
    kept_node Verdict of h =
        record { inputs = slot_alike Verdict of test; parts = kept_slot Verdict of h }

  -- the node of a test is there before the edit and after it, and is alike
  pub record IsNodeKept (kind : Kind) (test of : ℕ) : Type 0 where
    pub was_there : has_test_row t.tests.items test ≡ true
    pub is_there : has_test_row u.tests.items test ≡ true
    pub alike : IsNodeAlike kind test of

  module _ (id : ℕ) (names : List SlotName)
      (other : (m : ℕ) → (m == id) ≡ false → row_of u.tests.items m ≡ row_of t.tests.items m)
      (here : (kind : Kind) (of : ℕ)
      → (has_test_row t.tests.items id ≡ true) ⊎ (has_test_row u.tests.items id ≡ true)
      → has_slot t.slots.items kind of ≡ true → Has names (named kind of) ⊎ IsNodeKept kind id of)
    where
      abbrev IsTouched : Node → Type 0
      IsTouched n =
          Has (nodes_named id names) n ⊎ IsUsedAlike (net_of t gives) (net_of u after) n

      slot_there : (n : Node) → Has (used t) n ⊎ Has (used u) n
          → has_slot t.slots.items n.kind n.of ≡ true
      slot_there n h = elim h [
        | inl l ↦ used_slot t n l
        | inr r ↦ rw slots_are at (used_slot u n r)
      ]

      kept_used : (n : Node) → has_slot t.slots.items n.kind n.of ≡ true
          → IsNodeKept n.kind n.test n.of → IsUsedAlike (net_of t gives) (net_of u after) n
      kept_used n there k = record {
        before = used_by t n k.was_there there;
        after = used_by u n k.is_there (rw slots_are there);
        inputs = k.alike.inputs;
        parts = k.alike.parts;
      }

      test_there : (n : Node) → Has (used t) n ⊎ Has (used u) n
          → (has_test_row t.tests.items n.test ≡ true) ⊎ (has_test_row u.tests.items n.test ≡ true)
      test_there n h = elim h [ inl l ↦ inl (used_test t n l) | inr r ↦ inr (used_test u n r) ]

      of_test : (n : Node) → n.test ≡ id → Has (used t) n ⊎ Has (used u) n → IsTouched n
      of_test n e h =
          let there = slot_there n h in
          let rows = subst (λ (m : ℕ). (has_test_row t.tests.items m ≡ true)
          ⊎ (has_test_row u.tests.items m ≡ true)) e (test_there n h) in
          elim (here n.kind n.of rows there) [
            | inl has ↦ inl (subst (λ (m : ℕ). Has (nodes_named id names) (node_named m (named n.kind n.of)))
                (sym e) (has_named id names (named n.kind n.of) has))
            | inr k ↦ inr (kept_used n there (subst (λ (m : ℕ). IsNodeKept n.kind m n.of) (sym e) k))
          ]

      of_other : (n : Node) → (n.test == id) ≡ false → Has (used t) n ⊎ Has (used u) n → IsTouched n
      of_other n f h =
          let there = slot_there n h in
          let same = other n.test f in
          let rows = rows_same t.tests.items u.tests.items n.test same in
          let is : has_test_row t.tests.items n.test ≡ true = elim h [
            | inl l ↦ used_test t n l
            | inr r ↦ sym rows ∙ used_test u n r
          ] in
          inr (kept_used n there (record {
            was_there = is;
            is_there = rows ∙ is;
            alike = same_node n.test same n.kind n.of;
          }))

      pub test_touches : TouchesOnly (net_of t gives) (net_of u after) (nodes_named id names)
      test_touches n h = elim (cases_Bool (n.test == id)) [
        | inl e ↦ of_test n (eqb-true n.test id e) h
        | inr f ↦ of_other n f h
      ]
