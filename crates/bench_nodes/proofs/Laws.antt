-- Where each slot stands behind those that it uses, the nodes of a table keep the laws of `Texts`
-- on nodes.
use Rattle.std.proofs.Common.{◌≡◌, ◌⊎◌, inl, inr, ℕ, ◌+◌, ◌<◌, Bool, true, false, ◌==◌, ◌&&◌, ◌||◌, List, [], ◌∷◌, ◌++◌, Option, Some, None, refl, ap, sym, ◌∙◌, subst, eq-eqb, arith}
use Rattle.std.specs.Bool.{⊤}
use Rattle.std.specs.List.{AllByRecursion as Each}
use Rattle.memo_core.specs.declared.keys.Kind.{Kind}
use Rattle.memo_core.specs.declared.keys.Kind.TheVariants.{Space, Group, Check, Verdict}
use Rattle.memo_core.specs.declared.keys.Key.{Key}
use Rattle.memo_core.specs.declared.keys.Key.TheVariants.{Part}
use Rattle.memo_core.specs.declared.keys.Node.{Node}
use Rattle.memo_core.specs.Graph.{input_nodes}
use Rattle.memo_core.specs.Names.{kind_number, same_node}
use Rattle.memo_core.specs.Lemmas.Equality.{same_node_exact}
use Rattle.memo_core.specs.Tests.{has_node}
use Rattle.memo_core.specs.Laws.{IsUsedClosed, AreUsers, AreReaders, Falls}
use Rattle.memo_core.specs.Step.{Has}
use Rattle.memo_core.proofs.JudgeLemmas.{has_yes, has_is}
use Rattle.bench_nodes.specs.declared.table.NodeTable.{NodeTable}
use Rattle.bench_nodes.specs.declared.table.Slot.{Slot}
use Rattle.bench_nodes.specs.declared.table.SlotKey.{SlotKey}
use Rattle.bench_nodes.specs.declared.table.SlotKey.TheVariants as slots
use Rattle.bench_nodes.specs.declared.table.TestRow.{TestRow}
use Rattle.bench_nodes.specs.Nodes.{node_of, is_output_of, uses, users_at, used, keys_at, is_slot, slot_keys, thread_parts, space_keys, row_of, row_parts, node_inputs, users, has_test_row, has_slot, slot_index, rank_of, rank, net_of}
use Rattle.bench_nodes.specs.Order.{IsOfEarlierSlot, AreOrderedAfter, IsTableOrdered, HasOwnKeys, AreSlotsAlike}
use Rattle.bench_nodes.proofs.Lists.{has_used}
use Rattle.bench_nodes.proofs.Lookups.{all_of}
use Rattle.std.proofs.lemmas.Bool.{cases_Bool, and_from}

-- ---- both or one of two

first_of : (a b : Bool) → a && b ≡ true → a ≡ true
first_of true b h = refl
first_of false b h = h

second_of : (a b : Bool) → a && b ≡ true → b ≡ true
second_of true b h = h
second_of false b h = cc

-- ---- what a used node is

pub used_test : (t : NodeTable) (n : Node) → Has (used t) n → has_test_row t.tests.items n.test ≡ true
used_test t n h =
    first_of (has_test_row t.tests.items n.test) (has_slot t.slots.items n.kind n.of)
    (sym (has_used t.slots.items t.tests.items n) ∙ has_is n (used t) h)

pub used_slot : (t : NodeTable) (n : Node) → Has (used t) n
    → has_slot t.slots.items n.kind n.of ≡ true
used_slot t n h =
    second_of (has_test_row t.tests.items n.test) (has_slot t.slots.items n.kind n.of)
    (sym (has_used t.slots.items t.tests.items n) ∙ has_is n (used t) h)

pub used_by : (t : NodeTable) (n : Node) → has_test_row t.tests.items n.test ≡ true
    → has_slot t.slots.items n.kind n.of ≡ true → Has (used t) n
used_by t n a b =
    has_yes n (used t) (has_used t.slots.items t.tests.items n
    ∙ and_from (has_test_row t.tests.items n.test) (has_slot t.slots.items n.kind n.of) a b)

-- ---- the inputs of a space are parts

no_nodes_among_threads : (id part : ℕ) (ts : List ℕ) (ks : List Key)
    → input_nodes (thread_parts id part ts ++ ks) ≡ input_nodes ks
no_nodes_among_threads id part [] ks = refl
no_nodes_among_threads id part (t ∷ ts) ks = no_nodes_among_threads id (part + 1) ts ks

no_nodes_in_row : (o : Option TestRow) → input_nodes (row_parts o) ≡ []
no_nodes_in_row None = refl
no_nodes_in_row (Some t) = no_nodes_among_threads t.id 6 t.threads.items (Part 4 t.id ∷ [])

no_nodes_in_space : (ts : List TestRow) (id : ℕ) → input_nodes (space_keys ts id) ≡ []
no_nodes_in_space ts id = no_nodes_in_row (row_of ts id)

-- ---- what holds of each output among keys holds of each node among them

abbrev HoldsOf : (ℕ → Node → Type 0) → ℕ → SlotKey → Type 0
HoldsOf P test (slots.Test part) = ⊤
HoldsOf P test (slots.Item number) = ⊤
HoldsOf P test (slots.Fault id) = ⊤
HoldsOf P test (slots.Value kind of name) = P test (record { kind = kind; test = test; of = of })

each_node : (P : ℕ → Node → Type 0) (test : ℕ) (ks : List SlotKey) → Each (HoldsOf P test) ks
    → Each (P test) (input_nodes (keys_at test ks))
each_node P test [] h = tt
each_node P test (slots.Test part ∷ ks) h = each_node P test ks h.1
each_node P test (slots.Item number ∷ ks) h = each_node P test ks h.1
each_node P test (slots.Fault id ∷ ks) h = each_node P test ks h.1
each_node P test (slots.Value kind of name ∷ ks) h = (h.0, each_node P test ks h.1)

-- ---- what a slot uses is a slot, before it

-- the key is of the slots before, or of a slot that comes before that index
abbrev StandsBefore : List Slot → List Slot → ℕ → SlotKey → Type 0
StandsBefore before ss i (slots.Test part) = ⊤
StandsBefore before ss i (slots.Item number) = ⊤
StandsBefore before ss i (slots.Fault id) = ⊤
StandsBefore before ss i (slots.Value kind of name) =
    (has_slot before kind of ≡ true) ⊎ ((has_slot ss kind of ≡ true) × (slot_index ss kind of < i))

behind_before : (before ss : List Slot) (i : ℕ) (ks : List SlotKey) → Each (IsOfEarlierSlot before) ks
    → Each (StandsBefore before ss i) ks
behind_before before ss i [] h = tt
behind_before before ss i (slots.Test part ∷ ks) h = (tt, behind_before before ss i ks h.1)
behind_before before ss i (slots.Item number ∷ ks) h = (tt, behind_before before ss i ks h.1)
behind_before before ss i (slots.Fault id ∷ ks) h = (tt, behind_before before ss i ks h.1)
behind_before before ss i (slots.Value kind of name ∷ ks) h =
    (inl h.0, behind_before before ss i ks h.1)

key_further : (before ss : List Slot) (s : Slot) (i : ℕ) (kind : Kind) (of : ℕ)
    → (has_slot (s ∷ before) kind of ≡ true)
    ⊎ ((has_slot ss kind of ≡ true) × (slot_index ss kind of < i))
    → (has_slot before kind of ≡ true)
    ⊎ ((has_slot (s ∷ ss) kind of ≡ true) × (slot_index (s ∷ ss) kind of < i + 1))
key_further before ss s i kind of h = elim (cases_Bool (is_slot kind of s)) [
  | inl e ↦ inr (rw e refl, rw e (omega arith))
  | inr f ↦ elim h [
    | inl b ↦ inl (rw f at b)
    | inr l ↦ inr (rw f l.0, rw f (omega (arith, l.1)))
  ]
]

further : (before ss : List Slot) (s : Slot) (i : ℕ) (ks : List SlotKey)
    → Each (StandsBefore (s ∷ before) ss i) ks → Each (StandsBefore before (s ∷ ss) (i + 1)) ks
further before ss s i [] h = tt
further before ss s i (slots.Test part ∷ ks) h = (tt, further before ss s i ks h.1)
further before ss s i (slots.Item number ∷ ks) h = (tt, further before ss s i ks h.1)
further before ss s i (slots.Fault id ∷ ks) h = (tt, further before ss s i ks h.1)
further before ss s i (slots.Value kind of name ∷ ks) h =
    (key_further before ss s i kind of h.0, further before ss s i ks h.1)

keys_before : (before ss : List Slot) (kind : Kind) (of : ℕ) → AreOrderedAfter before ss
    → Each (StandsBefore before ss (slot_index ss kind of)) (slot_keys ss kind of)
keys_before before [] kind of h = tt
keys_before before (s ∷ ss) kind of h = elim (cases_Bool (is_slot kind of s)) [
  | inl e ↦ rw e (behind_before before (s ∷ ss) 0 s.inputs.items h.0)
  | inr f ↦ rw f (further before ss s (slot_index ss kind of) (slot_keys ss kind of)
      (keys_before (s ∷ before) ss kind of h.1))
]

-- ---- the laws

each_used : (t : NodeTable) (test : ℕ) (i : ℕ) (ks : List SlotKey)
    → has_test_row t.tests.items test ≡ true → Each (StandsBefore [] t.slots.items i) ks
    → Each (HoldsOf (λ _ n. Has (used t) n) test) ks
each_used t test i [] there h = tt
each_used t test i (slots.Test part ∷ ks) there h = (tt, each_used t test i ks there h.1)
each_used t test i (slots.Item number ∷ ks) there h = (tt, each_used t test i ks there h.1)
each_used t test i (slots.Fault id ∷ ks) there h = (tt, each_used t test i ks there h.1)
each_used t test i (slots.Value kind of name ∷ ks) there h = (
  elim h.0 [
    | inl none ↦ cc
    | inr is ↦ used_by t (record { kind = kind; test = test; of = of }) there is.0
  ],
  each_used t test i ks there h.1,
)

used_among : (t : NodeTable) (kind : Kind) (test of : ℕ) → IsTableOrdered t
    → has_test_row t.tests.items test ≡ true
    → Each (Has (used t)) (input_nodes (keys_at test (slot_keys t.slots.items kind of)))
used_among t kind test of o there =
    each_node (λ _ n. Has (used t) n) test (slot_keys t.slots.items kind of) (each_used t test
    (slot_index t.slots.items kind of) (slot_keys t.slots.items kind of) there
    (keys_before [] t.slots.items kind of o))

used_inputs : (t : NodeTable) (kind : Kind) (test of : ℕ) → IsTableOrdered t
    → has_test_row t.tests.items test ≡ true
    → Each (Has (used t)) (input_nodes (node_inputs t kind test of))
used_inputs t Space test of o there = rw (no_nodes_in_space t.tests.items test) tt
used_inputs t Group test of o there = used_among t Group test of o there
used_inputs t Check test of o there = used_among t Check test of o there
used_inputs t Verdict test of o there = used_among t Verdict test of o there

-- the inputs of used nodes are used
pub used_is_closed : {G : Type 0} (t : NodeTable) (gives : Node → G → Bool) → IsTableOrdered t
    → IsUsedClosed (net_of t gives)
used_is_closed t gives o n h = used_inputs t n.kind n.test n.of o (used_test t n h)

lower : (ss : List Slot) (test : ℕ) (i : ℕ) (ks : List SlotKey) → Each (StandsBefore [] ss i) ks
    → Each (HoldsOf (λ _ m. rank_of ss m.kind m.of < i + 1) test) ks
lower ss test i [] h = tt
lower ss test i (slots.Test part ∷ ks) h = (tt, lower ss test i ks h.1)
lower ss test i (slots.Item number ∷ ks) h = (tt, lower ss test i ks h.1)
lower ss test i (slots.Fault id ∷ ks) h = (tt, lower ss test i ks h.1)
lower ss test i (slots.Value kind of name ∷ ks) h = (
  elim h.0 [
    | inl none ↦ cc
    | inr is ↦ low kind is.1
  ],
  lower ss test i ks h.1,
)
  where
    low : (kind : Kind) → slot_index ss kind of < i → rank_of ss kind of < i + 1
    low Space l = omega arith
    low Group l = omega (arith, l)
    low Check l = omega (arith, l)
    low Verdict l = omega (arith, l)

lower_among : (t : NodeTable) (kind : Kind) (test of : ℕ) → IsTableOrdered t
    → Each (λ m. rank_of t.slots.items m.kind m.of < slot_index t.slots.items kind of + 1)
    (input_nodes (keys_at test (slot_keys t.slots.items kind of)))
lower_among t kind test of o =
    each_node (λ _ m. rank_of t.slots.items m.kind m.of < slot_index t.slots.items kind of + 1) test
    (slot_keys t.slots.items kind of)
    (lower t.slots.items test (slot_index t.slots.items kind of) (slot_keys t.slots.items kind of)
    (keys_before [] t.slots.items kind of o))

lower_inputs : (t : NodeTable) (kind : Kind) (test of : ℕ) → IsTableOrdered t
    → Each (λ m. rank_of t.slots.items m.kind m.of < rank_of t.slots.items kind of)
    (input_nodes (node_inputs t kind test of))
lower_inputs t Space test of o = rw (no_nodes_in_space t.tests.items test) tt
lower_inputs t Group test of o = lower_among t Group test of o
lower_inputs t Check test of o = lower_among t Check test of o
lower_inputs t Verdict test of o = lower_among t Verdict test of o

-- a node ranks above its inputs
pub ranks_fall : {G : Type 0} (t : NodeTable) (gives : Node → G → Bool) → IsTableOrdered t
    → Falls (net_of t gives) (rank t)
ranks_fall t gives o n = lower_inputs t n.kind n.test n.of o

-- the nodes among the inputs of a node are of its test
node_test : (test : ℕ) (ks : List SlotKey) (n : Node) → Has (input_nodes (keys_at test ks)) n
    → n.test ≡ test
node_test test [] n h = absurd h
node_test test (slots.Test part ∷ ks) n h = node_test test ks n h
node_test test (slots.Item number ∷ ks) n h = node_test test ks n h
node_test test (slots.Fault id ∷ ks) n h = node_test test ks n h
node_test test (slots.Value kind of name ∷ ks) n h = elim h [
  | inl e ↦ sym (ap (λ (m : Node). m.test) e)
  | inr l ↦ node_test test ks n l
]

-- ---- users

uses_among : (test : ℕ) (ks : List SlotKey) (n : Node) → Has (input_nodes (keys_at test ks)) n
    → uses n.kind n.of ks ≡ true
uses_among test [] n h = absurd h
uses_among test (slots.Test part ∷ ks) n h = uses_among test ks n h
uses_among test (slots.Item number ∷ ks) n h = uses_among test ks n h
uses_among test (slots.Fault id ∷ ks) n h = uses_among test ks n h
uses_among test (slots.Value kind of name ∷ ks) n h = elim h [
  | inl e ↦ subst
      (λ (m : Node). (is_output_of m.kind m.of (slots.Value kind of name) || uses m.kind m.of ks)
      ≡ true) e
      (either_of (is_output_of kind of (slots.Value kind of name)) (uses kind of ks)
      (and_from (kind_number kind == kind_number kind) (of == of)
      (eq-eqb (kind_number kind) (kind_number kind) refl) (eq-eqb of of refl)))
  | inr l ↦ rw (uses_among test ks n l) (or_true
      (is_output_of n.kind n.of (slots.Value kind of name)))
]
  where
    either_of : (a b : Bool) → a ≡ true → a || b ≡ true
    either_of true b h = refl
    either_of false b h = cc

    or_true : (a : Bool) → a || true ≡ true
    or_true true = refl
    or_true false = refl

-- the slot of a kind and number is among the users of what it uses
user_among : (ss : List Slot) (kind : Kind) (of : ℕ) (used_kind : Kind) (used_of test : ℕ)
    → has_slot ss kind of ≡ true → uses used_kind used_of (slot_keys ss kind of) ≡ true
    → has_node (record { kind = kind; test = test; of = of }) (users_at ss used_kind used_of test)
    ≡ true
user_among [] kind of used_kind used_of test h u = cc
user_among (s ∷ ss) kind of used_kind used_of test h u = elim (cases_Bool (is_slot kind of s)) [
  | inl e ↦ (
      let v : uses used_kind used_of s.inputs.items ≡ true = rw e at u in
      let here : same_node (record { kind = kind; test = test; of = of }) (node_of test s) ≡ true = all_of (kind_number kind == kind_number s.kind) (test == test) (of == s.of) e (eq-eqb test test refl) in
      rw v (rw here refl)
      )
  | inr f ↦ (
      let rest = user_among ss kind of used_kind used_of test (rw f at h) (rw f at u) in
      elim (cases_Bool (uses used_kind used_of s.inputs.items)) [
        | inl v ↦ rw v (rw rest (or_true (same_node (record { kind = kind; test = test; of = of })
            (node_of test s))))
        | inr w ↦ rw w rest
      ]
      )
]
  where
    or_true : (a : Bool) → a || true ≡ true
    or_true true = refl
    or_true false = refl

user_listed : (t : NodeTable) (n : Node) (kind : Kind) (test of : ℕ)
    → has_slot t.slots.items kind of ≡ true
    → Has (input_nodes (keys_at test (slot_keys t.slots.items kind of))) n
    → Has (users t n) (record { kind = kind; test = test; of = of })
user_listed t n kind test of h i =
    has_yes (record { kind = kind; test = test; of = of }) (users t n)
    (subst
    (λ (x : ℕ). has_node (record { kind = kind; test = test; of = of })
    (users_at t.slots.items n.kind n.of x) ≡ true)
    (sym (node_test test (slot_keys t.slots.items kind of) n i))
    (user_among t.slots.items kind of n.kind n.of test h
    (uses_among test (slot_keys t.slots.items kind of) n i)))

user_there : (t : NodeTable) (n : Node) (kind : Kind) (test of : ℕ)
    → has_slot t.slots.items kind of ≡ true → Has (input_nodes (node_inputs t kind test of)) n
    → Has (users t n) (record { kind = kind; test = test; of = of })
user_there t n Space test of h i = absurd (rw (no_nodes_in_space t.tests.items test) at i)
user_there t n Group test of h i = user_listed t n Group test of h i
user_there t n Check test of h i = user_listed t n Check test of h i
user_there t n Verdict test of h i = user_listed t n Verdict test of h i

-- a user is the node of a slot, of the same test
own_slot : (s : Slot) (ss : List Slot) → has_slot (s ∷ ss) s.kind s.of ≡ true
own_slot s ss =
    either_of (is_slot s.kind s.of s) (has_slot ss s.kind s.of) (and_from
    (kind_number s.kind == kind_number s.kind) (s.of == s.of)
    (eq-eqb (kind_number s.kind) (kind_number s.kind) refl) (eq-eqb s.of s.of refl))
  where
    either_of : (a b : Bool) → a ≡ true → a || b ≡ true
    either_of true b h = refl
    either_of false b h = cc

user_is : (ss : List Slot) (kind : Kind) (of test : ℕ) (u : Node) → Has (users_at ss kind of test) u
    → (u.test ≡ test) × (has_slot ss u.kind u.of ≡ true)
user_is [] kind of test u h = absurd h
user_is (s ∷ ss) kind of test u h = elim (cases_Bool (uses kind of s.inputs.items)) [
  | inl e ↦ (let g : Has (node_of test s ∷ users_at ss kind of test) u = rw e at h in elim g [
    | inl is ↦ (
      sym (ap (λ (m : Node). m.test) is),
      subst (λ (m : Node). has_slot (s ∷ ss) m.kind m.of ≡ true) is (own_slot s ss),
    )
    | inr l ↦ later (user_is ss kind of test u l)
  ])
  | inr f ↦ later (user_is ss kind of test u (rw f at h))
]
  where
    or_true : (a : Bool) → a || true ≡ true
    or_true true = refl
    or_true false = refl

    later : (u.test ≡ test) × (has_slot ss u.kind u.of ≡ true)
        → (u.test ≡ test) × (has_slot (s ∷ ss) u.kind u.of ≡ true)
    later p = (p.0, rw p.1 (or_true (is_slot u.kind u.of s)))

user_used : (t : NodeTable) (n u : Node) → Has (used t) n → Has (users t n) u → Has (used t) u
user_used t n u h l =
    let p = user_is t.slots.items n.kind n.of n.test u l in
    used_by t u (subst (λ (x : ℕ). has_test_row t.tests.items x ≡ true) (sym p.0) (used_test t n h)) p.1

-- what uses an output of a node of the same test has it among its inputs
uses_has : (test : ℕ) (ks : List SlotKey) (n : Node) → uses n.kind n.of ks ≡ true → n.test ≡ test
    → Has (input_nodes (keys_at test ks)) n
uses_has test [] n h e = cc
uses_has test (slots.Test part ∷ ks) n h e = uses_has test ks n h e
uses_has test (slots.Item number ∷ ks) n h e = uses_has test ks n h e
uses_has test (slots.Fault id ∷ ks) n h e = uses_has test ks n h e
uses_has test (slots.Value kind of name ∷ ks) n h e =
    elim (cases_Bool (is_output_of n.kind n.of (slots.Value kind of name))) [
      | inl t ↦ inl (sym (same_node_exact n (record { kind = kind; test = test; of = of })
          (all_of (kind_number n.kind == kind_number kind) (n.test == test) (n.of == of) t
          (eq-eqb n.test test e))))
      | inr f ↦ inr (uses_has test ks n (rw f at h) e)
    ]

-- a user of a node is of its test, has an output of it among its inputs, and is no space
record IsUserOf (ss : List Slot) (kind : Kind) (of test : ℕ) (u : Node) : Type 0 where
  same : test ≡ u.test
  used : uses kind of (slot_keys ss u.kind u.of) ≡ true
  no_space : u.kind ≡ Space → ⊥

user_of : (all ss : List Slot) (kind : Kind) (of test : ℕ) (u : Node) → Each (HasOwnKeys all) ss
    → Has (users_at ss kind of test) u → IsUserOf all kind of test u
user_of all [] kind of test u alike h = absurd h
user_of all (s ∷ ss) kind of test u alike h = elim (cases_Bool (uses kind of s.inputs.items)) [
  | inl e ↦ (let g : Has (node_of test s ∷ users_at ss kind of test) u = rw e at h in elim g [
    | inl is ↦ subst (IsUserOf all kind of test) is (record {
      same = refl;
      used = rw alike.0.keys e;
      no_space = λ space. none (alike.0.space space) e;
    })
    | inr l ↦ user_of all ss kind of test u alike.1 l
  ])
  | inr f ↦ user_of all ss kind of test u alike.1 (rw f at h)
]
  where
    none : s.inputs.items ≡ [] → uses kind of s.inputs.items ≡ true → ⊥
    none is e = let f : false ≡ true = rw is at e in cc

reads_by : (t : NodeTable) (n : Node) (kind : Kind) (test of : ℕ) → n.test ≡ test
    → uses n.kind n.of (slot_keys t.slots.items kind of) ≡ true → (kind ≡ Space → ⊥)
    → Has (input_nodes (node_inputs t kind test of)) n
reads_by t n Space test of e h none = absurd (none refl)
reads_by t n Group test of e h none = uses_has test (slot_keys t.slots.items Group of) n h e
reads_by t n Check test of e h none = uses_has test (slot_keys t.slots.items Check of) n h e
reads_by t n Verdict test of e h none = uses_has test (slot_keys t.slots.items Verdict of) n h e

user_reads : (t : NodeTable) (n u : Node) → AreSlotsAlike t.slots.items → Has (users t n) u
    → Has (input_nodes (node_inputs t u.kind u.test u.of)) n
user_reads t n u alike h =
    let is = user_of t.slots.items t.slots.items n.kind n.of n.test u alike h in
    reads_by t n u.kind u.test u.of is.same is.used is.no_space

-- the users of a node hold each used node that stands on it, and those of a used node are used
pub users_are_among : {G : Type 0} (t : NodeTable) (gives : Node → G → Bool)
    → AreUsers (net_of t gives) (users t)
users_are_among t gives = record {
  listed = λ n u h i. user_there t n u.kind u.test u.of (used_slot t u h) i;
  are_used = λ n u h l. user_used t n u h l;
}

-- where slots of one kind and number have the same inputs, the users of a node stand on it
pub users_are_readers : {G : Type 0} (t : NodeTable) (gives : Node → G → Bool)
    → AreSlotsAlike t.slots.items → AreReaders (net_of t gives) (users t)
users_are_readers t gives alike n u used h = user_reads t n u alike h
