-- Lengths and elements of the lists of a table.
use Rattle.std.proofs.Common.{◌≡◌, ◌-◌, ℕ, zero, suc, ◌+◌, ◌*◌, ◌/◌, ◌%◌, ◌<◌, ◌≤◌, Bool, true, false, ◌==◌, ◌&&◌, ◌||◌, List, [], ◌∷◌, ◌++◌, drop, length, Option, Some, slice_get, slice_index_or, refl, ap, sym, ◌∙◌, add-one, arith}
use Rattle.memo_core.specs.declared.keys.Key.{Key}
use Rattle.memo_core.specs.declared.keys.Key.TheVariants.{Part}
use Rattle.memo_core.specs.declared.keys.Node.{Node}
use Rattle.memo_core.specs.Names.{kind_number, same_node}
use Rattle.memo_core.specs.Tests.{has_node}
use Rattle.std.proofs.lemmas.List.{length-append}
use Rattle.std.proofs.Math.Nat.{div-lt_iff_lt-mul, mod-lt, suc-mul, zero-mul}
use Rattle.bench_nodes.specs.declared.table.Slot.{Slot}
use Rattle.bench_nodes.specs.declared.table.SlotKey.{SlotKey}
use Rattle.bench_nodes.specs.declared.table.TestRow.{TestRow}
use Rattle.bench_nodes.specs.Nodes.{node_of, nodes_at, used_in, key_at, keys_at, thread_parts, space_parts, space_keys, row_of, row_parts, has_test_row, has_slot}

-- ---- from an element to the rest of a list

pub rest_at : {X : Type 0} (xs : List X) (i : ℕ) (x : X) → slice_get xs i ≡ Some x
    → drop i xs ≡ x ∷ drop (i + 1) xs
rest_at [] i x h = cc
rest_at (y ∷ ys) zero x h = some_head h
  where
    some_head : {X : Type 0} {a b : X} {l : List X} → Some a ≡ Some b → a ∷ l ≡ b ∷ l
    some_head h = cc
rest_at (y ∷ ys) (suc i) x h = rw add-one (rw add-one at (rest_at ys i x h))

pub get_left : {X : Type 0} (xs ys : List X) (i : ℕ) → i < length xs
    → slice_get (xs ++ ys) i ≡ slice_get xs i
get_left [] ys i lt = absurd (omega arith)
get_left (x ∷ xs) ys zero lt = refl
get_left (x ∷ xs) ys (suc i) lt = get_left xs ys i (omega arith)

pub get_right : {X : Type 0} (xs ys : List X) (i : ℕ)
    → slice_get (xs ++ ys) (length xs + i) ≡ slice_get ys i
get_right [] ys i = ap (slice_get ys) (none i)
  where
    none : (i : ℕ) → 0 + i ≡ i
    none i = omega arith
get_right (x ∷ xs) ys i = ap (slice_get (x ∷ (xs ++ ys))) (over (length xs) i) ∙ get_right xs ys i
  where
    over : (a b : ℕ) → suc a + b ≡ suc (a + b)
    over a b = omega arith

-- ---- the nodes of a test

pub length-nodes_at : (ss : List Slot) (test : ℕ) → length (nodes_at ss test) ≡ length ss
length-nodes_at [] test = refl
length-nodes_at (s ∷ ss) test = ap suc (length-nodes_at ss test)

pub node_at : (ss : List Slot) (test i : ℕ) (d : Slot) → i < length ss
    → slice_get (nodes_at ss test) i ≡ Some (node_of test (slice_index_or ss i d))
node_at [] test i d lt = absurd (omega arith)
node_at (s ∷ ss) test zero d lt = refl
node_at (s ∷ ss) test (suc i) d lt = node_at ss test i d (omega arith)

-- ---- the inputs of a node

pub length-keys_at : (test : ℕ) (ks : List SlotKey) → length (keys_at test ks) ≡ length ks
length-keys_at test [] = refl
length-keys_at test (k ∷ ks) = ap suc (length-keys_at test ks)

pub key_in : (test : ℕ) (ks : List SlotKey) (i : ℕ) (d : SlotKey) → i < length ks
    → slice_get (keys_at test ks) i ≡ Some (key_at test (slice_index_or ks i d))
key_in test [] i d lt = absurd (omega arith)
key_in test (k ∷ ks) zero d lt = refl
key_in test (k ∷ ks) (suc i) d lt = key_in test ks i d (omega arith)

pub length-thread_parts : (id part : ℕ) (ts : List ℕ) → length (thread_parts id part ts) ≡ length ts
length-thread_parts id part [] = refl
length-thread_parts id part (t ∷ ts) = ap suc (length-thread_parts id (part + 1) ts)

thread_part : (id part : ℕ) (ts : List ℕ) (i : ℕ) → i < length ts
    → slice_get (thread_parts id part ts) i ≡ Some (Part (part + i) id)
thread_part id part [] i lt = absurd (omega arith)
thread_part id part (t ∷ ts) zero lt =
    ap (λ (p : ℕ). let o : Option Key = Some (Part p id) in o) (sym (add-zero part))
  where
    add-zero : (n : ℕ) → n + 0 ≡ n
    add-zero n = omega arith
thread_part id part (t ∷ ts) (suc i) lt =
    thread_part id (part + 1) ts i (omega arith)
    ∙ ap (λ (p : ℕ). let o : Option Key = Some (Part p id) in o) (over part i)
  where
    over : (a b : ℕ) → (a + 1) + b ≡ a + suc b
    over a b = omega arith

pub length-space_parts : (t : TestRow) → length (space_parts t) ≡ length t.threads.items + 2
length-space_parts t =
    let e = length-append (thread_parts t.id 6 t.threads.items) (Part 4 t.id ∷ []) in
    let l = length-thread_parts t.id 6 t.threads.items in omega (arith, e, l)

-- ---- the used nodes

pub length-used_in : (ss : List Slot) (ts : List TestRow)
    → length (used_in ss ts) ≡ length ts * length ss
length-used_in ss [] = sym (zero-mul (length ss))
length-used_in ss (t ∷ ts) =
    length-append (nodes_at ss t.id) (used_in ss ts)
    ∙ ap (λ (n : ℕ). n + length (used_in ss ts)) (length-nodes_at ss t.id)
    ∙ ap (λ (n : ℕ). length ss + n) (length-used_in ss ts)
    ∙ turned (length ss) (length ts * length ss) ∙ sym (suc-mul (length ts) (length ss))
  where
    turned : (a b : ℕ) → a + b ≡ b + a
    turned a b = omega arith

-- so many tests on, the node of that slot
pub used_node : (ss : List Slot) (ts : List TestRow) (q r : ℕ) (t : TestRow) (s : Slot)
    → q < length ts → r < length ss
    → slice_get (used_in ss ts) (q * length ss + r)
    ≡ Some (node_of (slice_index_or ts q t).id (slice_index_or ss r s))
used_node ss [] q r t s lq lr = absurd (omega arith)
used_node ss (u ∷ ts) zero r t s lq lr =
    ap (λ (i : ℕ). slice_get (used_in ss (u ∷ ts)) i)
    (ap (λ (n : ℕ). n + r) (zero-mul (length ss)) ∙ none r)
    ∙ get_left (nodes_at ss u.id) (used_in ss ts) r (rw (length-nodes_at ss u.id) lr)
    ∙ node_at ss u.id r s lr
  where
    none : (i : ℕ) → 0 + i ≡ i
    none i = omega arith
used_node ss (u ∷ ts) (suc q) r t s lq lr =
    ap (λ (i : ℕ). slice_get (used_in ss (u ∷ ts)) i) (ap (λ (n : ℕ). n + r) (suc-mul q (length ss))
    ∙ shift (q * length ss) (length ss) r
    ∙ ap (λ (n : ℕ). n + (q * length ss + r)) (sym (length-nodes_at ss u.id)))
    ∙ get_right (nodes_at ss u.id) (used_in ss ts) (q * length ss + r)
    ∙ used_node ss ts q r t s (omega arith) lr
  where
    shift : (a b c : ℕ) → (a + b) + c ≡ b + (a + c)
    shift a b c = omega arith

-- ---- whether a node is used

and_false : (b : Bool) → b && false ≡ false
and_false true = refl
and_false false = refl

same_parts : (a b c d : Bool) → (a && b && c) || (b && d) ≡ b && ((a && c) || d)
same_parts true true c d = refl
same_parts true false c d = refl
same_parts false true c d = refl
same_parts false false c d = refl

or_assoc : (a b c : Bool) → (a || b) || c ≡ a || (b || c)
or_assoc true b c = refl
or_assoc false b c = refl

or_and : (a b d : Bool) → (a && d) || (b && d) ≡ (a || b) && d
or_and true true true = refl
or_and true true false = refl
or_and true false true = refl
or_and true false false = refl
or_and false b d = refl

pub has_node_at : (ss : List Slot) (test : ℕ) (n : Node)
    → has_node n (nodes_at ss test) ≡ (n.test == test) && has_slot ss n.kind n.of
has_node_at [] test n = sym (and_false (n.test == test))
has_node_at (s ∷ ss) test n =
    ap (λ (b : Bool). same_node n (node_of test s) || b) (has_node_at ss test n)
    ∙ same_parts (kind_number n.kind == kind_number s.kind) (n.test == test) (n.of == s.of)
    (has_slot ss n.kind n.of)

has_node_among : (n : Node) (xs ys : List Node)
    → has_node n (xs ++ ys) ≡ has_node n xs || has_node n ys
has_node_among n [] ys = refl
has_node_among n (x ∷ xs) ys =
    ap (λ (b : Bool). same_node n x || b) (has_node_among n xs ys)
    ∙ sym (or_assoc (same_node n x) (has_node n xs) (has_node n ys))

-- a node is used where its test and its slot are there
pub has_used : (ss : List Slot) (ts : List TestRow) (n : Node)
    → has_node n (used_in ss ts) ≡ has_test_row ts n.test && has_slot ss n.kind n.of
has_used ss [] n = refl
has_used ss (t ∷ ts) n =
    has_node_among n (nodes_at ss t.id) (used_in ss ts)
    ∙ ap (λ (b : Bool). b || has_node n (used_in ss ts)) (has_node_at ss t.id n)
    ∙ ap (λ (b : Bool). ((n.test == t.id) && has_slot ss n.kind n.of) || b) (has_used ss ts n)
    ∙ or_and (n.test == t.id) (has_test_row ts n.test) (has_slot ss n.kind n.of)

-- ---- for the calls

pub row_count : (ts : List TestRow) (id : ℕ) (t : TestRow) (n : ℕ) → Some t ≡ row_of ts id
    → n ≡ length t.threads.items → n + 2 ≡ length (space_keys ts id)
row_count ts id t n is e =
    ap (λ (k : ℕ). k + 2) e ∙ sym (length-space_parts t)
    ∙ ap (λ (o : Option TestRow). length (row_parts o)) is

pub row_keys : (ts : List TestRow) (id : ℕ) (t : TestRow) → Some t ≡ row_of ts id
    → space_keys ts id ≡ space_parts t
row_keys ts id t is = ap row_parts (sym is)

pub part_of_thread : (t : TestRow) (i : ℕ) → (i ≡ 0 → ⊥) → i ≤ length t.threads.items
    → slice_get (space_parts t) i ≡ Some (Part (6 + (i - 1)) t.id)
part_of_thread t zero some le = absurd (some refl)
part_of_thread t (suc j) some le =
    let lt : j < length t.threads.items = omega arith in
    let e : suc j - 1 ≡ j = omega arith in
    rw e (get_left (thread_parts t.id 6 t.threads.items) (Part 4 t.id ∷ []) j
    (rw (length-thread_parts t.id 6 t.threads.items) lt)
    ∙ thread_part t.id 6 t.threads.items j lt)

pub part_of_locations : (t : TestRow) (i : ℕ) → i < length (space_parts t)
    → length t.threads.items < i → slice_get (space_parts t) i ≡ Some (Part 4 t.id)
part_of_locations t i lt gt =
    let many = length-space_parts t in
    let e : i ≡ suc (length t.threads.items + 0) = omega (arith, lt, gt, many) in
    ap (λ (k : ℕ). slice_get (space_parts t) k) (e
    ∙ ap (λ (k : ℕ). suc (k + 0)) (sym (length-thread_parts t.id 6 t.threads.items)))
    ∙ get_right (thread_parts t.id 6 t.threads.items) (Part 4 t.id ∷ []) 0

pub some_slots : (ss : List Slot) (ts : List TestRow) (i : ℕ) → i < length (used_in ss ts)
    → 0 < length ss
some_slots [] ts i lt = absurd (let e = none ts in omega (arith, lt, e))
  where
    none : (ts : List TestRow) → length (used_in [] ts) ≡ 0
    none [] = refl
    none (t ∷ ts) = none ts
some_slots (s ∷ ss) ts i lt = omega arith

pub test_within : (ss : List Slot) (ts : List TestRow) (i : ℕ) → i < length (used_in ss ts)
    → i / length ss < length ts
test_within ss ts i lt =
    (div-lt_iff_lt-mul (some_slots ss ts i lt)).1 (rw (length-used_in ss ts) at lt)

pub slot_within : (ss : List Slot) (ts : List TestRow) (i : ℕ) → i < length (used_in ss ts)
    → i % length ss < length ss
slot_within ss ts i lt = mod-lt i (some_slots ss ts i lt)

pub used_then : (ss : List Slot) (ts : List TestRow) (n : Node) (a b : Bool)
    → a ≡ has_test_row ts n.test → a ≡ true → b ≡ has_slot ss n.kind n.of
    → b ≡ has_node n (used_in ss ts)
used_then ss ts n a b is there also =
    also ∙ ap (λ (x : Bool). x && has_slot ss n.kind n.of) (sym there ∙ is) ∙ sym (has_used ss ts n)

pub used_else : (ss : List Slot) (ts : List TestRow) (n : Node) (a : Bool) → a ≡ has_test_row ts n.test
    → a ≡ false → a ≡ has_node n (used_in ss ts)
used_else ss ts n a is gone =
    gone ∙ ap (λ (x : Bool). x && has_slot ss n.kind n.of) (sym gone ∙ is) ∙ sym (has_used ss ts n)

pub used_many : (ss : List Slot) (ts : List TestRow) (a b : ℕ) → a ≡ length ts → b ≡ length ss
    → a * b ≡ length (used_in ss ts)
used_many ss ts a b is also =
    ap (λ (n : ℕ). n * b) is ∙ ap (λ (n : ℕ). length ts * n) also ∙ sym (length-used_in ss ts)
