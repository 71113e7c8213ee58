-- Each slot of a table of models stands behind those that it uses.
use Rattle.std.proofs.Common.{◌≡◌, ℕ, ◌<◌, inl, inr, Bool, true, false, ◌==◌, ◌&&◌, ◌||◌, List, [], ◌∷◌, ◌++◌, map, Option, Some, None, slice_get, refl, ap, sym, subst, ◌∙◌, eq-eqb, arith}
use Rattle.std.specs.Bool.{⊤}
use Rattle.std.specs.List.{AllByRecursion as Each, flat_map}
use Rattle.std.proofs.lemmas.Bool.{cases_Bool, or_right}
use Rattle.memo_core.specs.declared.keys.Kind.{Kind}
use Rattle.memo_core.specs.declared.keys.Kind.TheVariants as kinds
use Rattle.memo_core.specs.Names.{kind_number}
use Rattle.memo_core.specs.Step.{Has}
use Rattle.binding_kinds.specs.declared.scope.Input.{Input}
use Rattle.binding_graph.specs.declared.resolved.ResolvedItem.{ResolvedItem}
use Rattle.binding_graph.specs.declared.resolved.Role.{Role}
use Rattle.binding_graph.specs.declared.resolved.Role.TheVariants as roles
use Rattle.bench_nodes.specs.declared.table.NodeTable.{NodeTable}
use Rattle.bench_nodes.specs.declared.table.Slot.{Slot}
use Rattle.bench_nodes.specs.declared.table.SlotKey.{SlotKey}
use Rattle.bench_nodes.specs.declared.table.SlotKey.TheVariants as slots
use Rattle.bench_nodes.specs.Nodes.{is_slot, has_slot}
use Rattle.bench_nodes.specs.Order.{IsOfEarlierSlot, AreOrderedAfter, IsTableOrdered}
use Rattle.bench_slots.proofs.Lists.{each_append}
use Rattle.bench_items.specs.Naming.{SeenName}
use Rattle.bench_slots.specs.Slots.{PlainSlot, plain, number_at, function_key, name_key, space_key, item_keys, slots_of, item_slots, used_slots, flag_key, answer_key, key_by, keys_by, verdict_keys, sound_slots}
use Rattle.bench_slots.specs.Tables.{ModelReading, Sound, Faulty, name_count, IsNameOf, UsesNames, AreOrderedItems, IsOrderedModel, space_slot, space_slots, slots_in, all_slots}

-- ---- plain slots

abbrev pub is_plain : Kind → ℕ → PlainSlot → Bool
is_plain kind of s = (kind_number kind == kind_number s.kind) && (of == s.of)

abbrev pub has_plain : List PlainSlot → Kind → ℕ → Bool
has_plain [] kind of = false
has_plain (s ∷ ss) kind of = is_plain kind of s || has_plain ss kind of

abbrev IsPlainBehind : List PlainSlot → SlotKey → Type 0
IsPlainBehind before (slots.Test part) = ⊤
IsPlainBehind before (slots.Item number) = ⊤
IsPlainBehind before (slots.Fault id) = ⊤
IsPlainBehind before (slots.Value kind of name) = has_plain before kind of ≡ true

abbrev ArePlainOrdered : List PlainSlot → List PlainSlot → Type 0
ArePlainOrdered before [] = ⊤
ArePlainOrdered before (s ∷ ss) =
    Each (IsPlainBehind before) s.inputs × ArePlainOrdered (s ∷ before) ss

pub has_slot_plain : (ss : List Slot) (kind : Kind) (of : ℕ)
    → has_slot ss kind of ≡ has_plain (map plain ss) kind of
has_slot_plain [] kind of = refl
has_slot_plain (s ∷ ss) kind of =
    ap (λ (b : Bool). is_slot kind of s || b) (has_slot_plain ss kind of)

keys_behind : (before : List Slot) (ks : List SlotKey) → Each (IsPlainBehind (map plain before)) ks
    → Each (IsOfEarlierSlot before) ks
keys_behind before [] h = tt
keys_behind before (slots.Test part ∷ ks) h = (tt, keys_behind before ks h.1)
keys_behind before (slots.Item number ∷ ks) h = (tt, keys_behind before ks h.1)
keys_behind before (slots.Fault id ∷ ks) h = (tt, keys_behind before ks h.1)
keys_behind before (slots.Value kind of name ∷ ks) h =
    (has_slot_plain before kind of ∙ h.0, keys_behind before ks h.1)

ordered_slots : (before ss : List Slot) → ArePlainOrdered (map plain before) (map plain ss)
    → AreOrderedAfter before ss
ordered_slots before [] h = tt
ordered_slots before (s ∷ ss) h =
    (keys_behind before s.inputs.items h.0, ordered_slots (s ∷ before) ss h.1)

-- ---- lists

pub has_left : (xs ys : List PlainSlot) (kind : Kind) (of : ℕ) → has_plain xs kind of ≡ true
    → has_plain (xs ++ ys) kind of ≡ true
has_left [] ys kind of h = cc
has_left (x ∷ xs) ys kind of h = elim (cases_Bool (is_plain kind of x)) [
  | inl e ↦ rw e refl
  | inr f ↦ rw f (has_left xs ys kind of (rw f at h))
]

pub has_right : (xs ys : List PlainSlot) (kind : Kind) (of : ℕ) → has_plain ys kind of ≡ true
    → has_plain (xs ++ ys) kind of ≡ true
has_right [] ys kind of h = h
has_right (x ∷ xs) ys kind of h =
    or_right (is_plain kind of x) (has_plain (xs ++ ys) kind of) (has_right xs ys kind of h)

-- slots after others, the latest first
abbrev onto : List PlainSlot → List PlainSlot → List PlainSlot
onto [] before = before
onto (s ∷ ss) before = onto ss (s ∷ before)

onto_keeps : (ss before : List PlainSlot) (kind : Kind) (of : ℕ) → has_plain before kind of ≡ true
    → has_plain (onto ss before) kind of ≡ true
onto_keeps [] before kind of h = h
onto_keeps (s ∷ ss) before kind of h =
    onto_keeps ss (s ∷ before) kind of (or_right (is_plain kind of s) (has_plain before kind of) h)

onto_has : (ss before : List PlainSlot) (kind : Kind) (of : ℕ) → has_plain ss kind of ≡ true
    → has_plain (onto ss before) kind of ≡ true
onto_has [] before kind of h = cc
onto_has (s ∷ ss) before kind of h = elim (cases_Bool (is_plain kind of s)) [
  | inl e ↦ onto_keeps ss (s ∷ before) kind of (rw e refl)
  | inr f ↦ onto_has ss (s ∷ before) kind of (rw f at h)
]

ordered_append : (before xs ys : List PlainSlot) → ArePlainOrdered before xs
    → ArePlainOrdered (onto xs before) ys → ArePlainOrdered before (xs ++ ys)
ordered_append before [] ys h g = g
ordered_append before (x ∷ xs) ys h g = (h.0, ordered_append (x ∷ before) xs ys h.1 g)

-- ---- items

module _ (histories : ℕ → List SeenName) (numbers : List ℕ) (items : List ResolvedItem) where
  -- the groups among some items have slots
  abbrev HasGroups : List ℕ → List PlainSlot → Type 0
  HasGroups indexes before =
      (i p : ℕ) (r : ResolvedItem) → Has indexes i → slice_get items i ≡ Some r
      → p < name_count r.role → has_plain before kinds.Group (number_at numbers i) ≡ true

  functions_behind : (before : List PlainSlot) (fs : List ℕ)
      → Each (IsPlainBehind before) (map (function_key numbers) fs)
  functions_behind before [] = tt
  functions_behind before (f ∷ fs) = (tt, functions_behind before fs)

  names_behind : (before : List PlainSlot) (indexes : List ℕ) (names : List Input)
      → HasGroups indexes before → Each (λ name. Has indexes name.item × IsNameOf items name) names
      → Each (IsPlainBehind before) (map (name_key histories numbers items) names)
  names_behind before indexes [] groups h = tt
  names_behind before indexes (n ∷ ns) groups h = (
    groups n.item n.position h.0.1.0 h.0.0 h.0.1.1 h.0.1.2,
    names_behind before indexes ns groups h.1,
  )

  item_behind : (before : List PlainSlot) (indexes : List ℕ) (own : ℕ) (r : ResolvedItem)
      → has_plain before kinds.Space 0 ≡ true → HasGroups indexes before
      → Each (λ name. Has indexes name.item × IsNameOf items name) r.inputs.items
      → Each (IsPlainBehind before) (item_keys histories numbers items own r)
  item_behind before indexes own r space groups h =
      each_append (IsPlainBehind before)
      (slots.Item own ∷ map (function_key numbers) r.functions.items)
      (space_key ∷ map (name_key histories numbers items) r.inputs.items)
      (tt, functions_behind before r.functions.items)
      (space, names_behind before indexes r.inputs.items groups h)

  role_ordered : (before : List PlainSlot) (own : ℕ) (role : Role) (keys : List SlotKey)
      → Each (IsPlainBehind before) keys → ArePlainOrdered before (slots_of role own keys)
  role_ordered before own (roles.Group recursive bodies) keys h = (h, tt)
  role_ordered before own (roles.Check check) keys h = (h, tt)
  role_ordered before own roles.Silent keys h = tt

  item_ordered : (before : List PlainSlot) (indexes : List ℕ) (own : ℕ) (o : Option ResolvedItem)
      → has_plain before kinds.Space 0 ≡ true → HasGroups indexes before → UsesNames items indexes o
      → ArePlainOrdered before (item_slots histories numbers items own o)
  item_ordered before indexes own None space groups h = tt
  item_ordered before indexes own (Some r) space groups h =
      role_ordered before own r.role (item_keys histories numbers items own r)
      (item_behind before indexes own r space groups h)

  own_group : (own p : ℕ) (role : Role) (keys : List SlotKey) → p < name_count role
      → has_plain (slots_of role own keys) kinds.Group own ≡ true
  own_group own p (roles.Group recursive bodies) keys lt = rw (eq-eqb own own refl) refl
  own_group own p (roles.Check check) keys lt = absurd (omega (arith, lt))
  own_group own p roles.Silent keys lt = absurd (omega (arith, lt))

  groups_more : (before : List PlainSlot) (indexes : List ℕ) (i : ℕ) → HasGroups indexes before
      → HasGroups (i ∷ indexes) (onto
      (item_slots histories numbers items (number_at numbers i) (slice_get items i)) before)
  groups_more before indexes i groups j p r (inl e) at lt =
      onto_has (item_slots histories numbers items (number_at numbers i) (slice_get items i)) before
      kinds.Group (number_at numbers j)
      (subst
      (λ (k : ℕ). has_plain
      (item_slots histories numbers items (number_at numbers i) (slice_get items i))
      kinds.Group (number_at numbers k) ≡ true) e
      (let found : slice_get items i ≡ Some r = ap (slice_get items) e ∙ at in
      rw found (own_group (number_at numbers i) p r.role
      (item_keys histories numbers items (number_at numbers i) r) lt)))
  groups_more before indexes i groups j p r (inr h) at lt =
      onto_keeps (item_slots histories numbers items (number_at numbers i) (slice_get items i))
      before kinds.Group (number_at numbers j) (groups j p r h at lt)

  used_ordered : (before : List PlainSlot) (indexes is : List ℕ)
      → has_plain before kinds.Space 0 ≡ true → HasGroups indexes before
      → AreOrderedItems items indexes is
      → ArePlainOrdered before (used_slots histories numbers items is)
  used_ordered before indexes [] space groups h = tt
  used_ordered before indexes (i ∷ is) space groups h =
      ordered_append before
      (item_slots histories numbers items (number_at numbers i) (slice_get items i))
      (used_slots histories numbers items is)
      (item_ordered before indexes (number_at numbers i) (slice_get items i) space groups h.0)
      (used_ordered
      (onto (item_slots histories numbers items (number_at numbers i) (slice_get items i))
      before)
      (i ∷ indexes) is
      (onto_keeps (item_slots histories numbers items (number_at numbers i) (slice_get items i))
      before kinds.Space 0 space)
      (groups_more before indexes i groups) h.1)

  -- ---- the verdict

  flag_behind : (before : List PlainSlot) (own : ℕ) (role : Role)
      → Each (IsPlainBehind before) (flag_key role own)
  flag_behind before own (roles.Group recursive bodies) = tt
  flag_behind before own (roles.Check check) = by_flag check.flag refl
    where
      by_flag : (flag : Option (List ℕ)) → check.flag ≡ flag
          → Each (IsPlainBehind before) (flag_key (roles.Check check) own)
      by_flag None e = rw e tt
      by_flag (Some name) e = rw e (tt, tt)
  flag_behind before own roles.Silent = tt

  flag_at_behind : (before : List PlainSlot) (own : ℕ) (o : Option ResolvedItem)
      → Each (IsPlainBehind before) (key_by flag_key own o)
  flag_at_behind before own None = tt
  flag_at_behind before own (Some r) = flag_behind before own r.role

  flags_behind : (before : List PlainSlot) (is : List ℕ)
      → Each (IsPlainBehind before) (keys_by flag_key numbers items is)
  flags_behind before [] = tt
  flags_behind before (i ∷ is) =
      each_append (IsPlainBehind before) (key_by flag_key (number_at numbers i) (slice_get items i))
      (keys_by flag_key numbers items is)
      (flag_at_behind before (number_at numbers i) (slice_get items i)) (flags_behind before is)

  answer_behind : (before : List PlainSlot) (own : ℕ) (role : Role) (keys : List SlotKey)
      → ((kind : Kind) (of : ℕ) → has_plain (slots_of role own keys) kind of ≡ true
      → has_plain before kind of ≡ true) → Each (IsPlainBehind before) (answer_key role own)
  answer_behind before own (roles.Group recursive bodies) keys h = tt
  answer_behind before own (roles.Check check) keys h =
      (h kinds.Check own (rw (eq-eqb own own refl) refl), tt)
  answer_behind before own roles.Silent keys h = tt

  answer_at_behind : (before : List PlainSlot) (own : ℕ) (o : Option ResolvedItem)
      → ((kind : Kind) (of : ℕ)
      → has_plain (item_slots histories numbers items own o) kind of ≡ true
      → has_plain before kind of ≡ true)
      → Each (IsPlainBehind before) (key_by answer_key own o)
  answer_at_behind before own None h = tt
  answer_at_behind before own (Some r) h =
      answer_behind before own r.role (item_keys histories numbers items own r) h

  answers_behind : (before : List PlainSlot) (is : List ℕ)
      → ((kind : Kind) (of : ℕ) → has_plain (used_slots histories numbers items is) kind of ≡ true
      → has_plain before kind of ≡ true)
      → Each (IsPlainBehind before) (keys_by answer_key numbers items is)
  answers_behind before [] h = tt
  answers_behind before (i ∷ is) h =
      each_append (IsPlainBehind before)
      (key_by answer_key (number_at numbers i) (slice_get items i))
      (keys_by answer_key numbers items is)
      (answer_at_behind before (number_at numbers i) (slice_get items i) (λ kind of has. h kind of
      (has_left
      (item_slots histories numbers items (number_at numbers i) (slice_get items i))
      (used_slots histories numbers items is) kind of has)))
      (answers_behind before is (λ kind of has. h kind of (has_right
      (item_slots histories numbers items (number_at numbers i) (slice_get items i))
      (used_slots histories numbers items is) kind of has)))

  verdict_behind : (before : List PlainSlot) (used : List ℕ) → has_plain before kinds.Space 0 ≡ true
      → ((kind : Kind) (of : ℕ) → has_plain (used_slots histories numbers items used) kind of ≡ true
      → has_plain before kind of ≡ true)
      → Each (IsPlainBehind before) (verdict_keys numbers items used)
  verdict_behind before used space h =
      each_append (IsPlainBehind before)
      (slots.Test 2 ∷ slots.Test 3 ∷ keys_by flag_key numbers items used)
      (space_key ∷ keys_by answer_key numbers items used)
      (tt, (tt, flags_behind before used))
      (space, answers_behind before used h)

  no_groups : (before : List PlainSlot) → HasGroups [] before
  no_groups before i p r h at lt = absurd h

  sound_ordered : (before : List PlainSlot) (id : ℕ) (used : List ℕ)
      → has_plain before kinds.Space 0 ≡ true → AreOrderedItems items [] used
      → ArePlainOrdered before (sound_slots histories id numbers items used)
  sound_ordered before id used space h =
      let verdict : PlainSlot = record { kind = kinds.Verdict; of = id; inputs = verdict_keys numbers items used } in
      ordered_append before (used_slots histories numbers items used) (verdict ∷ [])
      (used_ordered before [] used space (no_groups before) h) (
        verdict_behind (onto (used_slots histories numbers items used) before) used
            (onto_keeps (used_slots histories numbers items used) before kinds.Space 0 space)
            (onto_has (used_slots histories numbers items used) before),
        tt,
      )

-- ---- models

abbrev NeedsSpace : List PlainSlot → ModelReading → Type 0
NeedsSpace before (Sound id numbers items used) = has_plain before kinds.Space 0 ≡ true
NeedsSpace before (Faulty id fault) = ⊤

model_ordered : (histories : ℕ → List SeenName) (before : List PlainSlot) (m : ModelReading)
    → NeedsSpace before m → IsOrderedModel m → ArePlainOrdered before (slots_in histories m)
model_ordered histories before (Sound id numbers items used) space h =
    sound_ordered histories numbers items before id used space h
model_ordered histories before (Faulty id fault) space h = ((tt, (tt, tt)), tt)

need_kept : (ss before : List PlainSlot) (m : ModelReading) → NeedsSpace before m
    → NeedsSpace (onto ss before) m
need_kept ss before (Sound id numbers items used) h = onto_keeps ss before kinds.Space 0 h
need_kept ss before (Faulty id fault) h = tt

needs_kept : (ss before : List PlainSlot) (ms : List ModelReading) → Each (NeedsSpace before) ms
    → Each (NeedsSpace (onto ss before)) ms
needs_kept ss before [] h = tt
needs_kept ss before (m ∷ ms) h = (need_kept ss before m h.0, needs_kept ss before ms h.1)

models_ordered : (histories : ℕ → List SeenName) (before : List PlainSlot) (ms : List ModelReading)
    → Each (NeedsSpace before) ms → Each IsOrderedModel ms
    → ArePlainOrdered before (flat_map (slots_in histories) ms)
models_ordered histories before [] space h = tt
models_ordered histories before (m ∷ ms) space h =
    ordered_append before (slots_in histories m) (flat_map (slots_in histories) ms)
    (model_ordered histories before m space.0 h.0)
    (models_ordered histories (onto (slots_in histories m) before) ms
    (needs_kept (slots_in histories m) before ms space.1) h.1)

with_space : (ms : List ModelReading) → Each (NeedsSpace (space_slot ∷ [])) ms
with_space [] = tt
with_space (Sound id numbers items used ∷ ms) = (refl, with_space ms)
with_space (Faulty id fault ∷ ms) = (tt, with_space ms)

space_enough : (ms : List ModelReading) → Each (NeedsSpace (onto (space_slots ms) [])) ms
space_enough [] = tt
space_enough (Sound id numbers items used ∷ ms) = (refl, with_space ms)
space_enough (Faulty id fault ∷ ms) = (tt, space_enough ms)

space_ordered : (ms : List ModelReading) → ArePlainOrdered [] (space_slots ms)
space_ordered [] = tt
space_ordered (Sound id numbers items used ∷ ms) = (tt, tt)
space_ordered (Faulty id fault ∷ ms) = space_ordered ms

all_ordered : (histories : ℕ → List SeenName) (ms : List ModelReading) → Each IsOrderedModel ms
    → ArePlainOrdered [] (all_slots histories ms)
all_ordered histories ms h =
    ordered_append [] (space_slots ms) (flat_map (slots_in histories) ms) (space_ordered ms)
    (models_ordered histories (onto (space_slots ms) []) ms (space_enough ms) h)

pub table_ordered : (t : NodeTable) (histories : ℕ → List SeenName) (ms : List ModelReading)
    → map plain t.slots.items ≡ all_slots histories ms → Each IsOrderedModel ms → IsTableOrdered t
table_ordered t histories ms e h =
    ordered_slots [] t.slots.items (subst (ArePlainOrdered []) (sym e) (all_ordered histories ms h))
