-- The nodes that the verdict of a cell stands on are those of its test and its model.
use Rattle.std.proofs.Common.{◌≡◌, ◌<◌, ◌+◌, ℕ, zero, suc, inl, inr, List, [], ◌∷◌, ◌++◌, map, Option, Some, None, slice_get, refl, sym, ap, subst}
use Rattle.std.specs.List.{AllByRecursion as Each}
use Rattle.memo_core.specs.declared.keys.Kind.{Kind}
use Rattle.memo_core.specs.declared.keys.Kind.TheVariants as kinds
use Rattle.memo_core.specs.declared.keys.Key.{Key}
use Rattle.memo_core.specs.declared.keys.Node.{Node}
use Rattle.memo_core.specs.Graph.{input_nodes}
use Rattle.memo_core.specs.Step.{Has}
use Rattle.binding_kinds.specs.declared.scope.Input.{Input}
use Rattle.binding_graph.specs.declared.resolved.ResolvedItem.{ResolvedItem}
use Rattle.binding_graph.specs.declared.resolved.Role.{Role}
use Rattle.binding_graph.specs.declared.resolved.Role.TheVariants as roles
use Rattle.bench_nodes.specs.declared.table.Slot.{Slot}
use Rattle.bench_nodes.specs.declared.table.SlotKey.{SlotKey}
use Rattle.bench_nodes.specs.declared.table.SlotKey.TheVariants as slots
use Rattle.bench_nodes.specs.declared.table.TestRow.{TestRow}
use Rattle.bench_nodes.specs.Nodes.{keys_at, slot_keys, thread_parts, row_parts, row_of, node_inputs}
use Rattle.bench_items.specs.Naming.{SeenName}
use Rattle.bench_slots.specs.Slots.{number_at, function_key, name_key, space_key, item_keys, flag_key, answer_key, key_by, keys_by}
use Rattle.bench_slots.specs.Tables.{ModelReading, Sound, Faulty, IsNameOf}
use Rattle.bench_slots.proofs.Lists.{each_append, each_map, each_has, each_from_has, has_map}
use Rattle.bench_slots.specs.Closed.{NamesItem}
use Rattle.bench_slots.proofs.Reached.{name_reached}
use Rattle.bench_parts.specs.Contents.{PartsState, histories}
use Rattle.bench_parts.specs.States.{net_in}
use Rattle.cells.specs.Cells.{StandsOnBy}
use Rattle.bench_edits.specs.Kept.{IsKeptState, id_in, numbers_in}
use Rattle.bench_edits.proofs.Origin.{HasKind, verdict_inputs, number_there, index_within, item_keys_are, verdict_keys_are}
use Rattle.bench_edits.proofs.Standing.{named_kind, closed, reach}

-- ---- what a node is to a model

-- the number is that of an item which checks and flags reach, whose node has that kind
pub record IsUsedItem (numbers : List ℕ) (items : List ResolvedItem) (used : List ℕ) (kind : Kind)
    (of : ℕ) : Type 0 where
  pub index : ℕ
  pub item : ResolvedItem
  pub inside : Has used index
  pub found : slice_get items index ≡ Some item
  pub has_kind : HasKind item.role kind
  pub number : number_at numbers index ≡ of

abbrev pub IsItemOf : ModelReading → Kind → ℕ → Type 0
IsItemOf (Sound id numbers items used) kind of = IsUsedItem numbers items used kind of
IsItemOf (Faulty id fault) kind of = ⊥

-- the space, the node of an item of the model, or its verdict
abbrev pub IsNodeOf : ModelReading → Kind → ℕ → Type 0
IsNodeOf m kinds.Space of = Unit {0}
IsNodeOf m kinds.Group of = IsItemOf m kinds.Group of
IsNodeOf m kinds.Check of = IsItemOf m kinds.Check of
IsNodeOf m kinds.Verdict of = id_in m ≡ of

-- what is an output is one of such a node
abbrev IsKeyOf : ModelReading → SlotKey → Type 0
IsKeyOf m (slots.Test part) = Unit {0}
IsKeyOf m (slots.Item number) = Unit {0}
IsKeyOf m (slots.Fault id) = Unit {0}
IsKeyOf m (slots.Value kind of name) = IsNodeOf m kind of

node_of_key : (m : ModelReading) (test : ℕ) (ks : List SlotKey) (n : Node) → Each (IsKeyOf m) ks
    → Has (input_nodes (keys_at test ks)) n → IsNodeOf m n.kind n.of
node_of_key m test [] n each h = absurd h
node_of_key m test (slots.Test part ∷ ks) n each h = node_of_key m test ks n each.1 h
node_of_key m test (slots.Item number ∷ ks) n each h = node_of_key m test ks n each.1 h
node_of_key m test (slots.Fault id ∷ ks) n each h = node_of_key m test ks n each.1 h
node_of_key m test (slots.Value kind of name ∷ ks) n each h = elim h [
  | inl e ↦ subst (λ (k : Node). IsNodeOf m k.kind k.of) e each.0
  | inr later ↦ node_of_key m test ks n each.1 later
]

-- ---- the space of a test uses no node

thread_nodes : (id part : ℕ) (threads : List ℕ) (more : List Key) (n : Node)
    → Has (input_nodes (thread_parts id part threads ++ more)) n → Has (input_nodes more) n
thread_nodes id part [] more n h = h
thread_nodes id part (t ∷ ts) more n h = thread_nodes id (part + 1) ts more n h

pub row_nodes : (row : Option TestRow) (n : Node) → Has (input_nodes (row_parts row)) n → ⊥
row_nodes None n h = h
row_nodes (Some t) n h = thread_nodes t.id 6 t.threads.items _ n h

-- ---- the inputs of a verdict

flag_of : (m : ModelReading) (role : Role) (own : ℕ) → Each (IsKeyOf m) (flag_key role own)
flag_of m (roles.Group recursive bodies) own = tt
flag_of m (roles.Check check) own = by_flag check.flag refl
  where
    by_flag : (flag : Option (List ℕ)) → check.flag ≡ flag
        → Each (IsKeyOf m) (flag_key (roles.Check check) own)
    by_flag None e = rw e tt
    by_flag (Some name) e = rw e (tt, tt)
flag_of m roles.Silent own = tt

flag_by : (m : ModelReading) (own : ℕ) (o : Option ResolvedItem)
    → Each (IsKeyOf m) (key_by flag_key own o)
flag_by m own None = tt
flag_by m own (Some r) = flag_of m r.role own

flags_of : (m : ModelReading) (numbers : List ℕ) (items : List ResolvedItem) (is : List ℕ)
    → Each (IsKeyOf m) (keys_by flag_key numbers items is)
flags_of m numbers items [] = tt
flags_of m numbers items (i ∷ is) =
    each_append (IsKeyOf m) (key_by flag_key (number_at numbers i) (slice_get items i))
    (keys_by flag_key numbers items is) (flag_by m (number_at numbers i) (slice_get items i))
    (flags_of m numbers items is)

module _ (id : ℕ) (numbers : List ℕ) (items : List ResolvedItem) (used : List ℕ) where
  abbrev this : ModelReading
  this = Sound id numbers items used

  answer_of : (i : ℕ) → Has used i → (o : Option ResolvedItem) → slice_get items i ≡ o
      → Each (IsKeyOf this) (key_by answer_key (number_at numbers i) o)
  answer_of i inside None e = tt
  answer_of i inside (Some r) e = by_role r.role refl
    where
      by_role : (role : Role) → r.role ≡ role
          → Each (IsKeyOf this) (answer_key role (number_at numbers i))
      by_role (roles.Group recursive bodies) is = tt
      by_role (roles.Check check) is = (
        record {
          index = i;
          item = r;
          inside = inside;
          found = e;
          has_kind = subst (λ (role : Role). HasKind role kinds.Check) (sym is) refl;
          number = refl;
        },
        tt,
      )
      by_role roles.Silent is = tt

  answers_of : (is : List ℕ) → ((i : ℕ) → Has is i → Has used i)
      → Each (IsKeyOf this) (keys_by answer_key numbers items is)
  answers_of [] inside = tt
  answers_of (i ∷ is) inside =
      each_append (IsKeyOf this) (key_by answer_key (number_at numbers i) (slice_get items i))
      (keys_by answer_key numbers items is)
      (answer_of i (inside i (inl refl)) (slice_get items i) refl)
      (answers_of is (λ k h. inside k (inr h)))

keys_of_verdict : (m : ModelReading) → Each (IsKeyOf m) (verdict_inputs m)
keys_of_verdict (Sound id numbers items used) =
    each_append (IsKeyOf (Sound id numbers items used))
    (slots.Test 2 ∷ slots.Test 3 ∷ keys_by flag_key numbers items used)
    (space_key ∷ keys_by answer_key numbers items used)
    (tt, (tt, flags_of (Sound id numbers items used) numbers items used))
    (tt, answers_of id numbers items used used (λ i h. h))
keys_of_verdict (Faulty id fault) = (tt, (tt, tt))

-- ---- one step down

module _ (s : PartsState) (models : List ModelReading) (kept : IsKeptState s models) where
  abbrev ss : List Slot
  ss = s.parts.table.slots.items

  module _ (id : ℕ) (numbers : List ℕ) (items : List ResolvedItem) (used : List ℕ)
      (there : Has models (Sound id numbers items used)) where
    abbrev own : ModelReading
    own = Sound id numbers items used

    -- ---- the inputs of an item

    name_is : (i : ℕ) (r : ResolvedItem) (name : Input) → Has used i → slice_get items i ≡ Some r
        → Has r.inputs.items name → IsItemOf own kinds.Group (number_at numbers name.item)
    name_is i r name inside found h =
        let below = closed s models kept id numbers items used there in
        let is : IsNameOf items name = (each_has (λ (n : Input). (n.item < i) × IsNameOf items n) r.inputs.items (below i r found).names name h).1 in
        let named : NamesItem r name.item = has_map (λ (n : Input). n.item) r.inputs.items name h in
        record {
          index = name.item;
          item = is.0;
          inside =
              name_reached items used below (reach s models kept id numbers items used there) i r
              name inside found named is;
          found = is.1;
          has_kind = named_kind is.0.role name.position is.2;
          number = refl;
        }

    functions_of : (fs : List ℕ) → Each (IsKeyOf own) (map (function_key numbers) fs)
    functions_of [] = tt
    functions_of (f ∷ fs) = (tt, functions_of fs)

    keys_of_item : (i number : ℕ) (r : ResolvedItem) → Has used i → slice_get items i ≡ Some r
        → Each (IsKeyOf own) (item_keys (histories s) numbers items number r)
    keys_of_item i number r inside found = (
      tt,
      each_append (IsKeyOf own) (map (function_key numbers) r.functions.items)
          (space_key ∷ map (name_key (histories s) numbers items) r.inputs.items)
          (functions_of r.functions.items) (
            tt,
            each_map (name_key (histories s) numbers items) (IsKeyOf own) r.inputs.items
                (each_from_has (λ name. IsKeyOf own (name_key (histories s) numbers items name))
                r.inputs.items (λ name h. name_is i r name inside found h)),
          ),
    )

    slot_of_item : (kind : Kind) (of : ℕ) → IsItemOf own kind of
        → Each (IsKeyOf own) (slot_keys ss kind of)
    slot_of_item kind of is =
        subst (λ (n : ℕ). Each (IsKeyOf own) (slot_keys ss kind n)) is.number
        (subst (Each (IsKeyOf own))
        (sym (item_keys_are models kept.models_apart kept.read (histories s) ss kept.built.slots id
        numbers items used there is.index is.item kind is.inside is.found is.has_kind))
        (keys_of_item is.index (number_at numbers is.index) is.item is.inside is.found))

    number_of : (kind : Kind) (of : ℕ) → IsItemOf own kind of → Has numbers of
    number_of kind of is =
        subst (Has numbers) is.number
        (number_there numbers is.index (index_within models kept.models_apart kept.read id numbers
        items used there is.index is.inside))

  -- ---- by the kind of the node

  slot_is : (m : ModelReading) → Has models m → (kind : Kind) (of : ℕ) → IsItemOf m kind of
      → Each (IsKeyOf m) (slot_keys ss kind of)
  slot_is (Sound id numbers items used) there kind of is =
      slot_of_item id numbers items used there kind of is
  slot_is (Faulty id fault) there kind of is = absurd is

  -- the number of a node of an item is that of an item of the model
  pub number_is : (m : ModelReading) → Has models m → (kind : Kind) (of : ℕ) → IsItemOf m kind of
      → Has (numbers_in m) of
  number_is (Sound id numbers items used) there kind of is =
      number_of id numbers items used there kind of is
  number_is (Faulty id fault) there kind of is = absurd is

  one_step : (m : ModelReading) → Has models m → (kind : Kind) (test of : ℕ) → IsNodeOf m kind of
      → (n : Node) → Has (input_nodes (node_inputs s.parts.table kind test of)) n
      → IsNodeOf m n.kind n.of
  one_step m there kinds.Space test of is n h =
      absurd (row_nodes (row_of s.parts.table.tests.items test) n h)
  one_step m there kinds.Group test of is n h =
      node_of_key m test (slot_keys ss kinds.Group of) n (slot_is m there kinds.Group of is) h
  one_step m there kinds.Check test of is n h =
      node_of_key m test (slot_keys ss kinds.Check of) n (slot_is m there kinds.Check of is) h
  one_step m there kinds.Verdict test of is n h =
      node_of_key m test (slot_keys ss kinds.Verdict of) n
      (subst (λ (k : ℕ). Each (IsKeyOf m) (slot_keys ss kinds.Verdict k)) is
      (subst (Each (IsKeyOf m))
      (sym (verdict_keys_are models kept.models_apart kept.read (histories s) ss kept.built.slots m
      there))
      (keys_of_verdict m)))
      h

  pub stands_on_own : (m : ModelReading) → Has models m → (d : ℕ) (n k : Node)
      → IsNodeOf m n.kind n.of → StandsOnBy d (net_in s) n k → IsNodeOf m k.kind k.of
  stands_on_own m there zero n k is e = subst (λ (x : Node). IsNodeOf m x.kind x.of) e is
  stands_on_own m there (suc d) n k is h =
      stands_on_own m there d h.0 k (one_step m there n.kind n.test n.of is h.0 h.1) h.2
