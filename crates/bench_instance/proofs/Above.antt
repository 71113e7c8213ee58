-- The cells whose verdicts stand on a node are those of the node's test. Those of an item or of a
-- verdict are of one model.
use Rattle.std.proofs.Common.{◌≡◌, ℕ, zero, suc, ◌*◌, ◌+◌, ◌-◌, ◌<◌, ◌≤◌, ◌==◌, not, cond, List, [], ◌∷◌, ◌++◌, Option, Some, None, length, map}
use Rattle.std.proofs.Common.{refl, sym, ap, subst, ◌∙◌, ne_eqb, arith, inl, inr}
use Rattle.std.specs.Prelude.{slice_get}
use Rattle.std.specs.List.{position_or_len}
use Rattle.std.proofs.lemmas.Bool.{lt-ltb, le-ltb}
use Rattle.std.proofs.lemmas.Bool.Decides.{eqb_tells}
use Rattle.std.proofs.lemmas.Option.{none-some}
use Rattle.memo_core.specs.declared.keys.Kind.{Kind}
use Rattle.memo_core.specs.declared.keys.Kind.TheVariants as kinds
use Rattle.memo_core.specs.declared.keys.Node.{Node}
use Rattle.memo_core.specs.Graph.{input_nodes}
use Rattle.memo_core.specs.Step.{Has}
use Rattle.cells.specs.Cells.{StandsOn, StandsOnBy}
use Rattle.bench_nodes.specs.declared.table.ItemRow.{ItemRow}
use Rattle.bench_nodes.specs.declared.table.ModelRow.{ModelRow}
use Rattle.bench_nodes.specs.declared.table.NodeTable.{NodeTable}
use Rattle.bench_nodes.specs.declared.table.SlotKey.{SlotKey}
use Rattle.bench_nodes.specs.declared.table.SlotKey.TheVariants as slots
use Rattle.bench_nodes.specs.declared.table.TestRow.{TestRow}
use Rattle.bench_nodes.specs.Nodes.{keys_at, slot_keys, row_of, node_inputs}
use Rattle.bench_slots.specs.Tables.{ModelReading}
use Rattle.bench_texts.specs.declared.model.NamedModel.{NamedModel}
use Rattle.bench_texts.specs.declared.reading.Reading.{Reading}
use Rattle.bench_texts.specs.declared.reading.Reading.TheVariants as readings
use Rattle.bench_texts.specs.BenchTexts.{test_index, model_index}
use Rattle.bench_texts.specs.Held.{texts_of}
use Rattle.bench_text_laws.specs.Orderly.{AreApart}
use Rattle.bench_edits.specs.Kept.{IsKeptState, numbers_in}
use Rattle.bench_edits.specs.Left.{AreOrderlyParts}
use Rattle.bench_edits.specs.Owed.{item_numbers}
use Rattle.bench_edits.specs.Readings.{reading_by, reading_of, readings_of}
use Rattle.bench_edits.proofs.Kept.{id_of, parts_are_kept}
use Rattle.bench_edits.proofs.Lists.{has_at, has_map, apart_right, apart_cross}
use Rattle.bench_slots.proofs.Lists.{has_append, has_behind}
use Rattle.board.specs.declared.operation.BoardOp.{BoardOp}
use Rattle.board.specs.Contents.{BoardContent}
use Rattle.board.specs.Operations.{board_after}
use Rattle.desk_ledger.specs.Boards.{HoldsAbove, IsListedWithin}
use Rattle.bench_instance.specs.declared.stamped_texts.StampedTexts.{StampedTexts}
use Rattle.bench_instance.specs.StampedTexts.{AreSoundTexts, stamped_state, stamped_net, verdict_of}
use Rattle.bench_instance.specs.Above.{model_holding, IsModelAbove}
use Rattle.bench_instance.specs.Cells.{board_cells, IsRowRange}
use Rattle.bench_instance.specs.Lemmas.CellProofs.{IsCellIn, cell_in, orderly_parts}
use Rattle.bench_instance.specs.Lemmas.Laws.{cells_are_there, is_below}
use Rattle.bench_instance.specs.Texts.{AreAfter}
use Rattle.bench_instance.proofs.Members.{IsItemOf, IsNodeOf, row_nodes, number_is, stands_on_own}

-- ---- a node and what it stands on are of one test

key_test : (test : ℕ) (ks : List SlotKey) (n : Node) → Has (input_nodes (keys_at test ks)) n
    → n.test ≡ test
key_test test [] n h = absurd h
key_test test (slots.Test part ∷ ks) n h = key_test test ks n h
key_test test (slots.Item number ∷ ks) n h = key_test test ks n h
key_test test (slots.Fault id ∷ ks) n h = key_test test ks n h
key_test test (slots.Value kind of name ∷ ks) n h = elim h [
  | inl e ↦ sym (ap (λ (m : Node). m.test) e)
  | inr l ↦ key_test test ks n l
]

input_test : (t : NodeTable) (kind : Kind) (test of : ℕ) (n : Node)
    → Has (input_nodes (node_inputs t kind test of)) n → n.test ≡ test
input_test t kinds.Space test of n h = absurd (row_nodes (row_of t.tests.items test) n h)
input_test t kinds.Group test of n h = key_test test (slot_keys t.slots.items kinds.Group of) n h
input_test t kinds.Check test of n h = key_test test (slot_keys t.slots.items kinds.Check of) n h
input_test t kinds.Verdict test of n h =
    key_test test (slot_keys t.slots.items kinds.Verdict of) n h

stands_by : (t : StampedTexts) (d : ℕ) (n m : Node) → StandsOnBy d (stamped_net t) n m → m.test ≡ n.test
stands_by t zero n m e = sym (ap (λ (k : Node). k.test) e)
stands_by t (suc d) n m h =
    stands_by t d h.0 m h.2 ∙ input_test t.parts.table n.kind n.test n.of h.0 h.1

pub stands_in_test : (t : StampedTexts) (n m : Node) → StandsOn (stamped_net t) n m → m.test ≡ n.test
stands_in_test t n m h = stands_by t h.0 n m h.1

-- ---- where numbers stand

-- what alone has a number stands where the number is found first
pub only_place : {A : Type 0} (f : A → ℕ) (xs : List A) (i : ℕ) (x : A) (number : ℕ)
    → AreApart (map f xs) → slice_get xs i ≡ Some x → f x ≡ number
    → position_or_len (λ (y : A). f y == number) xs ≡ i
only_place f [] i x number apart e n = absurd (none-some x e)
only_place f (y ∷ ys) zero x number apart e n =
    let same : y ≡ x = cc in
    elim (eqb_tells (f y) number) [
      | inl t ↦ rw t.0 refl
      | inr o ↦ absurd (o.1 (ap f same ∙ n))
    ]
only_place f (y ∷ ys) (suc i) x number apart e n = elim (eqb_tells (f y) number) [
  | inl t ↦ absurd (apart.0 (subst (Has (map f ys)) (n ∙ sym t.1)
      (has_map f ys x (has_at ys i x e))))
  | inr o ↦ rw o.0 (let rest = only_place f ys i x number apart.1 e n in omega (arith, rest))
]

-- where a number stands first
abbrev place : ℕ → List ℕ → ℕ
place number ns = position_or_len (λ (n : ℕ). n == number) ns

rows_place : (rows : List ItemRow) (number : ℕ)
    → position_or_len (λ (i : ItemRow). i.number == number) rows
    ≡ place number (map (λ (i : ItemRow). i.number) rows)
rows_place [] number = refl
rows_place (r ∷ rs) number =
    ap (λ (n : ℕ). cond (not (r.number == number)) (1 + n) 0) (rows_place rs number)

-- a number that is among the first ones stands among them
place_within : (xs ys : List ℕ) (n : ℕ) → Has xs n → place n (xs ++ ys) < length xs
place_within [] ys n h = absurd h
place_within (x ∷ xs) ys n h = elim (eqb_tells x n) [
  | inl t ↦ rw t.0 (omega arith)
  | inr o ↦ rw o.0 (
      let rest = place_within xs ys n (elim h [ inl e ↦ absurd (o.1 e) | inr g ↦ g ]) in
      omega (arith, rest))
]

place_behind : (xs ys : List ℕ) (n : ℕ) → (Has xs n → ⊥)
    → place n (xs ++ ys) ≡ length xs + place n ys
place_behind [] ys n out = omega arith
place_behind (x ∷ xs) ys n out =
    rw (ne_eqb x n (λ e. out (inl e)))
    (let rest = place_behind xs ys n (λ h. out (inr h)) in omega (arith, rest))

-- ---- the model of an item

number_among : (ms : List NamedModel) (j : ℕ) (m : NamedModel) (n : ℕ) → slice_get ms j ≡ Some m
    → Has m.numbers.items n → Has (item_numbers ms) n
number_among [] j m n e h = absurd (none-some m e)
number_among (x ∷ xs) zero m n e h =
    let same : m ≡ x = cc in
    has_append x.numbers.items (item_numbers xs) n
    (subst (λ (y : NamedModel). Has y.numbers.items n) same h)
number_among (x ∷ xs) (suc j) m n e h =
    has_behind x.numbers.items (item_numbers xs) n (number_among xs j m n e h)

past_model : (x : NamedModel) (xs : List NamedModel) (k j : ℕ) → model_holding xs k ≡ j
    → model_holding (x ∷ xs) (length x.numbers.items + k) ≡ suc j
past_model x xs k j e =
    let left : (length x.numbers.items + k) - length x.numbers.items ≡ k = omega arith in
    let rest = ap (model_holding xs) left ∙ e in
    rw (le-ltb (length x.numbers.items + k) (length x.numbers.items) (omega arith))
    (omega (arith, rest))

-- the model of an item is the one that holds the place of its number
model_found : (ms : List NamedModel) (j : ℕ) (m : NamedModel) (n : ℕ) → AreApart (item_numbers ms)
    → slice_get ms j ≡ Some m → Has m.numbers.items n
    → model_holding ms (place n (item_numbers ms)) ≡ j
model_found [] j m n apart e h = absurd (none-some m e)
model_found (x ∷ xs) zero m n apart e h =
    let same : m ≡ x = cc in
    rw (lt-ltb (place n (item_numbers (x ∷ xs))) (length x.numbers.items)
    (place_within x.numbers.items (item_numbers xs) n
    (subst (λ (y : NamedModel). Has y.numbers.items n) same h))) refl
model_found (x ∷ xs) (suc j) m n apart e h =
    let later = number_among xs j m n e h in
    let rest = model_found xs j m n (apart_right x.numbers.items (item_numbers xs) apart) e h in
    ap (model_holding (x ∷ xs))
    (place_behind x.numbers.items (item_numbers xs) n
    (λ g. apart_cross x.numbers.items (item_numbers xs) n apart g later))
    ∙ past_model x xs (place n (item_numbers xs)) j rest

numbers_among : (id : ℕ) (ns : List ℕ) (r : Reading) (n : ℕ)
    → Has (numbers_in (reading_by id ns r)) n → Has ns n
numbers_among id ns (readings.Sound resolved used) n h = h
numbers_among id ns (readings.Faulty fault) n h = absurd h

-- ---- the model of a node

module _ (t : StampedTexts) (sound : AreSoundTexts t) (node : Node) (test model : List ℕ)
    (verdict : Node) (v : verdict_of t test model ≡ Some verdict)
    (stands : StandsOn (stamped_net t) verdict node) where
  abbrev models : List NamedModel
  models = t.texts.models.items

  abbrev rows : List ModelRow
  rows = t.parts.table.models.items

  abbrev index : ℕ
  index = model_index model (texts_of t.texts).models

  orderly : AreOrderlyParts t.parts t.texts.tests.items models
  orderly = orderly_parts t sound

  kept : IsKeptState (stamped_state t) (readings_of rows models)
  kept =
      parts_are_kept t.parts t.texts.tests.items models sound.parts_are sound.read
      orderly.items_apart

  cell : IsCellIn t test model verdict
  cell = cell_in t test model verdict sound v

  abbrev reading : ModelReading
  reading = reading_of cell.model_row cell.of_model

  id_is : IsNodeOf reading kinds.Verdict (cell.model_row).id
  id_is = id_of (cell.model_row).id (cell.of_model).numbers.items (cell.of_model).reading

  own : IsNodeOf reading node.kind node.of
  own =
      stands_on_own (stamped_state t) (readings_of rows models) kept reading cell.there stands.0
      verdict node (subst (λ (n : Node). IsNodeOf reading n.kind n.of) cell.node_is id_is) stands.1

  of_item : (kind : Kind) → IsItemOf reading kind node.of
      → index
      ≡ model_holding models (position_or_len (λ (i : ItemRow). i.number == node.of)
      t.parts.table.items.items)
  of_item kind is =
      let there = numbers_among (cell.model_row).id (cell.of_model).numbers.items (cell.of_model).reading node.of (number_is (stamped_state t) (readings_of rows models) kept reading cell.there kind node.of is) in
      let at = rows_place t.parts.table.items.items node.of ∙ ap (place node.of) (sound.parts_are).each_item in
      sym (ap (model_holding models) at
      ∙ model_found models index cell.of_model node.of orderly.items_apart cell.model_is there)

  of_kind : (kind : Kind) → node.kind ≡ kind → IsNodeOf reading kind node.of
  of_kind kind k = subst (λ (x : Kind). IsNodeOf reading x node.of) k own

  group_model : node.kind ≡ kinds.Group
      → index
      ≡ model_holding models (position_or_len (λ (i : ItemRow). i.number == node.of)
      t.parts.table.items.items)
  group_model k = of_item kinds.Group (of_kind kinds.Group k)

  check_model : node.kind ≡ kinds.Check
      → index
      ≡ model_holding models (position_or_len (λ (i : ItemRow). i.number == node.of)
      t.parts.table.items.items)
  check_model k = of_item kinds.Check (of_kind kinds.Check k)

  verdict_model : node.kind ≡ kinds.Verdict
      → index ≡ position_or_len (λ (m : ModelRow). m.id == node.of) rows
  verdict_model k =
      sym (only_place (λ (m : ModelRow). m.id) rows index cell.model_row node.of
      ((sound.parts_are).numbered).models_apart cell.model_row_is
      (sym id_is ∙ of_kind kinds.Verdict k))

pub group_above : (t : StampedTexts) (node : Node) (at : ℕ) → AreSoundTexts t
    → node.kind ≡ kinds.Group
    → at
    ≡ model_holding t.texts.models.items (position_or_len (λ (i : ItemRow). i.number == node.of)
    t.parts.table.items.items)
    → IsModelAbove t node at
group_above t node at sound k is =
    λ test model verdict v stands. group_model t sound node test model verdict v stands k ∙ sym is

pub check_above : (t : StampedTexts) (node : Node) (at : ℕ) → AreSoundTexts t
    → node.kind ≡ kinds.Check
    → at
    ≡ model_holding t.texts.models.items (position_or_len (λ (i : ItemRow). i.number == node.of)
    t.parts.table.items.items)
    → IsModelAbove t node at
check_above t node at sound k is =
    λ test model verdict v stands. check_model t sound node test model verdict v stands k ∙ sym is

pub verdict_above : (t : StampedTexts) (node : Node) (at : ℕ) → AreSoundTexts t
    → node.kind ≡ kinds.Verdict
    → at ≡ position_or_len (λ (m : ModelRow). m.id == node.of) t.parts.table.models.items
    → IsModelAbove t node at
verdict_above t node at sound k is =
    λ test model verdict v stands. verdict_model t sound node test model verdict v stands k ∙ sym is

-- ---- the cells of the row

module _ (t : StampedTexts) (all : List BoardOp) (id row first end : ℕ) (sound : AreSoundTexts t)
    (after : AreAfter t all)
    (row_is : row ≡ position_or_len (λ (x : TestRow). x.id == id) t.parts.table.tests.items) where
  abbrev b : BoardContent
  b = board_after all

  -- a cell of the test whose model is one of those that are wanted
  pub listed_by : (from wanted : ℕ)
      → IsRowRange (length (board_cells b)) (length b.columns) row from wanted first end
      → (test model : List ℕ) (verdict : Node)
      → verdict_of t test model ≡ Some verdict → verdict.test ≡ id
      → from ≤ model_index model (texts_of t.texts).models
      → model_index model (texts_of t.texts).models < from + wanted
      → IsListedWithin (board_cells b) first end test model
  listed_by from wanted range test model verdict v of_test low high =
      let i = test_index test (texts_of t.texts).tests in
      let j = model_index model (texts_of t.texts).models in
      let cell = cell_in t test model verdict sound v in
      let here = only_place (λ (x : TestRow). x.id) t.parts.table.tests.items i cell.row id ((sound.parts_are).numbered).tests_apart cell.row_is (ap (λ (n : Node). n.test) cell.node_is ∙ of_test) in
      let same : row ≡ i = row_is ∙ here in
      let k = cells_are_there t all test model verdict sound after v in
      let index = i * length b.columns + j in
      let there = is_below (board_cells b) index k.1.0 k.1.1 in
      let inside = range.all j low high (rw same there) in
      record {
        index = index;
        from_first = rw same at inside.0;
        before_end = rw same at inside.1;
        cell = k.1.0;
        there = k.1.1;
        test_is = k.1.2;
        model_is = k.1.3;
      }

  pub listed_row : IsRowRange (length (board_cells b)) (length b.columns) row 0 (length b.columns)
      first end → (test model : List ℕ) (verdict : Node)
      → verdict_of t test model ≡ Some verdict → verdict.test ≡ id
      → IsListedWithin (board_cells b) first end test model
  listed_row range test model verdict v of_test =
      let within = (cells_are_there t all test model verdict sound after v).0 in
      listed_by 0 (length b.columns) range test model verdict v of_test (omega arith)
      (omega (arith, within))

module _ (t : StampedTexts) (all : List BoardOp) (node : Node) (row first end : ℕ)
    (sound : AreSoundTexts t) (after : AreAfter t all)
    (row_is : row ≡ position_or_len (λ (x : TestRow). x.id == node.test) t.parts.table.tests.items)
  where
    pub holds_row : IsRowRange (length (board_cells (board_after all)))
        (length (board_after all).columns) row 0 (length (board_after all).columns) first end
        → HoldsAbove (stamped_net t) (verdict_of t) node (board_cells (board_after all)) first end
    holds_row range test model verdict v stands =
        listed_row t all node.test row first end sound after row_is range test model verdict v
        (sym (stands_in_test t verdict node stands))

    pub holds_cell : (at : ℕ) → IsModelAbove t node at
        → IsRowRange (length (board_cells (board_after all))) (length (board_after all).columns)
        row at 1 first end
        → HoldsAbove (stamped_net t) (verdict_of t) node (board_cells (board_after all)) first end
    holds_cell at alone range test model verdict v stands =
        let is = alone test model verdict v stands in
        listed_by t all node.test row first end sound after row_is at 1 range test model verdict v
        (sym (stands_in_test t verdict node stands)) (omega (arith, is)) (omega (arith, is))
