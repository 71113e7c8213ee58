-- After an edit of one test the cells of the other tests are what they were.
use Rattle.std.proofs.Common.{◌≡◌, ℕ, zero, suc, ◌*◌, ◌+◌, ◌^◌, ◌<◌, ◌≤◌, ◌==◌, ◌&&◌, inl, inr, Bool, true, false, List, [], ◌∷◌, ◌++◌, length, map, Option, Some, None}
use Rattle.std.proofs.Common.{refl, sym, ap, subst, ◌∙◌, ne_eqb, eq-eqb, eqb-true, arith}
use Rattle.std.specs.Prelude.{slice_get, remove, fold, Contains, IsSome, IsTrue, Vec, nat_lt, if◌then◌else◌}
use Rattle.std.specs.Arc.{arc_value}
use Rattle.std.specs.List.{position_or_len}
use Rattle.std.specs.declared.alloc.Global.{Global}
use Rattle.std.proofs.lemmas.Bool.Decides.{eqb_tells}
use Rattle.std.proofs.lemmas.Option.{none-some, same_Some}
use Rattle.text_values.specs.declared.test.Test.{Test}
use Rattle.text_values.specs.TestValue.{Content, content_of}
use Rattle.outcome_states.specs.declared.answer.Outcome.{Outcome}
use Rattle.memo_core.specs.declared.keys.Node.{Node}
use Rattle.memo_core.specs.Lemmas.Equality.{and_true}
use Rattle.memo_core.specs.Step.{Has}
use Rattle.cells.specs.Cells.{StandsOn}
use Rattle.bench_nodes.specs.declared.places.SlotName.{SlotName}
use Rattle.bench_nodes.specs.declared.table.ModelRow.{ModelRow}
use Rattle.bench_nodes.specs.declared.table.TestRow.{TestRow}
use Rattle.bench_nodes.specs.Places.{node_named}
use Rattle.bench_nodes.specs.Touched.{rows_of, touched_slots, test_slots, nodes_named, nodes_of_tests, all_names}
use Rattle.bench_slots.proofs.Lists.{has_append, has_behind}
use Rattle.bench_parts.specs.Built.{AreTestRows}
use Rattle.bench_texts.specs.declared.edit.Edit.{Edit}
use Rattle.bench_texts.specs.declared.model.NamedModel.{NamedModel}
use Rattle.bench_texts.specs.declared.prepared.Prepared.{Prepared}
use Rattle.bench_texts.specs.declared.replacement.Replacement.{Replacement}
use Rattle.bench_texts.specs.declared.replacement.Replacement.TheVariants as made
use Rattle.bench_texts.specs.BenchTexts.{PlainModel, changed_at, put_at, test_index, model_index}
use Rattle.bench_texts.specs.Held.{texts_of, plain_model}
use Rattle.bench_texts.specs.Replacements.{tests_with, models_with}
use Rattle.bench_slices.specs.Reach.{cell_slice}
use Rattle.bench_text_laws.specs.Orderly.{AreApart}
use Rattle.bench_edits.specs.declared.edited.EditedParts.{EditedParts}
use Rattle.bench_edits.specs.declared.edited.EditedParts.TheVariants as edited
use Rattle.bench_edits.specs.declared.edited.ModelParts.{ModelParts}
use Rattle.bench_edits.specs.Edited.{ArePartsMade, Changes, PutsTest, DropsTest, PutsModels}
use Rattle.bench_edits.specs.Laws.{IsEdit}
use Rattle.bench_edits.specs.Touched.{dropped_nodes, rows_made, touched_nodes}
use Rattle.board.specs.declared.operation.BoardEdit.{BoardEdit}
use Rattle.board.specs.declared.operation.BoardOp.{BoardOp}
use Rattle.board.specs.declared.operation.BoardOp.TheVariants as ops
use Rattle.board.specs.declared.operation.CellIndex.{CellIndex}
use Rattle.board.specs.declared.operation.NameChange.{NameChange}
use Rattle.board.specs.declared.operation.NameChange.TheVariants as changes
use Rattle.board.specs.Contents.{RowContent, ColumnContent, BoardContent}
use Rattle.board.specs.Operations.{open_cell, open_row, renamed_row, rows_after, board_after}
use Rattle.board.specs.Legal.{TestsAndModels, texts_after, IsCellReached, ListsReached, Announces, MayFollow}
use Rattle.board.proofs.Lookups.{skip, get_removed, placed}
use Rattle.board.proofs.ShownNames.{same_name, below}
use Rattle.desk_ledger.specs.Boards.{IsSettledOn, IsCellLeft, LeavesCells}
use Rattle.bench_instance.specs.declared.stamped_texts.PreparedEdit.{PreparedEdit}
use Rattle.bench_instance.specs.declared.stamped_texts.StampedTexts.{StampedTexts}
use Rattle.bench_instance.specs.StampedTexts.{AreSoundTexts, stamped_net, verdict_by, verdict_of}
use Rattle.bench_instance.specs.Edited.{IsPrepared, IsCommitted}
use Rattle.bench_instance.specs.Above.{are_of_test, IsTouchedTest}
use Rattle.bench_instance.specs.Cells.{all_cells, board_cells, IsRowRange}
use Rattle.bench_instance.specs.Lemmas.CellProofs.{IsCellIn, cell_in, is_named, stands_there, tests_apart, models_apart}
use Rattle.bench_instance.specs.Lemmas.Commits.{commits_edit, parts_edited}
use Rattle.bench_instance.specs.Lemmas.Laws.{prepared_held, board_push, edits_after, cells_are_there, is_below}
use Rattle.bench_instance.specs.Lemmas.Listing.{outcome_at}
use Rattle.bench_instance.specs.Texts.{AreAfter, IsAnnounced}
use Rattle.bench_instance.proofs.Above.{stands_in_test, only_place, listed_row}
use Rattle.bench_instance.proofs.Indexes.{settled_here}
use Rattle.bench_instance.proofs.Posted.{located, of_all, shown_there}

-- ---- nodes of one test

all_of_test : (ns : List Node) (id : ℕ) → are_of_test ns id ≡ true → (n : Node) → Has ns n
    → n.test ≡ id
all_of_test [] id all n h = absurd h
all_of_test (x ∷ xs) id all n (inl e) =
    subst (λ (k : Node). k.test ≡ id) e
    (eqb-true x.test id (and_true (x.test == id) (are_of_test xs id) all).0)
all_of_test (x ∷ xs) id all n (inr h) =
    all_of_test xs id (and_true (x.test == id) (are_of_test xs id) all).1 n h

named_of_test : (test : ℕ) (names : List SlotName) (n : Node) → Has (nodes_named test names) n
    → n.test ≡ test
named_of_test test [] n h = absurd h
named_of_test test (x ∷ xs) n (inl e) = sym (ap (λ (k : Node). k.test) e)
named_of_test test (x ∷ xs) n (inr h) = named_of_test test xs n h

name_there : (names : List SlotName) (tests : List TestRow) (n : Node)
    → Has (nodes_of_tests names tests) n → (x : SlotName) × Has names x
name_there [] [] n h = absurd h
name_there [] (t ∷ ts) n h = name_there [] ts n h
name_there (x ∷ xs) tests n h = (x, inl refl)

node_of_name : (test : ℕ) (names : List SlotName) (x : SlotName) → Has names x
    → Has (nodes_named test names) (node_named test x)
node_of_name test [] x h = absurd h
node_of_name test (y ∷ ys) x (inl e) = inl (ap (node_named test) e)
node_of_name test (y ∷ ys) x (inr h) = inr (node_of_name test ys x h)

node_there : (names : List SlotName) (tests : List TestRow) (x : SlotName) → Has names x → (i : ℕ)
    (r : TestRow) → slice_get tests i ≡ Some r
    → Has (nodes_of_tests names tests) (node_named r.id x)
node_there names [] x h i r e = absurd (none-some r e)
node_there names (t ∷ ts) x h zero r e =
    let same : t ≡ r = cc in
    has_append (nodes_named t.id names) (nodes_of_tests names ts) (node_named r.id x)
    (subst (λ (q : TestRow). Has (nodes_named t.id names) (node_named q.id x)) same
    (node_of_name t.id names x h))
node_there names (t ∷ ts) x h (suc i) r e =
    has_behind (nodes_named t.id names) (nodes_of_tests names ts) (node_named r.id x)
    (node_there names ts x h i r e)

some_node : (ns : List Node) → 0 < length ns → (n : Node) × Has ns n
some_node [] lt = absurd (omega (arith, lt))
some_node (n ∷ ns) lt = (n, inl refl)

-- ---- lists with an element that was put or removed

past_put : {A : Type 0} (x : A) (at : ℕ) (xs : List A) (k : ℕ) → at ≤ length xs → (k ≡ at → ⊥)
    → slice_get (put_at at x xs) k ≡ slice_get xs k
past_put x at xs k le other =
    placed x at xs k le
    ∙ ap (λ (b : Bool). if b then Some x else slice_get xs k) (ne_eqb k at other)

at_put : {A : Type 0} (x : A) (at : ℕ) (xs : List A) → at ≤ length xs
    → slice_get (put_at at x xs) at ≡ Some x
at_put x at xs le =
    placed x at xs at le
    ∙ ap (λ (b : Bool). if b then Some x else slice_get xs at) (eq-eqb at at refl)

skip_past : (at k : ℕ) → skip at k ≡ at → ⊥
skip_past zero k e = absurd (omega (arith, e))
skip_past (suc at) zero e = absurd (omega (arith, e))
skip_past (suc at) (suc k) e = skip_past at k (omega (arith, e))

-- what has a number
record HasNumber (rows : List TestRow) (id : ℕ) : Type 0 where
  pub index : ℕ
  pub row : TestRow
  pub there : slice_get rows index ≡ Some row
  pub number : row.id ≡ id

found_number : (rows : List TestRow) (id : ℕ)
    → position_or_len (λ (r : TestRow). r.id == id) rows < length rows → HasNumber rows id
found_number [] id = λ lt. absurd (omega (arith, lt))
found_number (r ∷ rs) id = elim (eqb_tells r.id id) [
  | inl same ↦ λ lt. record { index = 0; row = r; there = refl; number = same.1 }
  | inr other ↦ rw other.0 (λ lt.
      let k = found_number rs id (omega (arith, lt)) in
      record { index = suc k.index; row = k.row; there = k.there; number = k.number })
]

-- a row that was removed was the only one of its number
none_left : (rows : List TestRow) (at : ℕ) (r : TestRow) (id : ℕ)
    → AreApart (map (λ (x : TestRow). x.id) rows) → slice_get rows at ≡ Some r → r.id ≡ id
    → position_or_len (λ (x : TestRow). x.id == id) (remove rows at) < length (remove rows at) → ⊥
none_left rows at r id apart there is lt =
    let k = found_number (remove rows at) id lt in
    let here = only_place (λ (x : TestRow). x.id) rows at r id apart there is in
    let again = only_place (λ (x : TestRow). x.id) rows (skip at k.index) k.row id apart (sym (get_removed rows at k.index) ∙ k.there) k.number in
    skip_past at k.index (sym again ∙ here)

row_for_each : (last : ℕ) (rs : List TestRow) (ts : List Test) (ls : List (Vec (List ℕ) Global))
    → AreTestRows last rs ts ls → length rs ≡ length ts
row_for_each last [] [] [] h = refl
row_for_each last [] [] (l ∷ ls) h = absurd h
row_for_each last [] (t ∷ ts) ls h = absurd h
row_for_each last (r ∷ rs) [] ls h = absurd h
row_for_each last (r ∷ rs) (t ∷ ts) [] h = absurd h
row_for_each last (r ∷ rs) (t ∷ ts) (l ∷ ls) h = ap suc (row_for_each last rs ts ls h.1)

-- ---- rows of a board

changed_other : {A : Type 0} (f : A → A) (j : ℕ) (xs : List A) (k : ℕ) → (j ≡ k → ⊥)
    → slice_get (changed_at j f xs) k ≡ slice_get xs k
changed_other f j [] k other = refl
changed_other f zero (y ∷ ys) zero other = absurd (other refl)
changed_other f zero (y ∷ ys) (suc k) other = refl
changed_other f (suc j) (y ∷ ys) zero other = refl
changed_other f (suc j) (y ∷ ys) (suc k) other = changed_other f j ys k (λ e. other (ap suc e))

-- cells of other rows are opened
opened_apart : (cells : List CellIndex) (rows : List RowContent) (i : ℕ)
    → ((c : CellIndex) → Contains cells c → c.test ≡ i → ⊥)
    → slice_get (fold open_cell rows cells) i ≡ slice_get rows i
opened_apart [] rows i out = refl
opened_apart (c ∷ cs) rows i out =
    opened_apart cs (open_cell rows c) i
    (λ d k. out d (suc k.0, (let lt = k.1 in omega (arith, lt)), k.2))
    ∙ changed_other _ c.test rows i (out c (0, omega arith, refl))

more_rows : (rows : List RowContent) (r : RowContent) (i : ℕ) → i < length rows
    → slice_get (rows ++ r ∷ []) i ≡ slice_get rows i
more_rows [] r i lt = absurd (omega (arith, lt))
more_rows (q ∷ rs) r zero lt = refl
more_rows (q ∷ rs) r (suc i) lt = more_rows rs r i (omega (arith, lt))

-- a row is put at another index
put_apart : (b : Bool) (name : List ℕ) (at : ℕ) (columns : List ColumnContent)
    (rows : List RowContent) (i : ℕ) → (at ≡ i → ⊥) → i < length rows
    → slice_get
    (if b then changed_at at (renamed_row name) rows else rows ++ open_row name columns ∷ []) i
    ≡ slice_get rows i
put_apart true name at columns rows i other lt = changed_other (renamed_row name) at rows i other
put_apart false name at columns rows i other lt = more_rows rows (open_row name columns) i lt

-- ---- what the operation of an edit of a test says

record IsPutAnnounced (h : TestsAndModels) (whole : Bool) (change : NameChange)
    (cells : List CellIndex) (at : ℕ) (new : Test) : Type 0 where
  pub index : ℕ
  pub name : List ℕ
  pub rows_are : (columns : List ColumnContent) (rows : List RowContent)
      → rows_after change columns rows
      ≡ (if nat_lt index (length rows) then changed_at index (renamed_row name) rows
      else rows ++ open_row name columns ∷ [])
  pub index_is : index ≡ at
  pub within : index ≤ length h.tests
  pub lists : ListsReached h whole (made.PutTest at new) cells

put_announced : (h : TestsAndModels) (whole : Bool) (change : NameChange) (cells : List CellIndex)
    (at : ℕ) (new : Test) → Announces h whole change cells (made.PutTest at new)
    → IsPutAnnounced h whole change cells at new
put_announced h whole (changes.PutTest index name) cells at new m = record {
  index = index;
  name = arc_value name;
  rows_are = λ columns rows. refl;
  index_is = m.0;
  within = m.1;
  lists = m.3;
}
put_announced h whole (changes.DropTest index) cells at new m = absurd m
put_announced h whole (changes.PutModel index name items) cells at new m = absurd m
put_announced h whole (changes.DropModel index) cells at new m = absurd m

-- it reaches no cell of another test
none_reached : (h : TestsAndModels) (whole : Bool) (at : ℕ) (new : Test) (i j : ℕ) → (i ≡ at → ⊥)
    → IsCellReached h whole (made.PutTest at new) i j → ⊥
none_reached h whole at new i j other reached =
    let differ : (i == at) ≡ false = ne_eqb i at other in
    elim reached [
      | inl put ↦ (
          let same : (whole && (i == at)) ≡ false = ap (λ (b : Bool). whole && b) differ ∙ never whole in
          not_so (whole && (i == at)) same put)
      | inr changed ↦ changed (sym (ap
          (λ (b : Bool).
          cell_slice (if b then Some new else slice_get h.tests i) (slice_get h.models j)) differ))
    ]
  where
    never : (b : Bool) → (b && false) ≡ false
    never true = refl
    never false = refl

    not_so : (b : Bool) → b ≡ false → IsTrue b → ⊥
    not_so true e t = cc
    not_so false e t = cc

-- ---- the cells of the other tests

module _ (t u w : StampedTexts) (e : Edit) (p : PreparedEdit) (number : ℕ) (b : BoardEdit)
    (all : List BoardOp) (sound : AreSoundTexts t) (after : AreAfter t all)
    (prepared : IsPrepared t e p u) (announced : IsAnnounced u p number (ops.Edit b))
    (put : IsCommitted u p number w) where
  abbrev later : List BoardOp
  later = all ++ ops.Edit b ∷ []

  abbrev old : BoardContent
  old = board_after all

  abbrev new : BoardContent
  new = board_after later

  abbrev held : TestsAndModels
  held = texts_after all

  now_sound : AreSoundTexts w
  now_sound = (commits_edit t u w e p number prepared put).sound sound

  now_after : AreAfter w later
  now_after = edits_after t u w e p number (ops.Edit b) all sound after prepared announced put

  is_edit : IsEdit t.parts t.texts.tests.items t.texts.models.items p.texts.replacement number
      p.parts w.parts
  is_edit = parts_edited t u w e p number prepared put sound

  tests_are : w.texts.tests.items ≡ tests_with p.texts.replacement t.texts.tests.items
  tests_are = put.tests ∙ ap (tests_with p.texts.replacement) (prepared.same).state.tests

  models_are : w.texts.models.items ≡ models_with p.texts.replacement t.texts.models.items
  models_are = put.models ∙ ap (models_with p.texts.replacement) (prepared.same).models

  touched_are : w.touched.items ≡ touched_nodes t.parts p.parts
  touched_are = ap (λ (v : Vec Node Global). v.items) put.touched ∙ prepared.touched

  announces : Announces held b.prepared.value.whole b.change b.reached.items p.texts.replacement
  announces =
      let same = prepared_held t u e p prepared ∙ after.held in
      let may : MayFollow held u.parts.last (ops.Edit b) = subst (λ (g : TestsAndModels). MayFollow g u.parts.last (ops.Edit b)) same (announced.2 u.parts.last put.later) in
      subst
      (λ (q : Prepared).
      Announces held b.prepared.value.whole b.change b.reached.items q.replacement)
      announced.1 may.1

  held_tests : held.tests ≡ t.texts.tests.items
  held_tests = ap (λ (g : TestsAndModels). g.tests) (sym after.held)

  held_models : held.models ≡ t.texts.models.items
  held_models = ap (λ (g : TestsAndModels). g.models) (sym after.held)

  module _ (id : ℕ) (touched : IsTouchedTest w id) (test model : List ℕ) (n : Node)
      (v : verdict_of w test model ≡ Some n) (other : n.test ≡ id → ⊥) where
    cell : IsCellIn w test model n
    cell = cell_in w test model n now_sound v

    abbrev i : ℕ
    i = test_index test (texts_of w.texts).tests

    abbrev j : ℕ
    j = model_index model (texts_of w.texts).models

    row_other : (cell.row).id ≡ id → ⊥
    row_other is = other (sym (ap (λ (k : Node). k.test) cell.node_is) ∙ is)

    touched_node : (k : Node) × Has w.touched.items k
    touched_node = some_node w.touched.items touched.some

    touched_test : (k : Node) → Has w.touched.items k → k.test ≡ id
    touched_test k there = all_of_test w.touched.items id touched.all k there

    apart : (k : Node) → Has w.touched.items k → StandsOn (stamped_net w) n k → ⊥
    apart k there stands = other (sym (stands_in_test w n k stands) ∙ touched_test k there)

    abbrev Left : Type 0
    Left =
        IsCellLeft (stamped_net w) (verdict_of t) w.touched.items (board_cells old)
        (board_cells new) test model n

    -- ---- where no test was put

    models_touch : (m : ModelParts) → p.parts ≡ edited.Models m → ⊥
    models_touch m is =
        let puts : PutsModels t.parts number m w.parts = subst (λ (x : EditedParts). Changes t.parts number x w.parts) is (is_edit.committed).changes in
        let names = touched_slots (rows_of t.parts.table) (rows_made m) in
        let nodes : w.touched.items ≡ nodes_of_tests names t.parts.table.tests.items = touched_are ∙ ap (touched_nodes t.parts) is in
        let name = name_there names t.parts.table.tests.items touched_node.0 (subst (λ (l : List Node). Has l touched_node.0) nodes touched_node.1) in
        let row = ap (λ (rs : List TestRow). slice_get rs i) (sym (puts.tests).rows) ∙ cell.row_is in
        let node = node_there names t.parts.table.tests.items name.0 name.1 i cell.row row in
        row_other (touched_test (node_named (cell.row).id name.0)
        (subst (λ (l : List Node). Has l (node_named (cell.row).id name.0)) (sym nodes) node))

    drop_touches : (at : ℕ) → p.parts ≡ edited.DropTest at → ⊥
    drop_touches at is =
        let drops : DropsTest t.parts at w.parts = subst (λ (x : EditedParts). Changes t.parts number x w.parts) is (is_edit.committed).changes in
        let nodes : w.touched.items ≡ dropped_nodes (slice_get t.parts.table.tests.items at) t.parts.table.slots.items = touched_are ∙ ap (touched_nodes t.parts) is in
        let there = subst (λ (l : List Node). Has l touched_node.0) nodes touched_node.1 in
        by_row at drops.rows (slice_get t.parts.table.tests.items at) refl there
      where
        by_row : (at : ℕ) → w.parts.table.tests.items ≡ remove t.parts.table.tests.items at
            → (r : Option TestRow) → slice_get t.parts.table.tests.items at ≡ r
            → Has (dropped_nodes r t.parts.table.slots.items) touched_node.0 → ⊥
        by_row at rows None e there = there
        by_row at rows (Some r) e there =
            none_left t.parts.table.tests.items at r id ((sound.parts_are).numbered).tests_apart e
            (sym (named_of_test r.id (all_names t.parts.table.slots.items) touched_node.0 there)
            ∙ touched_test touched_node.0 touched_node.1)
            (subst
            (λ (rs : List TestRow). position_or_len (λ (x : TestRow). x.id == id) rs < length rs)
            rows touched.there)

    -- ---- where a test was put

    module _ (at : ℕ) (content : Test) (to : ℕ) (row : TestRow)
        (locations : Vec (List ℕ) Global) (is : p.texts.replacement ≡ made.PutTest at content)
        (parts : p.parts ≡ edited.PutTest to row locations) where
      put_there : to ≡ at
      put_there =
          (subst (λ (x : EditedParts). ArePartsMade t.parts t.texts.tests.items
          t.texts.models.items (made.PutTest at content) x) parts
          (subst (λ (r : Replacement). ArePartsMade t.parts t.texts.tests.items
          t.texts.models.items r p.parts) is is_edit.is_made)).0

      puts : PutsTest t.parts number to row locations w.parts
      puts =
          subst (λ (x : EditedParts). Changes t.parts number x w.parts) parts
          (is_edit.committed).changes

      tests_put : w.texts.tests.items ≡ put_at at content t.texts.tests.items
      tests_put = tests_are ∙ ap (λ (r : Replacement). tests_with r t.texts.tests.items) is

      models_same : w.texts.models.items ≡ t.texts.models.items
      models_same = models_are ∙ ap (λ (r : Replacement). models_with r t.texts.models.items) is

      says : IsPutAnnounced held b.prepared.value.whole b.change b.reached.items at content
      says =
          put_announced held b.prepared.value.whole b.change b.reached.items at content
          (subst
          (λ (r : Replacement). Announces held b.prepared.value.whole b.change b.reached.items r) is
          announces)

      at_within : at ≤ length t.texts.tests.items
      at_within =
          subst (λ (k : ℕ). k ≤ length t.texts.tests.items) says.index_is
          (subst (λ (ts : List Test). says.index ≤ length ts) held_tests says.within)

      to_within : to ≤ length t.parts.table.tests.items
      to_within =
          let many = row_for_each t.parts.last t.parts.table.tests.items t.texts.tests.items t.parts.locations.items ((sound.parts_are).built).tests in
          let le = at_within in
          let same = put_there in
          omega (arith, many, le, same)

      number_is : puts.new.id ≡ id
      number_is =
          let nodes : w.touched.items ≡ nodes_named row.id (test_slots (slice_get t.parts.table.tests.items to) row t.parts.table.slots.items) = touched_are ∙ ap (touched_nodes t.parts) parts in
          let there = subst (λ (l : List Node). Has l touched_node.0) nodes touched_node.1 in
          (puts.raised).id_is
          ∙ (sym (named_of_test row.id (test_slots (slice_get t.parts.table.tests.items to) row
          t.parts.table.slots.items) touched_node.0 there)
          ∙ touched_test touched_node.0 touched_node.1)

      -- the test of the cell is another one
      apart_row : i ≡ to → ⊥
      apart_row same =
          let here = at_put puts.new to t.parts.table.tests.items to_within in
          let there : slice_get (put_at to puts.new t.parts.table.tests.items) to ≡ Some cell.row = ap (λ (k : ℕ). slice_get (put_at to puts.new t.parts.table.tests.items) k) (sym same) ∙ (ap (λ (rs : List TestRow). slice_get rs i) (sym puts.rows) ∙ cell.row_is) in
          row_other (ap (λ (r : TestRow). r.id) (sym (same_Some _ _ (sym here ∙ there)))
          ∙ number_is)

      apart_test : i ≡ at → ⊥
      apart_test same = apart_row (same ∙ sym put_there)

      row_was : slice_get t.parts.table.tests.items i ≡ Some cell.row
      row_was =
          sym (past_put puts.new to t.parts.table.tests.items i to_within apart_row)
          ∙ (ap (λ (rs : List TestRow). slice_get rs i) (sym puts.rows) ∙ cell.row_is)

      test_was : slice_get t.texts.tests.items i ≡ Some cell.of_test
      test_was =
          sym (past_put content at t.texts.tests.items i at_within apart_test)
          ∙ (ap (λ (ts : List Test). slice_get ts i) (sym tests_put) ∙ cell.test_is)

      test_named : (cell.of_test).name ≡ test
      test_named =
          is_named (λ (k : Content). k.name) content_of test w.texts.tests.items cell.of_test
          cell.test_is

      index_was : test_index test (texts_of t.texts).tests ≡ i
      index_was =
          stands_there (λ (k : Content). k.name) content_of test t.texts.tests.items i cell.of_test
          (tests_apart t sound) test_was test_named

      model_was : model_index model (texts_of t.texts).models ≡ j
      model_was =
          ap (λ (ms : List NamedModel). model_index model (map plain_model ms)) (sym models_same)

      was : verdict_of t test model ≡ Some n
      was =
          ap
          (λ (k : ℕ). verdict_by (slice_get t.parts.table.tests.items k)
          (slice_get t.parts.table.models.items (model_index model (texts_of t.texts).models)))
          index_was
          ∙ (ap
          (λ (k : ℕ). verdict_by (slice_get t.parts.table.tests.items i)
          (slice_get t.parts.table.models.items k))
          model_was
          ∙ (ap
          (λ (r : Option TestRow). verdict_by r (slice_get t.parts.table.models.items j))
          (row_was ∙ sym cell.row_is)
          ∙ (ap
          (λ (ms : List ModelRow). verdict_by (slice_get w.parts.table.tests.items i)
          (slice_get ms j))
          (sym (puts.models).rows)
          ∙ v)))

      -- ---- the row of the board

      not_opened : (c : CellIndex) → Contains b.reached.items c → c.test ≡ i → ⊥
      not_opened c there same =
          none_reached held b.prepared.value.whole at content c.test c.model
          (λ k. apart_test (sym same ∙ k)) (((says.lists).exact c).0 there).1

      row_kept : i < length old.rows → slice_get new.rows i ≡ slice_get old.rows i
      row_kept lt =
          ap (λ (d : BoardContent). slice_get d.rows i) (board_push all (ops.Edit b))
          ∙ (opened_apart b.reached.items (rows_after b.change old.columns old.rows) i not_opened
          ∙ (ap (λ (rows : List RowContent). slice_get rows i)
          (says.rows_are old.columns old.rows)
          ∙ put_apart (nat_lt says.index (length old.rows)) says.name says.index old.columns
          old.rows i (λ k. apart_test (sym k ∙ says.index_is)) lt))

      shown : IsSettledOn (board_cells old) test model → IsSettledOn (board_cells new) test model
      shown s =
          let few = nat_lt (length old.rows * length old.columns) (2 ^ 64) in
          let l = located old.columns old.rows s.index s.cell (of_all (all_cells old.columns old.rows) few s.index s.cell s.there) in
          let x = same_name (λ r. r.name) (λ y. y.name) old.rows held.tests l.i l.row (after.names).tests l.row_there in
          let y = same_name (λ c. c.name) (λ m. m.name) old.columns held.models l.j l.column (after.names).models l.column_there in
          let at_row : test_index test (texts_of t.texts).tests ≡ l.i = stands_there (λ (k : Content). k.name) content_of test t.texts.tests.items l.i x.0 (tests_apart t sound) (ap (λ (ts : List Test). slice_get ts l.i) (sym held_tests) ∙ x.1) (x.2 ∙ (l.test_is ∙ s.test_is)) in
          let at_column : model_index model (texts_of t.texts).models ≡ l.j = stands_there (λ (k : PlainModel). k.name) plain_model model t.texts.models.items l.j y.0 (models_apart t sound) (ap (λ (ms : List NamedModel). slice_get ms l.j) (sym held_models) ∙ y.1) (y.2 ∙ (l.model_is ∙ s.model_is)) in
          let same_row : l.i ≡ i = sym at_row ∙ index_was in
          let same_column : l.j ≡ j = sym at_column ∙ model_was in
          let there : slice_get old.rows i ≡ Some l.row = ap (slice_get old.rows) (sym same_row) ∙ l.row_there in
          let kept : slice_get new.rows i ≡ Some l.row = row_kept (below old.rows i l.row there) ∙ there in
          let seen = shown_there new i j l.row kept (subst (λ (o : Option Outcome). IsSome o) (sym l.outcome_is ∙ ap (outcome_at l.row.cells) same_column) s.settled) in
          let k = cells_are_there w later test model n now_sound now_after v in
          let index = i * length new.columns + j in
          let here : CellIndex = record { test = i; model = j } in
          record {
            index = index;
            cell = k.1.0;
            there = k.1.1;
            test_is = k.1.2;
            model_is = k.1.3;
            settled =
                settled_here new index here (is_below (board_cells new) index k.1.0 k.1.1)
                (refl, k.0) seen.0 k.1.0 seen.1 k.1.1;
          }

      left_put : Left
      left_put = record { was = was; apart = apart; shown = shown }

    -- ---- any edit

    left_by : (r : Replacement) (x : EditedParts) → p.texts.replacement ≡ r → p.parts ≡ x
        → ArePartsMade t.parts t.texts.tests.items t.texts.models.items r x → Left
    left_by (made.PutTest at content) (edited.PutTest to row locations) is parts m =
        left_put at content to row locations is parts
    left_by (made.PutTest at content) (edited.DropTest to) is parts m = absurd m
    left_by (made.PutTest at content) (edited.Models ms) is parts m = absurd m
    left_by (made.DropTest at) (edited.PutTest to row locations) is parts m = absurd m
    left_by (made.DropTest at) (edited.DropTest to) is parts m = absurd (drop_touches to parts)
    left_by (made.DropTest at) (edited.Models ms) is parts m = absurd m
    left_by (made.PutModel at named next) (edited.PutTest to row locations) is parts m = absurd m
    left_by (made.PutModel at named next) (edited.DropTest to) is parts m = absurd m
    left_by (made.PutModel at named next) (edited.Models ms) is parts m =
        absurd (models_touch ms parts)
    left_by (made.DropModel at) (edited.PutTest to row locations) is parts m = absurd m
    left_by (made.DropModel at) (edited.DropTest to) is parts m = absurd m
    left_by (made.DropModel at) (edited.Models ms) is parts m = absurd (models_touch ms parts)

    left : Left
    left = left_by p.texts.replacement p.parts refl refl is_edit.is_made

  -- ---- the row of the test

  leaves_row : (id row first end : ℕ) → IsTouchedTest w id
      → row ≡ position_or_len (λ (r : TestRow). r.id == id) w.parts.table.tests.items
      → IsRowRange (length (board_cells new)) (length new.columns) row 0 (length new.columns) first
      end
      → LeavesCells (stamped_net w) (verdict_of t) (verdict_of w) w.touched.items
      (board_cells old) (board_cells new) first end
  leaves_row id row first end touched row_is range test model n v =
      elim (eqb_tells n.test id) [
        | inl same ↦ inl (listed_row w later id row first end now_sound now_after row_is range test
            model n v same.1)
        | inr differ ↦ inr (left id touched test model n v differ.1)
      ]

pub row_leaves : (t u w : StampedTexts) (e : Edit) (p : PreparedEdit) (number : ℕ) (op : BoardOp)
    (all grown : List BoardOp) → AreSoundTexts t → AreAfter t all → IsPrepared t e p u
    → IsAnnounced u p number op → IsCommitted u p number w → grown ≡ all ++ op ∷ []
    → (id row first end : ℕ) → IsTouchedTest w id
    → row ≡ position_or_len (λ (r : TestRow). r.id == id) w.parts.table.tests.items
    → IsRowRange (length (board_cells (board_after grown))) (length (board_after grown).columns) row
    0 (length (board_after grown).columns) first end
    → LeavesCells (stamped_net w) (verdict_of t) (verdict_of w) w.touched.items
    (board_cells (board_after all)) (board_cells (board_after grown)) first end
row_leaves t u w e p number (ops.Edit b) all grown sound after prepared announced put list id row
    first end touched row_is range =
    subst
    (λ (l : List BoardOp). LeavesCells (stamped_net w) (verdict_of t) (verdict_of w)
    w.touched.items (board_cells (board_after all)) (board_cells (board_after l)) first end)
    (sym list)
    (leaves_row t u w e p number b all sound after prepared announced put id row first end touched
    row_is (subst
    (λ (l : List BoardOp). IsRowRange (length (board_cells (board_after l)))
    (length (board_after l).columns) row 0 (length (board_after l).columns) first end)
    list range))
row_leaves t u w e p number (ops.Settle at outcome) all grown sound after prepared announced put
    list id row first end touched row_is range = absurd announced
