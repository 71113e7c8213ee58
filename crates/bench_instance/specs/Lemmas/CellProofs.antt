-- What texts with stamps owe to a bench of cells.
use Rattle.std.proofs.Common.{◌≡◌, ℕ, zero, suc, ◌+◌, Bool, true, false, inl, inr, List, [], ◌∷◌, length, map, Option, Some, None, slice_get, All, refl, sym, ap, subst, ◌∙◌, arith}
use Rattle.std.specs.declared.alloc.Global.{Global}
use Rattle.std.specs.Prelude.{Vec}
use Rattle.std.specs.Arc.{arc_value}
use Rattle.std.proofs.lemmas.Bool.Decides.{eqb_tells}
use Rattle.std.specs.List.{position_or_len}
use Rattle.std.specs.Str.{bytes_eq}
use Rattle.std.proofs.lemmas.Slice.Eq.{bytes_eq-Decides}
use Rattle.std.proofs.lemmas.Bool.{cases_Bool}
use Rattle.text_values.specs.declared.test.Test.{Test}
use Rattle.text_values.specs.TestValue.{Content, content_of}
use Rattle.memo_core.specs.declared.keys.Node.{Node}
use Rattle.memo_core.specs.Step.{Has}
use Rattle.bench_nodes.specs.declared.table.ModelRow.{ModelRow}
use Rattle.bench_nodes.specs.declared.table.TestRow.{TestRow}
use Rattle.bench_nodes.specs.Nodes.{used, has_test_row}
use Rattle.bench_nodes.proofs.Laws.{used_test}
use Rattle.bench_slots.specs.Tables.{ModelReading, Sound, Faulty}
use Rattle.bench_values.specs.Values.{outcome_in}
use Rattle.bench_parts.specs.Built.{AreTestRows}
use Rattle.bench_parts.specs.States.{makes}
use Rattle.cells.specs.Cells.{SolvedIsFromScratch, UsedIsNeeded}
use Rattle.bench_texts.specs.declared.edit.Edit.{Edit as Code}
use Rattle.bench_texts.specs.declared.fault.EditFault.{EditFault}
use Rattle.bench_texts.specs.declared.model.NamedModel.{NamedModel}
use Rattle.bench_texts.specs.declared.reading.Reading.{Reading}
use Rattle.bench_texts.specs.declared.reading.Reading.TheVariants as readings
use Rattle.bench_texts.specs.BenchTexts.{PlainModel, test_index, model_index}
use Rattle.bench_texts.specs.Edits.{Edit, edit_of, Applies, RefusesEdit}
use Rattle.bench_texts.specs.Held.{texts_of, IsModelRead}
use Rattle.bench_texts.specs.Held as held
use Rattle.bench_texts.specs.Readings.{IsModelReading}
use Rattle.bench_edits.specs.Owed as owed
use Rattle.bench_edits.specs.Readings.{reading_by, reading_of, readings_of}
use Rattle.bench_edits.specs.Kept.{id_in, IsKeptState, IsTestAt, verdict_node}
use Rattle.bench_edits.proofs.Nodes.{verdict_used}
use Rattle.bench_edits.proofs.Scratch.{sound_scratch, faulty_scratch}
use Rattle.bench_edits.proofs.Standing.{needed}
use Rattle.bench_text_laws.specs.Orderly.{AreApart}
use Rattle.bench_edits.specs.Left.{AreOrderlyParts}
use Rattle.bench_edits.proofs.Kept.{id_of, parts_are_kept}
use Rattle.bench_instance.specs.declared.stamped_texts.StampedTexts.{StampedTexts}
use Rattle.bench_instance.specs.StampedTexts.{stamped_state, stamped_net, verdict_by, verdict_of, AreSoundTexts}
use Rattle.bench_instance.specs.Edited.{IsEdited}
use Rattle.bench_instance.specs.Lemmas.Commits.{all_are}
use Rattle.bench_instance.specs.StampedCells.{scratch_by, cell_from_scratch, test_of, model_of as model_named}

-- ---- the same edit

pub edited_alike : (t u : StampedTexts) (e f : Code) (number : ℕ) → edit_of e ≡ edit_of f
    → IsEdited t e number u → IsEdited t f number u
edited_alike t u e f number same h = record {
  applies =
      subst (λ (x : Edit). Applies (texts_of t.texts) false x (texts_of u.texts)) same h.applies;
  sound = h.sound;
  stamped = h.stamped;
  made = h.made;
}

pub refused_alike : (t : StampedTexts) (e f : Code) (spent : Bool) (fault : EditFault)
    → edit_of e ≡ edit_of f → RefusesEdit (texts_of t.texts) spent (edit_of e) fault
    → RefusesEdit (texts_of t.texts) spent (edit_of f) fault
refused_alike t e f spent fault same h =
    subst (λ (x : Edit). RefusesEdit (texts_of t.texts) spent x fault) same h

-- ---- lists

none_is : {A : Type 0} {P : Type 0} {a : A} → None ≡ Some a → P
none_is e = cc

some_is : {A : Type 0} {a b : A} → Some a ≡ Some b → a ≡ b
some_is e = cc

test_names : (ts : List Test) → map (λ c. c.name) (map content_of ts) ≡ map (λ t. t.name) ts
test_names [] = refl
test_names (t ∷ ts) = ap (λ (l : List (List ℕ)). t.name ∷ l) (test_names ts)

model_names : (ms : List NamedModel)
    → map (λ m. m.name) (map held.plain_model ms) ≡ map (λ m. m.name) ms
model_names [] = refl
model_names (m ∷ ms) = ap (λ (l : List (List ℕ)). m.name ∷ l) (model_names ms)

named : (a b : List ℕ) → bytes_eq a b ≡ true → a ≡ b
named a b h = (bytes_eq-Decides a b).0 h

itself : (a : List ℕ) → bytes_eq a a ≡ true
itself a = (bytes_eq-Decides a a).1 refl

one_more : (n : ℕ) → 1 + n ≡ suc n
one_more n = omega arith

module _ {A B : Type 0} (name : B → List ℕ) (f : A → B) (wanted : List ℕ) where
  abbrev found_at : List A → ℕ
  found_at xs = position_or_len (λ b. bytes_eq (name b) wanted) (map f xs)

  -- what stands at the index of a name has that name
  pub is_named : (xs : List A) (a : A) → slice_get xs (found_at xs) ≡ Some a → name (f a) ≡ wanted
  is_named [] a = λ e. none_is e
  is_named (x ∷ xs) a = elim (cases_Bool (bytes_eq (name (f x)) wanted)) [
    | inl t ↦ rw t (λ e. ap (λ (y : A). name (f y)) (sym (some_is e)) ∙ named (name (f x)) wanted t)
    | inr t ↦ rw t (λ e. is_named xs a (ap (slice_get (x ∷ xs)) (sym (one_more (found_at xs))) ∙ e))
  ]

  name_there : (xs : List A) (i : ℕ) (a : A) → slice_get xs i ≡ Some a
      → Has (map (λ y. name (f y)) xs) (name (f a))
  name_there [] i a e = none_is e
  name_there (x ∷ xs) zero a e = inl (ap (λ (y : A). name (f y)) (some_is e))
  name_there (x ∷ xs) (suc i) a e = inr (name_there xs i a e)

  -- one of that name stands at its index
  pub stands_there : (xs : List A) (i : ℕ) (a : A) → AreApart (map (λ y. name (f y)) xs)
      → slice_get xs i ≡ Some a → name (f a) ≡ wanted → found_at xs ≡ i
  stands_there [] i a apart e n = none_is e
  stands_there (x ∷ xs) zero a apart e n =
      let t : bytes_eq (name (f x)) wanted ≡ true = ap (λ (w : List ℕ). bytes_eq w wanted) (ap (λ (y : A). name (f y)) (some_is e) ∙ n) ∙ itself wanted in
      rw t refl
  stands_there (x ∷ xs) (suc i) a apart e n = elim (cases_Bool (bytes_eq (name (f x)) wanted)) [
    | inl t ↦ absurd (apart.0 (subst (λ (w : List ℕ). Has (map (λ (y : A). name (f y)) xs) w)
        (n ∙ sym (named (name (f x)) wanted t)) (name_there xs i a e)))
    | inr t ↦ (
        let more : 1 + found_at xs ≡ suc i =
        (let k : found_at xs ≡ i = stands_there xs i a apart.1 e n in omega arith) in
        rw t more)
  ]

-- ---- a cell that is there

pub record IsCellBy (a : Option TestRow) (b : Option ModelRow) (n : Node) : Type 0 where
  pub row : TestRow
  pub model : ModelRow
  pub row_is : a ≡ Some row
  pub model_is : b ≡ Some model
  pub node_is : verdict_node row.id model.id ≡ n

cell_by : (a : Option TestRow) (b : Option ModelRow) (n : Node) → verdict_by a b ≡ Some n
    → IsCellBy a b n
cell_by None b n h = none_is h
cell_by (Some r) None n h = none_is h
cell_by (Some r) (Some m) n h =
    record { row = r; model = m; row_is = refl; model_is = refl; node_is = some_is h }

test_there : (last : ℕ) (rs : List TestRow) (ts : List Test) (ls : List (Vec (List ℕ) Global))
    (i : ℕ) (r : TestRow) → AreTestRows last rs ts ls → slice_get rs i ≡ Some r
    → (c : Test) × (slice_get ts i ≡ Some c)
test_there last [] ts ls i r h e = none_is e
test_there last (x ∷ rs) [] ls i r h e = absurd h
test_there last (x ∷ rs) (t ∷ ts) [] i r h e = absurd h
test_there last (x ∷ rs) (t ∷ ts) (l ∷ ls) zero r h e = (t, refl)
test_there last (x ∷ rs) (t ∷ ts) (l ∷ ls) (suc i) r h e = test_there last rs ts ls i r h.1 e

pub row_there : (last : ℕ) (rs : List TestRow) (ts : List Test) (ls : List (Vec (List ℕ) Global))
    (i : ℕ) (c : Test) → AreTestRows last rs ts ls → slice_get ts i ≡ Some c
    → (r : TestRow) × (slice_get rs i ≡ Some r)
row_there last [] [] [] i c h e = none_is e
row_there last [] [] (l ∷ ls) i c h e = absurd h
row_there last [] (t ∷ ts) ls i c h e = absurd h
row_there last (x ∷ rs) [] ls i c h e = absurd h
row_there last (x ∷ rs) (t ∷ ts) [] i c h e = absurd h
row_there last (x ∷ rs) (t ∷ ts) (l ∷ ls) zero c h e = (x, refl)
row_there last (x ∷ rs) (t ∷ ts) (l ∷ ls) (suc i) c h e = row_there last rs ts ls i c h.1 e

pub record IsModelThere (rs : List ModelRow) (ms : List NamedModel) (j : ℕ) (r : ModelRow)
    : Type 0 where
  pub model : NamedModel
  pub model_is : slice_get ms j ≡ Some model
  pub there : Has (readings_of rs ms) (reading_of r model)

model_there : (rs : List ModelRow) (ms : List NamedModel) (j : ℕ) (r : ModelRow)
    → length rs ≡ length ms → slice_get rs j ≡ Some r → IsModelThere rs ms j r
model_there [] ms j r l e = none_is e
model_there (x ∷ rs) [] j r l e = absurd (omega (arith, l))
model_there (x ∷ rs) (m ∷ ms) zero r l e =
    record {
      model = m;
      model_is = refl;
      there = inl (ap (λ (y : ModelRow). reading_of y m) (some_is e));
    }
model_there (x ∷ rs) (m ∷ ms) (suc j) r l e =
    let n : length rs ≡ length ms = omega (arith, l) in
    let k = model_there rs ms j r n e in
    record { model = k.model; model_is = k.model_is; there = inr k.there }

pub model_row_there : (rs : List ModelRow) (ms : List NamedModel) (j : ℕ) (m : NamedModel)
    → length rs ≡ length ms → slice_get ms j ≡ Some m → (r : ModelRow) × (slice_get rs j ≡ Some r)
model_row_there [] [] j m l e = none_is e
model_row_there [] (x ∷ ms) j m l e = absurd (omega arith)
model_row_there (r ∷ rs) [] j m l e = absurd (omega arith)
model_row_there (r ∷ rs) (x ∷ ms) zero m l e = (r, refl)
model_row_there (r ∷ rs) (x ∷ ms) (suc j) m l e =
    let n : length rs ≡ length ms = omega arith in model_row_there rs ms j m n e

pub read_at : (ms : List NamedModel) (j : ℕ) (m : NamedModel) → All IsModelRead ms
    → slice_get ms j ≡ Some m → IsModelRead m
read_at [] j m h e = none_is e
read_at (x ∷ ms) zero m h e = subst IsModelRead (some_is e) (h 0 x (omega arith))
read_at (x ∷ ms) (suc j) m h e = read_at ms j m (λ k d lt. h (suc k) d (omega arith)) e

-- the cell of a test and a model of these names
pub record IsCellIn (t : StampedTexts) (test model : List ℕ) (n : Node) : Type 0 where
  pub row : TestRow
  pub model_row : ModelRow
  pub of_test : Test
  pub of_model : NamedModel
  pub row_is : slice_get t.parts.table.tests.items (test_index test (texts_of t.texts).tests)
      ≡ Some row
  pub test_is : test_of t test ≡ Some of_test
  pub model_row_is : slice_get t.parts.table.models.items
      (model_index model (texts_of t.texts).models) ≡ Some model_row
  pub model_is : model_named t model ≡ Some of_model
  pub there : Has (readings_of t.parts.table.models.items t.texts.models.items)
      (reading_of model_row of_model)
  pub node_is : verdict_node row.id model_row.id ≡ n

pub cell_in : (t : StampedTexts) (test model : List ℕ) (n : Node) → AreSoundTexts t
    → verdict_of t test model ≡ Some n → IsCellIn t test model n
cell_in t test model n s h =
    let i = test_index test (texts_of t.texts).tests in
    let j = model_index model (texts_of t.texts).models in
    let cell = cell_by (slice_get t.parts.table.tests.items i) (slice_get t.parts.table.models.items j) n h in
    let c = test_there t.parts.last t.parts.table.tests.items t.texts.tests.items t.parts.locations.items i cell.row ((s.parts_are).built).tests cell.row_is in
    let m = model_there t.parts.table.models.items t.texts.models.items j cell.model (s.parts_are).each_model cell.model_is in
    record {
      row = cell.row;
      model_row = cell.model;
      of_test = c.0;
      of_model = m.model;
      row_is = cell.row_is;
      test_is = c.1;
      model_row_is = cell.model_is;
      model_is = m.model_is;
      there = m.there;
      node_is = cell.node_is;
    }

module _ (t : StampedTexts) (s : AreSoundTexts t) where
  abbrev here : List ModelReading
  here = readings_of t.parts.table.models.items t.texts.models.items

  items_apart : AreApart (owed.item_numbers t.texts.models.items)
  items_apart =
      subst (λ (l : List ℕ). AreApart l) (all_are t.texts.models.items)
      (s.orderly).items

  kept : IsKeptState (stamped_state t) here
  kept =
      parts_are_kept t.parts t.texts.tests.items t.texts.models.items s.parts_are s.read items_apart

  pub tests_apart : AreApart (map (λ c. c.name) t.texts.tests.items)
  tests_apart =
      subst (λ (l : List (List ℕ)). AreApart l) (test_names t.texts.tests.items) (s.orderly).tests

  pub models_apart : AreApart (map (λ m. m.name) t.texts.models.items)
  models_apart =
      subst (λ (l : List (List ℕ)). AreApart l) (model_names t.texts.models.items)
      (s.orderly).models

  pub orderly_parts : AreOrderlyParts t.parts t.texts.tests.items t.texts.models.items
  orderly_parts = record {
    parts_are = s.parts_are;
    kinds = s.kinds;
    read = s.read;
    items_apart = items_apart;
    tests_apart = tests_apart;
    models_apart = models_apart;
  }

  -- ---- verdicts are used

  pub verdict_is_used : (test model : List ℕ) (n : Node) → verdict_of t test model ≡ Some n
      → Has (used t.parts.table) n
  verdict_is_used test model n h =
      let cell = cell_in t test model n s h in
      let there = verdict_used (stamped_state t) here kept (test_index test (texts_of t.texts).tests) cell.row cell.of_test (record { row_is = cell.row_is; test_is = cell.test_is }) (reading_of cell.model_row cell.of_model) cell.there in
      subst (λ (m : Node). Has (used t.parts.table) m)
      (ap (verdict_node (cell.row).id)
      (id_of (cell.model_row).id (cell.of_model).numbers.items (cell.of_model).reading) ∙
      cell.node_is) there

  -- ---- used nodes are needed

  row_of_id : (last : ℕ) (rs : List TestRow) (ts : List Test) (ls : List (Vec (List ℕ) Global))
      (id : ℕ) → AreTestRows last rs ts ls → has_test_row rs id ≡ true
      → (i : ℕ) × (r : TestRow) × (c : Test) × (slice_get rs i ≡ Some r) × (slice_get ts i ≡ Some c)
      × (r.id ≡ id)
  row_of_id last [] ts ls id h = λ e. absurd (let f : false ≡ true = e in cc)
  row_of_id last (r ∷ rs) [] ls id h = absurd h
  row_of_id last (r ∷ rs) (c ∷ ts) [] id h = absurd h
  row_of_id last (r ∷ rs) (c ∷ ts) (l ∷ ls) id h = elim (eqb_tells id r.id) [
    | inl same ↦ λ e. (0, r, c, refl, refl, sym same.1)
    | inr other ↦ rw other.0 (λ e.
        let k = row_of_id last rs ts ls id h.1 e in (suc k.0, k.1, k.2, k.3, k.4, k.5))
  ]

  at_index : (rs : List ModelRow) (ms : List NamedModel) (m : ModelReading)
      → Has (readings_of rs ms) m
      → (j : ℕ) × (r : ModelRow) × (x : NamedModel) × (slice_get rs j ≡ Some r)
      × (slice_get ms j ≡ Some x) × (reading_of r x ≡ m)
  at_index [] ms m h = absurd h
  at_index (r ∷ rs) [] m h = absurd h
  at_index (r ∷ rs) (x ∷ ms) m (inl e) = (0, r, x, refl, refl, e)
  at_index (r ∷ rs) (x ∷ ms) m (inr h) =
      let k = at_index rs ms m h in (suc k.0, k.1, k.2, k.3, k.4, k.5)

  pub node_is_needed : UsedIsNeeded (stamped_net t) (verdict_of t)
  node_is_needed n h =
      let under = needed (stamped_state t) here n kept h in
      let test = row_of_id t.parts.last t.parts.table.tests.items t.texts.tests.items t.parts.locations.items n.test ((s.parts_are).built).tests (used_test t.parts.table n h) in
      let model = at_index t.parts.table.models.items t.texts.models.items under.model under.there in
      let test_at = stands_there (λ (c : Content). c.name) content_of test.2.name t.texts.tests.items test.0 test.2 tests_apart test.4 refl in
      let model_at = stands_there (λ (m : PlainModel). m.name) held.plain_model model.2.name t.texts.models.items model.0 model.2 models_apart model.4 refl in
      let id : model.1.id ≡ id_in under.model = sym (id_of model.1.id model.2.numbers.items model.2.reading) ∙ ap id_in model.5 in
      record {
        test = test.2.name;
        model = model.2.name;
        verdict = verdict_node n.test (id_in under.model);
        is =
            ap
            (λ (i : ℕ). verdict_by (slice_get t.parts.table.tests.items i) (slice_get
            t.parts.table.models.items
            (model_index model.2.name (texts_of t.texts).models))) test_at
            ∙ ap
            (λ (j : ℕ). verdict_by (slice_get t.parts.table.tests.items test.0)
            (slice_get t.parts.table.models.items j)) model_at
            ∙ ap
            (λ (r : Option TestRow).
            verdict_by r (slice_get t.parts.table.models.items model.0)) test.3
            ∙ ap (λ (r : Option ModelRow). verdict_by (Some test.1) r) model.3
            ∙ ap (λ (k : ℕ). Some (verdict_node k model.1.id)) test.5
            ∙ ap (λ (k : ℕ). Some (verdict_node n.test k)) id;
        stands = under.stands;
      }

  -- ---- settled verdicts are from scratch

  module _ (test model : List ℕ) where
    abbrev Scratch : Option Test → Option NamedModel → Option Node → Type 0
    Scratch c m n = SolvedIsFromScratch makes (stamped_net t) outcome_in n (λ o. scratch_by c m o)

    by_reading : (i : ℕ) (row : TestRow) (c : Test) (id : ℕ) (m : NamedModel) (rd : Reading)
        → IsTestAt (stamped_state t) i row c → Has here (reading_by id m.numbers.items rd)
        → IsModelReading m.text.items.items rd
        → Scratch (Some c) (Some m) (Some (verdict_node row.id id))
    by_reading i row c id m (readings.Sound resolved us) at there read =
        sound_scratch (stamped_state t) here kept i row c at id m.numbers.items
        (arc_value resolved).items.items us.items there m.text (read.0).no_fault
        ((read.0).as_resolved, (read.0).labelled)
    by_reading i row c id m (readings.Faulty fault) at there read =
        faulty_scratch (stamped_state t) here kept i row c at id fault there m.text read

    -- where the cell is there
    scratch_at : (n : Node) → verdict_of t test model ≡ Some n
        → Scratch (test_of t test) (model_named t model) (Some n)
    scratch_at n h =
        let cell = cell_in t test model n s h in
        let read = read_at t.texts.models.items (model_index model (texts_of t.texts).models) cell.of_model s.read cell.model_is in
        let one = by_reading (test_index test (texts_of t.texts).tests) cell.row cell.of_test (cell.model_row).id cell.of_model (cell.of_model).reading (record { row_is = cell.row_is; test_is = cell.test_is }) cell.there read in
        rw (cell.test_is, cell.model_is) (subst
        (λ (k : Node). Scratch (Some cell.of_test) (Some cell.of_model) (Some k))
        cell.node_is one)

    pub cell_is_solved : SolvedIsFromScratch makes (stamped_net t) outcome_in (verdict_of t test model)
        (cell_from_scratch t test model)
    cell_is_solved memos n all e settled = scratch_at n e memos n all refl settled

pub verdicts_used : (t : StampedTexts) (test model : List ℕ) (n : Node) → AreSoundTexts t
    → verdict_of t test model ≡ Some n → Has (used t.parts.table) n
verdicts_used t test model n s h = verdict_is_used t s test model n h

pub all_needed : (t : StampedTexts) → AreSoundTexts t → UsedIsNeeded (stamped_net t) (verdict_of t)
all_needed t s = node_is_needed t s

pub cells_solved : (t : StampedTexts) (test model : List ℕ) → AreSoundTexts t
    → SolvedIsFromScratch makes (stamped_net t) outcome_in (verdict_of t test model)
    (cell_from_scratch t test model)
cells_solved t test model s = cell_is_solved t s test model
