-- An edit that leaves the slice of a cell as it is touches nothing that its verdict stands on.
use Rattle.std.proofs.Common.{◌≡◌, ℕ, List, Option, Some, None, slice_get, refl, sym, ap, subst, ◌∙◌}
use Rattle.text_values.specs.declared.test.Test.{Test}
use Rattle.text_values.specs.declared.test.Quantifier.{Quantifier}
use Rattle.text_values.specs.TestValue.{Content, Formula, content_of}
use Rattle.memo_core.specs.declared.keys.Node.{Node}
use Rattle.memo_core.specs.Right.{IsUntouchedBy}
use Rattle.binding_kinds.specs.declared.fault.ModelFault.{ModelFault}
use Rattle.bench_nodes.specs.declared.table.ModelRow.{ModelRow}
use Rattle.bench_nodes.specs.declared.table.TestRow.{TestRow}
use Rattle.bench_texts.specs.declared.edit.Edit.{Edit as Code}
use Rattle.bench_texts.specs.declared.model.NamedModel.{NamedModel}
use Rattle.bench_texts.specs.declared.reading.Reading.{Reading}
use Rattle.bench_texts.specs.declared.reading.Reading.TheVariants as readings
use Rattle.bench_texts.specs.declared.replacement.Replacement.{Replacement}
use Rattle.bench_texts.specs.BenchTexts.{PlainModel, test_index, model_index}
use Rattle.bench_texts.specs.Held.{texts_of}
use Rattle.bench_texts.specs.Held as held
use Rattle.bench_texts.specs.Replacements.{tests_with, models_with}
use Rattle.bench_slices.specs.Reach.{cell_slice}
use Rattle.bench_slices.specs.Slices.{Slice, OfFault, OfItems, slice, slice_by}
use Rattle.bench_parts.specs.States.{keeps}
use Rattle.bench_parts.specs.declared.parts.Parts.{Parts}
use Rattle.bench_edits.specs.declared.edited.EditedParts.{EditedParts}
use Rattle.bench_edits.specs.Laws.{IsEdit}
use Rattle.bench_edits.specs.Readings.{written_state}
use Rattle.bench_edits.specs.Kept.{verdict_node}
use Rattle.cells.specs.Cells.{UnreachedIsUntouched}
use Rattle.bench_edits.proofs.SliceCells.{same_cells}
use Rattle.bench_edits.proofs.Stable.{IsCertain, nat_stable, untouched_stable}
use Rattle.bench_edits.proofs.Untouched.{left_untouched}
use Rattle.bench_edits.specs.Left.{AreOrderlyParts, CellRows, model_in, IsCellOfParts, IsSameFor, IsSameCell, IsLeft}
use Rattle.bench_edits.proofs.Kept.{id_of}
use Rattle.bench_edits.proofs.LeftCells.{cell_left}
use Rattle.bench_instance.specs.declared.stamped_texts.StampedTexts.{StampedTexts}
use Rattle.bench_instance.specs.StampedTexts.{written_of, stamped_net, verdict_by, verdict_of, AreSoundTexts}
use Rattle.bench_instance.specs.Edited.{IsEdited, IsPartsEdit}
use Rattle.bench_instance.specs.StampedCells.{test_of, model_of, slice_by_names, ReachesCellNamed}
use Rattle.bench_instance.specs.Lemmas.CellProofs.{IsCellIn, cell_in, orderly_parts, is_named, read_at, row_there, model_row_there}

none_is : {A : Type 0} {P : Type 0} {a : A} → None ≡ Some a → P
none_is e = cc

some_is : {A : Type 0} {a b : A} → Some a ≡ Some b → a ≡ b
some_is e = cc

-- ---- slices

fault_parts : {f g : ModelFault} {a b : Quantifier} {c d : Formula} → OfFault f a c ≡ OfFault g b d
    → (a ≡ b) × (c ≡ d)
fault_parts e = (cc, cc)

items_test : {c d : Content} {ns ms : List (Option ℕ)} {cs ds : _} {us vs : _}
    → OfItems c ns cs us ≡ OfItems d ms ds vs → c ≡ d
items_test e = cc

-- equal slices are of tests that say the same
said_same : (a b : Test) (m n : NamedModel) (rd sd : Reading)
    → slice_by (content_of b) n sd ≡ slice_by (content_of a) m rd → IsSameFor rd a b
said_same a b m n (readings.Sound resolved used) (readings.Sound other us) e = items_test e
said_same a b m n (readings.Sound resolved used) (readings.Faulty fault) e = cc
said_same a b m n (readings.Faulty fault) (readings.Sound resolved used) e = cc
said_same a b m n (readings.Faulty fault) (readings.Faulty other) e =
    let k = fault_parts e in record { quantifier = k.0; condition = k.1 }

-- a cell that has a slice is there
pub record IsSliced (c : Option Test) (m : Option NamedModel) (of : Slice) : Type 0 where
  pub test : Test
  pub model : NamedModel
  pub test_is : c ≡ Some test
  pub model_is : m ≡ Some model
  pub slice_is : slice (content_of test) model ≡ of

sliced : (c : Option Test) (m : Option NamedModel) (of : Slice) → cell_slice c m ≡ Some of
    → IsSliced c m of
sliced None m of e = none_is e
sliced (Some c) None of e = none_is e
sliced (Some c) (Some m) of e =
    record { test = c; model = m; test_is = refl; model_is = refl; slice_is = some_is e }

-- ---- after an edit

left_in : (p q : Parts) (tests after : List Test) (models ms : List NamedModel) (r : Replacement)
    (number : ℕ) (e : EditedParts) (next later : ℕ) (a b : CellRows)
    → after ≡ tests_with r tests → ms ≡ models_with r models → IsEdit p tests models r number e q
    → AreOrderlyParts p tests models → AreOrderlyParts q after ms → IsCellOfParts p tests models a
    → IsCellOfParts q after ms b → IsSameCell a b
    → IsLeft (written_state p tests models next) (written_state q after ms later) a b
left_in p q tests after models ms r number e next later a b te me edit before =
    rw (te, me) (λ now was is same. cell_left p q tests models r number e next later a b
    (record { edit = edit; before = before; after = now }) was is same)

module _ (t u : StampedTexts) (e : Code) (number : ℕ) (test model : List ℕ) (s : AreSoundTexts t)
    (h : IsEdited t e number u) (n : Node) (v : verdict_of t test model ≡ Some n) where
  now : AreSoundTexts u
  now = h.sound s

  made : IsPartsEdit t number u
  made = h.made s

  cell : IsCellIn t test model n
  cell = cell_in t test model n s v

  abbrev before : CellRows
  before =
      record {
        test = cell.of_test;
        model = cell.of_model;
        test_row = cell.row;
        model_row = cell.model_row;
      }

  was : IsCellOfParts t.parts t.texts.tests.items t.texts.models.items before
  was =
      record {
        at = test_index test (texts_of t.texts).tests;
        test_is = cell.test_is;
        test_row_is = cell.row_is;
        of = model_index model (texts_of t.texts).models;
        model_is = cell.model_is;
        model_row_is = cell.model_row_is;
      }

  slice_before : slice_by_names t test model ≡ Some (slice (content_of cell.of_test) cell.of_model)
  slice_before =
      ap (λ (c : Option Test). cell_slice c (model_of t model)) cell.test_is ∙ ap
      (λ (m : Option NamedModel). cell_slice (Some cell.of_test) m) cell.model_is

  module _ (same : slice_by_names u test model ≡ slice_by_names t test model) where
    there : IsSliced (test_of u test) (model_of u model)
        (slice (content_of cell.of_test) cell.of_model)
    there =
        sliced (test_of u test) (model_of u model) (slice (content_of cell.of_test) cell.of_model)
        (same ∙ slice_before)

    row : (r : TestRow)
        × (slice_get u.parts.table.tests.items (test_index test (texts_of u.texts).tests) ≡ Some r)
    row =
        row_there u.parts.last u.parts.table.tests.items u.texts.tests.items u.parts.locations.items
        (test_index test (texts_of u.texts).tests) there.test ((now.parts_are).built).tests
        there.test_is

    model_row : (r : ModelRow)
        × (slice_get u.parts.table.models.items (model_index model (texts_of u.texts).models)
        ≡ Some r)
    model_row =
        model_row_there u.parts.table.models.items u.texts.models.items
        (model_index model (texts_of u.texts).models) there.model (now.parts_are).each_model
        there.model_is

    abbrev after : CellRows
    after =
        record { test = there.test; model = there.model; test_row = row.0; model_row = model_row.0 }

    is : IsCellOfParts u.parts u.texts.tests.items u.texts.models.items after
    is =
        record {
          at = test_index test (texts_of u.texts).tests;
          test_is = there.test_is;
          test_row_is = row.1;
          of = model_index model (texts_of u.texts).models;
          model_is = there.model_is;
          model_row_is = model_row.1;
        }

    test_name : there.test.name ≡ cell.of_test.name
    test_name =
        is_named (λ (c : Content). c.name) content_of test u.texts.tests.items there.test
        there.test_is
        ∙ sym (is_named (λ (c : Content). c.name) content_of test t.texts.tests.items cell.of_test
        cell.test_is)

    model_name : there.model.name ≡ cell.of_model.name
    model_name =
        is_named (λ (m : PlainModel). m.name) held.plain_model model u.texts.models.items there.model
        there.model_is
        ∙ sym (is_named (λ (m : PlainModel). m.name) held.plain_model model t.texts.models.items
        cell.of_model cell.model_is)

    left : IsLeft (written_of t) (written_of u) before after
    left =
        left_in t.parts u.parts t.texts.tests.items u.texts.tests.items t.texts.models.items
        u.texts.models.items made.replacement number made.parts t.texts.next u.texts.next before
        after made.tests made.models made.is_edit
        (orderly_parts t s) (orderly_parts u now) was is (record {
          test = test_name;
          model = model_name;
          said =
              said_same cell.of_test there.test cell.of_model there.model (cell.of_model).reading
              (there.model).reading there.slice_is;
          reads =
              same_cells (content_of cell.of_test) (content_of there.test) cell.of_model there.model
              cell.model_row
              (read_at t.texts.models.items (model_index model (texts_of t.texts).models)
              cell.of_model s.read cell.model_is)
              (read_at u.texts.models.items (model_index model (texts_of u.texts).models)
              there.model now.read there.model_is)
              (sym there.slice_is);
        })

    verdict_after : verdict_of u test model ≡ Some (verdict_node (row.0).id (model_row.0).id)
    verdict_after =
        ap
        (λ (r : Option TestRow). verdict_by r (slice_get u.parts.table.models.items
        (model_index model (texts_of u.texts).models))) row.1
        ∙ ap (λ (r : Option ModelRow). verdict_by (Some row.0) r) model_row.1

    verdict_same : verdict_of u test model ≡ Some n
    verdict_same =
        verdict_after ∙ ap (λ (k : ℕ). Some (verdict_node k (model_row.0).id)) left.test ∙ ap
        (λ (k : ℕ). Some (verdict_node (cell.row).id k)) left.model ∙ ap Some cell.node_is

    untouched : (d : ℕ) → IsUntouchedBy d (λ m. keeps u.parts m) (stamped_net t) (stamped_net u) n
    untouched d =
        let law = left_untouched (written_of t) (written_of u) (model_in before) (model_in after) (cell.row).id left.left in
        subst (λ (m : Node). IsUntouchedBy d (λ k. keeps u.parts k) (stamped_net t) (stamped_net u) m)
        (ap (verdict_node (cell.row).id)
        (id_of (cell.model_row).id (cell.of_model).numbers.items (cell.of_model).reading) ∙
        cell.node_is)
        (law.1 d)

  -- a verdict that cannot but be the same is the same
  verdict_stable : (o : Option Node) → o ≡ verdict_of u test model → IsCertain (o ≡ Some n)
      → o ≡ Some n
  verdict_stable None e k = absurd (k (λ i. none_is i))
  verdict_stable (Some m) e k =
      let other = cell_in u test model m now (sym e) in
      let tests : (other.row).id ≡ (cell.row).id = nat_stable (other.row).id (cell.row).id (λ no. k (λ i. no (ap (λ (x : Node). x.test) (other.node_is ∙ (some_is i ∙ sym cell.node_is))))) in
      let models : (other.model_row).id ≡ (cell.model_row).id = nat_stable (other.model_row).id (cell.model_row).id (λ no. k (λ i. no (ap (λ (x : Node). x.of) (other.node_is ∙ (some_is i ∙ sym cell.node_is))))) in
      ap Some (sym other.node_is ∙ (ap (λ (x : ℕ). verdict_node x (other.model_row).id) tests ∙
      (ap (verdict_node (cell.row).id) models ∙ cell.node_is)))

  cell_stays : IsCertain (slice_by_names u test model ≡ slice_by_names t test model)
      → (verdict_of u test model ≡ Some n)
      × ((d : ℕ) → IsUntouchedBy d (λ m. keeps u.parts m) (stamped_net t) (stamped_net u) n)
  cell_stays k = (
    verdict_stable (verdict_of u test model) refl (λ no. k (λ same. no (verdict_same same))),
    λ d. untouched_stable d (λ m. keeps u.parts m) (stamped_net t) (stamped_net u) n
        (λ no. k (λ same. no (untouched same d))),
  )

pub cells_left : (t u : StampedTexts) (e : Code) (number : ℕ) (test model : List ℕ) → AreSoundTexts t
    → IsEdited t e number u → (ReachesCellNamed t e u test model → ⊥)
    → UnreachedIsUntouched (λ n. keeps u.parts n) (stamped_net t) (stamped_net u) (verdict_of t test model)
    (verdict_of u test model)
cells_left t u e number test model s h left n v = cell_stays t u e number test model s h n v left
