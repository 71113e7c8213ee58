-- A cell that an edit leaves.
use Rattle.std.proofs.Common.{◌≡◌, ◌≢◌, ℕ, zero, suc, ◌<◌, inl, inr, List, [], ◌∷◌, length, map, Option, Some, None, slice_get, sym, ap, subst, ◌∙◌, ne_eqb, arith}
use Rattle.std.proofs.lemmas.List.{length-map}
use Rattle.text_values.specs.declared.test.Test.{Test}
use Rattle.text_values.specs.declared.test.Quantifier.{Quantifier}
use Rattle.text_values.specs.TestValue.{Content, Formula, content_of, formula_of, thread_steps}
use Rattle.memo_core.specs.Step.{Has}
use Rattle.bench_texts.specs.Replacements.{tests_with, models_with}
use Rattle.bench_texts.specs.declared.model.NamedModel.{NamedModel}
use Rattle.bench_texts.specs.declared.reading.Reading.{Reading}
use Rattle.bench_texts.specs.declared.reading.Reading.TheVariants as readings
use Rattle.bench_texts.specs.declared.replacement.Replacement.{Replacement}
use Rattle.bench_nodes.specs.declared.table.ModelRow.{ModelRow}
use Rattle.bench_nodes.specs.declared.table.TestRow.{TestRow}
use Rattle.bench_nodes.specs.Nodes.{test_stamp, space_parts, space_keys, has_test_row}
use Rattle.bench_parts.specs.declared.parts.Parts.{Parts}
use Rattle.bench_parts.specs.Contents.{PartContent, OfCondition, parts_state, test_part}
use Rattle.bench_parts.specs.Written.{KeepsStamp}
use Rattle.bench_edits.specs.declared.edited.EditedParts.{EditedParts}
use Rattle.bench_text_laws.specs.Orderly.{AreApart}
use Rattle.bench_edits.specs.Readings.{reading_by, reading_of, written_model, written_models, written_state}
use Rattle.bench_edits.specs.BenchCells.{AreReadAlike, IsTestLeft, IsLeftFor}
use Rattle.bench_edits.specs.Left.{IsOrderlyEdit, CellRows, IsCellOfParts, IsSameCondition, IsSameFor, IsSameCell, IsLeft}
use Rattle.bench_edits.proofs.Kept.{parts_kept}
use Rattle.bench_edits.proofs.Faults.{items_left, faults_left, names_left}
use Rattle.bench_edits.proofs.HeldModels.{model_held}
use Rattle.bench_edits.proofs.ModelNumbers.{numbered_at, model_kept}
use Rattle.bench_edits.proofs.TestEntries.{IsEntry, IsFound, find_entry, found_by_number, entry_names, part_alike}
use Rattle.bench_edits.proofs.TestsLeft.{IsEntryKept, test_kept, space_alike}

none_is : {A : Type 0} {P : Type 0} {a : A} → None ≡ Some a → P
none_is e = cc

some_is : {A : Type 0} {a b : A} → Some a ≡ Some b → a ≡ b
some_is e = cc

model_there : (rs : List ModelRow) (ms : List NamedModel) (i : ℕ) (r : ModelRow) (m : NamedModel)
    → slice_get rs i ≡ Some r → slice_get ms i ≡ Some m
    → Has (written_models rs ms) (written_model r m)
model_there [] ms i r m e f = none_is e
model_there (q ∷ rs) [] i r m e f = none_is f
model_there (q ∷ rs) (n ∷ ms) zero r m e f =
    inl (ap (λ (x : ModelRow). written_model x n) (some_is e)
    ∙ ap (λ (x : NamedModel). written_model r x) (some_is f))
model_there (q ∷ rs) (n ∷ ms) (suc i) r m e f = inr (model_there rs ms i r m e f)

module _ (p q : Parts) (tests : List Test) (models : List NamedModel) (r : Replacement) (number : ℕ)
    (e : EditedParts) (next later : ℕ) (a b : CellRows)
    (o : IsOrderlyEdit p q tests models r number e) (was : IsCellOfParts p tests models a)
    (is : IsCellOfParts q (tests_with r tests) (models_with r models) b) (same : IsSameCell a b) where
  abbrev after : List Test
  after = tests_with r tests

  here : IsEntry p.last p.table.tests.items tests p.locations.items a.test_row a.test
  here =
      find_entry p.last was.at p.table.tests.items tests p.locations.items a.test_row a.test
      ((o.before).parts_are).built.tests ((o.before).parts_are).locations was.test_row_is
      was.test_is

  there : IsEntry q.last q.table.tests.items after q.locations.items b.test_row b.test
  there =
      find_entry q.last is.at q.table.tests.items after q.locations.items b.test_row b.test
      ((o.after).parts_are).built.tests ((o.after).parts_are).locations is.test_row_is is.test_is

  name : there.entry.test.name ≡ here.entry.test.name
  name =
      ap (λ (t : Test). t.name) there.test_is
      ∙ (same.test ∙ sym (ap (λ (t : Test). t.name) here.test_is))

  kept : IsEntryKept here.entry there.entry
  kept = test_kept p q tests models r number e o.edit (o.before).tests_apart
      (subst (λ (l : List (List ℕ)). AreApart l)
      (sym (entry_names q.last q.table.tests.items after q.locations.items
      ((o.after).parts_are).built.tests)) (o.after).tests_apart)
      here.entry there.entry here.stamps here.there there.there name

  found_before : IsFound p.table.tests.items tests p.locations.items here.entry
  found_before =
      found_by_number p.table.tests.items tests p.locations.items here.entry
      (((o.before).parts_are).numbered).tests_apart here.there

  found_after : IsFound q.table.tests.items after q.locations.items there.entry
  found_after =
      found_by_number q.table.tests.items after q.locations.items there.entry
      (((o.after).parts_are).numbered).tests_apart there.there

  test_id : b.test_row.id ≡ a.test_row.id
  test_id =
      sym (ap (λ (x : TestRow). x.id) there.row_is)
      ∙ (kept.id ∙ ap (λ (x : TestRow). x.id) here.row_is)

  before_id : a.test_row.id ≡ here.entry.row.id
  before_id = sym (ap (λ (x : TestRow). x.id) here.row_is)

  after_id : a.test_row.id ≡ there.entry.row.id
  after_id = before_id ∙ sym kept.id

  stamp_kept : (part : ℕ)
      → test_part there.entry.test there.entry.locations part
      ≡ test_part here.entry.test here.entry.locations part
      → test_stamp q.table.tests.items part a.test_row.id
      ≡ test_stamp p.table.tests.items part a.test_row.id
  stamp_kept part alike =
      ap (test_stamp q.table.tests.items part) after_id
      ∙ (found_after.stamps part
      ∙ (kept.stamps part alike
      ∙ sym (ap (test_stamp p.table.tests.items part) before_id
      ∙ found_before.stamps part)))

  keeps_stamp : (part : ℕ) → 1 < part
      → test_part there.entry.test there.entry.locations part
      ≡ test_part here.entry.test here.entry.locations part
      → KeepsStamp (parts_state p tests) (parts_state q after) part a.test_row.id
  keeps_stamp part lt alike =
      let n0 : part ≢ 0 = λ k. absurd (omega (arith, lt, k)) in
      let n1 : part ≢ 1 = λ k. absurd (omega (arith, lt, k)) in
      rw (ne_eqb part 0 n0, ne_eqb part 1 n1) (stamp_kept part alike)

  -- ---- the test says what it said

  module _ (said : content_of b.test ≡ content_of a.test) where
    content : content_of there.entry.test ≡ content_of here.entry.test
    content = ap content_of there.test_is ∙ (said ∙ sym (ap content_of here.test_is))

    threads : length there.entry.row.threads.items ≡ length here.entry.row.threads.items
    threads =
        let each : length (map thread_steps there.entry.test.threads.items) ≡ length (map thread_steps here.entry.test.threads.items) = ap (λ (c : Content). length c.threads) content in
        let x : length (map thread_steps there.entry.test.threads.items) ≡ length there.entry.test.threads.items = length-map there.entry.test.threads.items thread_steps in
        let y : length (map thread_steps here.entry.test.threads.items) ≡ length here.entry.test.threads.items = length-map here.entry.test.threads.items thread_steps in
        there.stamps.each_thread ∙ (sym x ∙ (each ∙ (y ∙ sym here.stamps.each_thread)))

    parts_alike : space_parts there.entry.row ≡ space_parts here.entry.row
    parts_alike = space_alike here.entry.row there.entry.row kept.id threads

    test_left : IsTestLeft (parts_state p tests) (parts_state q after) a.test_row.id
    test_left = record {
      stamps =
          λ part lt. keeps_stamp part lt (part_alike there.entry.test here.entry.test
          there.entry.locations here.entry.locations content there.names here.names part);
      inputs =
          ap (space_keys q.table.tests.items) after_id
          ∙ (found_after.keys
          ∙ (parts_alike
          ∙ sym (ap (space_keys p.table.tests.items) before_id
          ∙ found_before.keys)));
    }

  condition_left : IsSameCondition a.test b.test
      → KeepsStamp (parts_state p tests) (parts_state q after) 2 a.test_row.id
  condition_left said = keeps_stamp 2 (omega arith) (
      ap (λ (t : Test). OfCond t) there.test_is
      ∙ (both ∙ sym (ap (λ (t : Test). OfCond t) here.test_is)))
    where
      OfCond : Test → Option PartContent
      OfCond t = Some (OfCondition t.condition.quantifier (formula_of t.condition.proposition))

      both : OfCond b.test ≡ OfCond a.test
      both =
          ap (λ (k : Quantifier). Some (OfCondition k (formula_of b.test.condition.proposition)))
          said.quantifier
          ∙ ap (λ (f : Formula). Some (OfCondition a.test.condition.quantifier f)) said.condition

  left_for : (id : ℕ) (ns : List ℕ) (rd : Reading) → IsSameFor rd a.test b.test
      → IsLeftFor (reading_by id ns rd) (parts_state p tests) (parts_state q after) a.test_row.id
  left_for id ns (readings.Sound resolved used) said = test_left said
  left_for id ns (readings.Faulty fault) said = condition_left said

  -- ---- the model

  model_id : b.model_row.id ≡ a.model_row.id
  model_id =
      model_kept p q tests models r number e o.edit (o.before).models_apart (o.after).models_apart
      a.model_row.id b.model_row.id a.model b.model
      (numbered_at p.table.models.items models was.of a.model_row a.model was.model_row_is
      was.model_is)
      (numbered_at q.table.models.items (models_with r models) is.of b.model_row b.model
      is.model_row_is is.model_is) same.model

  pub cell_left : IsLeft (written_state p tests models next)
      (written_state q after (models_with r models) later) a b
  cell_left = record {
    test = test_id;
    model = model_id;
    left = record {
      before =
          model_held p tests models next o.before a.model_row a.model (model_there
          p.table.models.items models was.of a.model_row a.model was.model_row_is was.model_is);
      after =
          model_held q after (models_with r models) later o.after b.model_row b.model
          (model_there q.table.models.items (models_with r models) is.of b.model_row b.model
          is.model_row_is is.model_is);
      same =
          subst
          (λ (n : ℕ). AreReadAlike a.model.text.items.items (reading_of a.model_row a.model)
          b.model.text.items.items (reading_by n b.model.numbers.items b.model.reading))
          (sym model_id) same.reads;
      items = items_left p q tests models r number e next later o.edit (o.after).parts_are;
      names = names_left p q tests models r number e o.edit;
      faults = faults_left p q tests models r number e next later o.edit (o.after).parts_are;
      has_test = ap (has_test_row q.table.tests.items) after_id ∙ found_after.is_there;
      test_left = left_for a.model_row.id a.model.numbers.items a.model.reading same.said;
      may_keep = (parts_kept q after (models_with r models) o.after).may_keep;
    };
  }
