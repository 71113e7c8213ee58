-- The parts of the bench after an edit of a test.
use Rattle.std.proofs.Common.{ℕ, ◌<◌, ◌≤◌, ◌≡◌, ◌^◌, inl, inr, List, [], ◌∷◌, length, map, Option, Some, None, Vec, Global, sym, ap, subst, ◌∙◌, arith}
use Rattle.std.specs.List.{AllZip, AllByRecursion as Each, remove}
use Rattle.std.proofs.lemmas.Bool.Decides.{eqb_tells}
use Rattle.text_values.specs.declared.test.Test.{Test}
use Rattle.ppc_lowering.specs.Lowering.{AreNamesOf, test_names}
use Rattle.binding_kinds.specs.declared.fault.ModelFault.{ModelFault}
use Rattle.bench_items.specs.declared.items.SharedItem.{SharedItem}
use Rattle.bench_texts.proofs.Lists.{map-remove}
use Rattle.bench_texts.specs.BenchTexts.{put_at}
use Rattle.bench_texts.specs.Replacements.{tests_with, models_with}
use Rattle.bench_texts.specs.declared.model.NamedModel.{NamedModel}
use Rattle.bench_texts.specs.declared.replacement.Replacement.{Replacement}
use Rattle.bench_texts.specs.declared.replacement.Replacement.TheVariants as made
use Rattle.bench_nodes.specs.declared.table.ItemRow.{ItemRow}
use Rattle.bench_nodes.specs.declared.table.ModelRow.{ModelRow}
use Rattle.bench_nodes.specs.declared.table.Slot.{Slot}
use Rattle.bench_nodes.specs.declared.table.TestRow.{TestRow}
use Rattle.bench_nodes.specs.Nodes.{item_stamp, fault_stamp, test_stamp}
use Rattle.bench_slots.specs.Slots.{plain, item_history}
use Rattle.bench_slots.specs.Tables.{ModelReading, Sound, Faulty, all_slots}
use Rattle.bench_parts.specs.declared.parts.Parts.{Parts}
use Rattle.bench_parts.specs.Built.{IsItemRow, IsModelRow, IsTestRow, AreTestRows, IsModelIn, IsBuilt}
use Rattle.bench_parts.specs.Contents.{PartsState, parts_state, content, item_content, fault_content, test_content}
use Rattle.bench_parts.specs.Written.{IsPartAfter, item_text}
use Rattle.bench_parts.specs.TableLaws.{IsTestAfter}
use Rattle.bench_parts.specs.Stamps.{IsLaterNumber, IsPartNow, next_number}
use Rattle.bench_parts.proofs.TestRows.{test_stamped, parts_now}
use Rattle.bench_edits.specs.declared.edited.EditedParts.{EditedParts}
use Rattle.bench_edits.specs.declared.edited.EditedParts.TheVariants as edited
use Rattle.bench_edits.specs.Edited.{entry_at, test_id, IsTestMade, AreModelsSame, PutsTest, DropsTest}
use Rattle.bench_edits.specs.Laws.{IsEdit, IsOfTest}
use Rattle.bench_edits.specs.Owed.{ArePartsOf}
use Rattle.bench_text_laws.specs.Orderly.{AreApart}
use Rattle.bench_edits.specs.Readings.{readings_of, written_models, written_state}
use Rattle.bench_edits.proofs.PutTests.{entry_was, rows_put, zip_put, parts_put, apart_put, low_put, id_low, rows_removed, zip_removed, parts_removed, apart_removed, low_removed}

-- ---- the number that stands for that of the edit

pub fresh_above : (last number : ℕ) → IsLaterNumber last number → last < next_number last
fresh_above last number n =
    let later : last < number = n.later in let fits : number < 2 ^ 64 = n.fits in omega arith

pub fresh_most : (last number : ℕ) → IsLaterNumber last number → next_number last ≤ number
fresh_most last number n =
    let later : last < number = n.later in let fits : number < 2 ^ 64 = n.fits in omega arith

-- ---- rows that stay

items_stay : (last number : ℕ) (rows : List ItemRow) (roles : List (Option SharedItem))
    → last ≤ number → AllZip (IsItemRow last) rows roles → AllZip (IsItemRow number) rows roles
items_stay last number [] [] le h = tt
items_stay last number [] (d ∷ ds) le h = absurd h
items_stay last number (r ∷ rs) [] le h = absurd h
items_stay last number (r ∷ rs) (d ∷ ds) le h =
    let low : r.stamp ≤ last = h.0.1 in
    ((h.0.0, omega (arith, low, le)), items_stay last number rs ds le h.1)

faults_stay : (last number : ℕ) (rows : List ModelRow) (faults : List (Option ModelFault))
    → last ≤ number → AllZip (IsModelRow last) rows faults → AllZip (IsModelRow number) rows faults
faults_stay last number [] [] le h = tt
faults_stay last number [] (d ∷ ds) le h = absurd h
faults_stay last number (r ∷ rs) [] le h = absurd h
faults_stay last number (r ∷ rs) (d ∷ ds) le h = (one d h.0, faults_stay last number rs ds le h.1)
  where
    one : (d : Option ModelFault) → IsModelRow last r d → IsModelRow number r d
    one None k = k
    one (Some d) k = (k.0, omega (arith, k.1, le))

lows_stay : (last number : ℕ) (rows : List ModelRow) → last ≤ number → Each (λ r. r.id ≤ last) rows
    → Each (λ r. r.id ≤ number) rows
lows_stay last number [] le h = tt
lows_stay last number (r ∷ rs) le h = (omega (arith, h.0, le), lows_stay last number rs le h.1)

-- ---- models that stay

models_in_stay : (s t : PartsState) (ms : List ModelReading)
    → ((of : ℕ) → content t 0 of ≡ content s 0 of) → ((of : ℕ) → content t 1 of ≡ content s 1 of)
    → Each (IsModelIn s) ms → Each (IsModelIn t) ms
models_in_stay s t [] items faults h = tt
models_in_stay s t (m ∷ ms) items faults h = (one m h.0, models_in_stay s t ms items faults h.1)
  where
    one : (m : ModelReading) → IsModelIn s m → IsModelIn t m
    one (Sound id numbers is used) k =
        (k.0, λ index r e. (let was = k.1 index r e in (was.0, items _ ∙ was.1)))
    one (Faulty id fault) k = faults id ∙ k

module _ (p q : Parts) (same : AreModelsSame p q) where
  items_same : (of : ℕ)
      → item_content q.table.items.items q.roles.items of
      ≡ item_content p.table.items.items p.roles.items of
  items_same of =
      ap (λ (l : List ItemRow). item_content l q.roles.items of) same.items
      ∙ ap (λ (l : List (Option SharedItem)). item_content p.table.items.items l of) same.roles

  faults_same : (of : ℕ)
      → fault_content q.table.models.items q.faults.items of
      ≡ fault_content p.table.models.items p.faults.items of
  faults_same of =
      ap (λ (l : List ModelRow). fault_content l q.faults.items of) same.rows
      ∙ ap (λ (l : List (Option ModelFault)). fault_content p.table.models.items l of) same.faults

  item_stamps : (of : ℕ) → item_stamp q.table.items.items of ≡ item_stamp p.table.items.items of
  item_stamps of = ap (λ (l : List ItemRow). item_stamp l of) same.items

  fault_stamps : (of : ℕ)
      → fault_stamp q.table.models.items of ≡ fault_stamp p.table.models.items of
  fault_stamps of = ap (λ (l : List ModelRow). fault_stamp l of) same.rows

  texts_same : (models : List NamedModel) (of : ℕ)
      → item_text (written_models q.table.models.items models) of
      ≡ item_text (written_models p.table.models.items models) of
  texts_same models of =
      ap (λ (l : List ModelRow). item_text (written_models l models) of) same.rows

  -- the parts of items and models are as they were
  parts_after : (tests after : List Test) (models : List NamedModel) (number : ℕ)
      → ((part of : ℕ)
      → IsPartNow (test_content p.table.tests.items tests p.locations.items part of)
      (test_stamp p.table.tests.items part of) number
      (test_content q.table.tests.items after q.locations.items part of)
      (test_stamp q.table.tests.items part of))
      → (next later part of : ℕ)
      → IsPartAfter (written_state p tests models next) number
      (written_state q after models later) part of
  parts_after tests after models number now next later part of = elim (eqb_tells part 0) [
    | inl zero_is ↦ rw zero_is.0 (inl (item_stamps of, texts_same models of))
    | inr other ↦ elim (eqb_tells part 1) [
      | inl one_is ↦ rw (other.0, one_is.0) (inl (fault_stamps of, faults_same of))
      | inr more ↦ rw (other.0, more.0) (now part of)
    ]
  ]

  slots_stay : (models : List NamedModel)
      → all_slots (item_history p.table.items.items p.roles.items)
      (readings_of p.table.models.items models)
      ≡ all_slots (item_history q.table.items.items q.roles.items)
      (readings_of q.table.models.items models)
  slots_stay models =
      ap
      (λ (l : List ModelRow).
      all_slots (item_history p.table.items.items p.roles.items) (readings_of l models))
      (sym same.rows)
      ∙ ap
      (λ (l : List ItemRow).
      all_slots (item_history l p.roles.items) (readings_of q.table.models.items models))
      (sym same.items)
      ∙ ap
      (λ (l : List (Option SharedItem)). all_slots (item_history q.table.items.items l)
      (readings_of q.table.models.items models))
      (sym same.roles)

  -- what is built of tests that changed
  built_after : (tests after : List Test) (models : List NamedModel) (number : ℕ) → p.last ≤ number
      → q.last ≡ number → IsBuilt (parts_state p tests) (readings_of p.table.models.items models)
      → AreTestRows number q.table.tests.items after q.locations.items
      → IsBuilt (parts_state q after) (readings_of q.table.models.items models)
  built_after tests after models number le last built rows = record {
    slots = ap (λ (l : List Slot). map plain l) same.slots ∙ (built.slots ∙ slots_stay models);
    models_in =
        subst (λ (l : List ModelRow). Each (IsModelIn (parts_state q after)) (readings_of l models))
        (sym same.rows)
        (models_in_stay (parts_state p tests) (parts_state q after)
        (readings_of p.table.models.items models) items_same faults_same built.models_in);
    items = subst (λ (n : ℕ). AllZip (IsItemRow n) q.table.items.items q.roles.items) (sym last)
        (subst (λ (l : List (Option SharedItem)). AllZip (IsItemRow number) q.table.items.items l)
        (sym same.roles)
        (subst (λ (l : List ItemRow). AllZip (IsItemRow number) l p.roles.items) (sym same.items)
        (items_stay p.last number p.table.items.items p.roles.items le built.items)));
    faults = subst (λ (n : ℕ). AllZip (IsModelRow n) q.table.models.items q.faults.items) (sym last)
        (subst (λ (l : List (Option ModelFault)). AllZip (IsModelRow number) q.table.models.items l)
        (sym same.faults)
        (subst (λ (l : List ModelRow). AllZip (IsModelRow number) l p.faults.items) (sym same.rows)
        (faults_stay p.last number p.table.models.items p.faults.items le built.faults)));
    tests =
        subst (λ (n : ℕ). AreTestRows n q.table.tests.items after q.locations.items) (sym last)
        rows;
  }

  -- the parts of tests that changed
  owed_after : (tests after : List Test) (models : List NamedModel) (number : ℕ) → p.last ≤ number
      → q.last ≡ number → ArePartsOf p tests models
      → AreTestRows number q.table.tests.items after q.locations.items
      → AreApart (map (λ r. r.id) q.table.tests.items)
      → Each (λ r. r.id ≤ number) q.table.tests.items
      → AllZip (λ c l. AreNamesOf (test_names c) l.items) after q.locations.items
      → ArePartsOf q after models
  owed_after tests after models number le last owed rows apart low names = record {
    built = built_after tests after models number le last owed.built rows;
    each_model = ap (λ (l : List ModelRow). length l) same.rows ∙ owed.each_model;
    each_item = ap (λ (l : List ItemRow). map (λ i. i.number) l) same.items ∙ owed.each_item;
    numbered = record {
      tests_apart = apart;
      models_apart =
          subst (λ (l : List ModelRow). AreApart (map (λ r. r.id) l)) (sym same.rows)
          owed.numbered.models_apart;
      tests_low = subst (λ (n : ℕ). Each (λ r. r.id ≤ n) q.table.tests.items) (sym last) low;
      models_low = subst (λ (n : ℕ). Each (λ r. r.id ≤ n) q.table.models.items) (sym last)
          (subst (λ (l : List ModelRow). Each (λ r. r.id ≤ number) l) (sym same.rows)
          (lows_stay p.last number p.table.models.items le owed.numbered.models_low));
    };
    locations = names;
  }

-- ---- a test takes an index

module _ (p q : Parts) (tests : List Test) (models : List NamedModel) (number at : ℕ) (test : Test)
    (row : TestRow) (names : Vec (List ℕ) Global)
    (later : IsLaterNumber p.last number) (owed : ArePartsOf p tests models)
    (one : IsTestMade p tests at test row names.items) (puts : PutsTest p number at row names q)
    (last : q.last ≡ number) where
  le : p.last ≤ number
  le = let lt : p.last < number = later.later in omega arith

  after_it : IsTestAfter p.last number (entry_at p tests at)
      (test_id (next_number p.last) (entry_at p tests at)) test names.items puts.new
  after_it = record {
    later = later;
    was = entry_was p.last p.table.tests.items tests p.locations.items at owed.built.tests;
    row = row;
    made = one.made;
    raised = puts.raised;
  }

  id : puts.new.id ≡ test_id (next_number p.last) (entry_at p tests at)
  id = puts.raised.id_is ∙ one.made.id_is

  stamped : IsTestRow number puts.new test
  stamped =
      test_stamped p.last number (test_id (next_number p.last) (entry_at p tests at))
      (entry_at p tests at) test names.items puts.new after_it

  lists : AreTestRows number q.table.tests.items (put_at at test tests) q.locations.items
  lists =
      subst
      (λ (l : List (Vec (List ℕ) Global)).
      AreTestRows number q.table.tests.items (put_at at test tests) l)
      (sym puts.locations_are)
      (subst
      (λ (l : List TestRow).
      AreTestRows number l (put_at at test tests) (put_at at names p.locations.items))
      (sym puts.rows)
      (rows_put p.last number at p.table.tests.items tests p.locations.items puts.new test names le
      owed.built.tests stamped))

  pub put_keeps : ArePartsOf q (put_at at test tests) models
  put_keeps =
      owed_after p q puts.models tests (put_at at test tests) models number le last owed lists
      (subst (λ (l : List TestRow). AreApart (map (λ r. r.id) l)) (sym puts.rows)
      (apart_put (next_number p.last) at p.last p.table.tests.items tests p.locations.items
      puts.new owed.built.tests id (fresh_above p.last number later)
      owed.numbered.tests_low owed.numbered.tests_apart))
      (subst (λ (l : List TestRow). Each (λ r. r.id ≤ number) l) (sym puts.rows)
      (low_put number at p.last p.table.tests.items puts.new id_most le
      owed.numbered.tests_low))
      (subst
      (λ (l : List (Vec (List ℕ) Global)).
      AllZip (λ c n. AreNamesOf (test_names c) n.items) (put_at at test tests) l)
      (sym puts.locations_are)
      (zip_put (λ (c : Test) (n : Vec (List ℕ) Global). AreNamesOf (test_names c) n.items) at
      tests p.locations.items test names owed.locations one.names))
    where
      id_most : puts.new.id ≤ number
      id_most =
          let a = id_low (next_number p.last) at p.last p.table.tests.items tests p.locations.items (fresh_above p.last number later) owed.numbered.tests_low in
          let b = fresh_most p.last number later in
          let e : puts.new.id ≡ test_id (next_number p.last) (entry_at p tests at) = id in omega (arith, a, b, e)

  pub put_goes_on : (next next_now part of : ℕ)
      → IsPartAfter (written_state p tests models next) number
      (written_state q (put_at at test tests) models next_now) part of
  put_goes_on = parts_after p q puts.models tests (put_at at test tests) models number now
    where
      now : (part of : ℕ)
          → IsPartNow (test_content p.table.tests.items tests p.locations.items part of)
          (test_stamp p.table.tests.items part of) number
          (test_content q.table.tests.items (put_at at test tests) q.locations.items part of)
          (test_stamp q.table.tests.items part of)
      now part of =
          subst
          (λ (l : List TestRow). IsPartNow
          (test_content p.table.tests.items tests p.locations.items part of)
          (test_stamp p.table.tests.items part of) number
          (test_content l (put_at at test tests) q.locations.items part of)
          (test_stamp l part of))
          (sym puts.rows)
          (subst
          (λ (l : List (Vec (List ℕ) Global)). IsPartNow
          (test_content p.table.tests.items tests p.locations.items part of)
          (test_stamp p.table.tests.items part of) number
          (test_content (put_at at puts.new p.table.tests.items) (put_at at test tests) l
          part of)
          (test_stamp (put_at at puts.new p.table.tests.items) part of))
          (sym puts.locations_are)
          (parts_put number (next_number p.last) at p.table.tests.items tests p.locations.items
          puts.new test names p.last owed.built.tests id
          (parts_now p.last number (test_id (next_number p.last) (entry_at p tests at))
          (entry_at p tests at) test names.items puts.new after_it) part of))

-- ---- a test goes

module _ (p q : Parts) (tests : List Test) (models : List NamedModel) (number at : ℕ)
    (later : IsLaterNumber p.last number) (owed : ArePartsOf p tests models)
    (drops : DropsTest p at q) (last : q.last ≡ number) where
  le_drop : p.last ≤ number
  le_drop = let lt : p.last < number = later.later in omega arith

  lists_drop : AreTestRows number q.table.tests.items (remove tests at) q.locations.items
  lists_drop =
      subst
      (λ (l : List (Vec (List ℕ) Global)).
      AreTestRows number q.table.tests.items (remove tests at) l)
      (sym drops.locations)
      (subst
      (λ (l : List TestRow).
      AreTestRows number l (remove tests at) (remove p.locations.items at))
      (sym drops.rows)
      (rows_removed p.last number at p.table.tests.items tests p.locations.items le_drop
      owed.built.tests))

  pub drop_keeps : ArePartsOf q (remove tests at) models
  drop_keeps =
      owed_after p q drops.models tests (remove tests at) models number le_drop last owed lists_drop
      (subst (λ (l : List TestRow). AreApart (map (λ r. r.id) l)) (sym drops.rows)
      (rw map-remove (apart_removed (map (λ r. r.id) p.table.tests.items) at
      owed.numbered.tests_apart)))
      (subst (λ (l : List TestRow). Each (λ r. r.id ≤ number) l) (sym drops.rows)
      (low_removed number p.last at p.table.tests.items le_drop owed.numbered.tests_low))
      (subst
      (λ (l : List (Vec (List ℕ) Global)).
      AllZip (λ c n. AreNamesOf (test_names c) n.items) (remove tests at) l)
      (sym drops.locations)
      (zip_removed (λ (c : Test) (n : Vec (List ℕ) Global). AreNamesOf (test_names c) n.items)
      at tests p.locations.items owed.locations))

  pub drop_goes_on : (next next_now part of : ℕ)
      → IsPartAfter (written_state p tests models next) number
      (written_state q (remove tests at) models next_now) part of
  drop_goes_on = parts_after p q drops.models tests (remove tests at) models number now
    where
      now : (part of : ℕ)
          → IsPartNow (test_content p.table.tests.items tests p.locations.items part of)
          (test_stamp p.table.tests.items part of) number
          (test_content q.table.tests.items (remove tests at) q.locations.items part of)
          (test_stamp q.table.tests.items part of)
      now part of =
          subst
          (λ (l : List TestRow). IsPartNow
          (test_content p.table.tests.items tests p.locations.items part of)
          (test_stamp p.table.tests.items part of) number
          (test_content l (remove tests at) q.locations.items part of)
          (test_stamp l part of))
          (sym drops.rows)
          (subst
          (λ (l : List (Vec (List ℕ) Global)). IsPartNow
          (test_content p.table.tests.items tests p.locations.items part of)
          (test_stamp p.table.tests.items part of) number
          (test_content (remove p.table.tests.items at) (remove tests at) l part of)
          (test_stamp (remove p.table.tests.items at) part of))
          (sym drops.locations)
          (parts_removed number at p.last p.table.tests.items tests p.locations.items
          owed.built.tests owed.numbered.tests_apart part of))

-- ---- both

pub tests_keep : (p q : Parts) (tests : List Test) (models : List NamedModel) (r : Replacement)
    (number : ℕ) (e : EditedParts) → IsEdit p tests models r number e q → IsOfTest r
    → ArePartsOf q (tests_with r tests) (models_with r models)
tests_keep p q tests models (made.PutTest at test) number (edited.PutTest to row names) edit kind =
    subst (λ (i : ℕ). ArePartsOf q (put_at i test tests) models) edit.is_made.0
    (put_keeps p q tests models number to test row names edit.later edit.owed
    (subst (λ (i : ℕ). IsTestMade p tests i test row names.items) (sym edit.is_made.0)
    edit.is_made.1) edit.committed.changes edit.committed.last)
tests_keep p q tests models (made.PutTest at test) number (edited.DropTest to) edit kind =
    absurd edit.is_made
tests_keep p q tests models (made.PutTest at test) number (edited.Models m) edit kind =
    absurd edit.is_made
tests_keep p q tests models (made.DropTest at) number (edited.PutTest to row names) edit kind =
    absurd edit.is_made
tests_keep p q tests models (made.DropTest at) number (edited.DropTest to) edit kind =
    subst (λ (i : ℕ). ArePartsOf q (remove tests i) models) edit.is_made (drop_keeps p q tests
    models number to edit.later edit.owed edit.committed.changes edit.committed.last)
tests_keep p q tests models (made.DropTest at) number (edited.Models m) edit kind =
    absurd edit.is_made
tests_keep p q tests models (made.PutModel at model next) number e edit kind = absurd kind
tests_keep p q tests models (made.DropModel at) number e edit kind = absurd kind

pub tests_go_on : (p q : Parts) (tests : List Test) (models : List NamedModel) (r : Replacement)
    (number : ℕ) (e : EditedParts) → IsEdit p tests models r number e q → IsOfTest r
    → (next later part of : ℕ)
    → IsPartAfter (written_state p tests models next) number
    (written_state q (tests_with r tests) (models_with r models) later) part of
tests_go_on p q tests models (made.PutTest at test) number (edited.PutTest to row names) edit kind
    next later part of =
    subst
    (λ (i : ℕ). IsPartAfter (written_state p tests models next) number
    (written_state q (put_at i test tests) models later) part of) edit.is_made.0
    (put_goes_on p q tests models number to test row names edit.later edit.owed
    (subst (λ (i : ℕ). IsTestMade p tests i test row names.items) (sym edit.is_made.0)
    edit.is_made.1) edit.committed.changes edit.committed.last next later part of)
tests_go_on p q tests models (made.PutTest at test) number (edited.DropTest to) edit kind next later
    part of = absurd edit.is_made
tests_go_on p q tests models (made.PutTest at test) number (edited.Models m) edit kind next later
    part of = absurd edit.is_made
tests_go_on p q tests models (made.DropTest at) number (edited.PutTest to row names) edit kind next
    later part of = absurd edit.is_made
tests_go_on p q tests models (made.DropTest at) number (edited.DropTest to) edit kind next later
    part of =
    subst
    (λ (i : ℕ). IsPartAfter (written_state p tests models next) number
    (written_state q (remove tests i) models later) part of) edit.is_made
    (drop_goes_on p q tests models number to edit.later edit.owed edit.committed.changes
    edit.committed.last next later part of)
tests_go_on p q tests models (made.DropTest at) number (edited.Models m) edit kind next later part
    of = absurd edit.is_made
tests_go_on p q tests models (made.PutModel at model next) number e edit kind first later part of =
    absurd kind
tests_go_on p q tests models (made.DropModel at) number e edit kind first later part of =
    absurd kind
