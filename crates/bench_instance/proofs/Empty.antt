-- Texts without tests and models.
use Rattle.std.proofs.Common.{◌≡◌, ℕ, ◌==◌, Bool, true, false, if◌then◌else◌, List, [], ◌∷◌, length, map, Vec, refl, sym, ap, subst}
use Rattle.std.specs.declared.alloc.Global.{Global}
use Rattle.std.specs.List.{AllZip}
use Rattle.text_values.specs.TestValue.{content_of}
use Rattle.text_values.specs.declared.test.Test.{Test}
use Rattle.ppc_lowering.specs.Lowering.{AreNamesOf, test_names}
use Rattle.bench_texts.specs.declared.model.NamedModel.{NamedModel}
use Rattle.bench_texts.specs.BenchTexts.{BenchTexts}
use Rattle.bench_texts.specs.Held.{plain_model, texts_of, AreModelsRead}
use Rattle.bench_nodes.specs.declared.table.ItemRow.{ItemRow}
use Rattle.bench_nodes.specs.declared.table.ModelRow.{ModelRow}
use Rattle.bench_nodes.specs.declared.table.TestRow.{TestRow}
use Rattle.bench_nodes.specs.Nodes.{item_stamp, fault_stamp, test_stamp, part_stamp}
use Rattle.bench_parts.specs.declared.parts.Parts.{Parts}
use Rattle.bench_parts.specs.Built.{AreTestRows, IsBuilt}
use Rattle.bench_parts.specs.Contents as contents
use Rattle.bench_edits.specs.Owed.{AreRowsNumbered, ArePartsOf}
use Rattle.bench_edits.specs.Readings.{readings_of}
use Rattle.bench_text_laws.specs.Orderly.{IsOrderly}
use Rattle.bench_edits.specs.Left.{AreKindsOf}
use Rattle.bench_instance.specs.declared.stamped_texts.StampedTexts.{StampedTexts}
use Rattle.bench_instance.specs.StampedTexts.{AreSoundTexts}

abbrev pub empty_texts : BenchTexts
empty_texts = record { tests = []; models = []; next = 1 }

none_of : {A B : Type 0} (f : A → B) (xs : List A) → map f xs ≡ [] → xs ≡ []
none_of f [] e = refl
none_of f (x ∷ xs) e = cc

either_none : (b : Bool) (m n : ℕ) → m ≡ 0 → n ≡ 0 → (if b then m else n) ≡ 0
either_none true m n e f = e
either_none false m n e f = f

no_rows : (last : ℕ) (rows : List TestRow) (ls : List (Vec (List ℕ) Global))
    → AreTestRows last rows [] ls → rows ≡ []
no_rows last [] ls h = refl
no_rows last (r ∷ rs) ls h = absurd h

no_locations : (last : ℕ) (rows : List TestRow) (ls : List (Vec (List ℕ) Global))
    → AreTestRows last rows [] ls → ls ≡ []
no_locations last [] [] h = refl
no_locations last [] (l ∷ ls) h = absurd h
no_locations last (r ∷ rs) ls h = absurd h

orderly_empty : IsOrderly empty_texts
orderly_empty = record { tests = tt; models = tt; items = tt; next = λ n h. absurd h }

-- parts without tests and models
module _ (p : Parts) (built : IsBuilt (contents.parts_state p []) [])
    (items : p.table.items.items ≡ []) (models : p.table.models.items ≡ []) where
  rows_none : p.table.tests.items ≡ []
  rows_none = no_rows p.last p.table.tests.items p.locations.items built.tests

  locations_none : p.locations.items ≡ []
  locations_none = no_locations p.last p.table.tests.items p.locations.items built.tests

  numbered_none : AreRowsNumbered p.last p.table.tests.items p.table.models.items
  numbered_none =
      subst (λ (rs : List TestRow). AreRowsNumbered p.last rs p.table.models.items) (sym rows_none)
      (subst (λ (ms : List ModelRow). AreRowsNumbered p.last [] ms) (sym models)
      (record { tests_apart = tt; models_apart = tt; tests_low = tt; models_low = tt }))

  pub parts_are_empty : ArePartsOf p [] []
  parts_are_empty = record {
    built =
        subst (λ (rows : List ModelRow). IsBuilt (contents.parts_state p []) (readings_of rows []))
        (sym models) built;
    each_model = ap length models;
    each_item = ap (map (λ i. i.number)) items;
    numbered = numbered_none;
    locations =
        subst (λ ls. AllZip (λ c l. AreNamesOf (test_names c) l.items) [] ls) (sym locations_none) tt;
  }

-- texts without tests and models
module _ (t : StampedTexts) (empty : texts_of t.texts ≡ empty_texts) (read : AreModelsRead t.texts)
    (built : IsBuilt (contents.parts_state t.parts []) []) (items : t.parts.table.items.items ≡ [])
    (models : t.parts.table.models.items ≡ []) where
  no_tests : t.texts.tests.items ≡ []
  no_tests = none_of content_of t.texts.tests.items (ap (λ (b : BenchTexts). b.tests) empty)

  no_models : t.texts.models.items ≡ []
  no_models = none_of plain_model t.texts.models.items (ap (λ (b : BenchTexts). b.models) empty)

  pub empty_sound : AreSoundTexts t
  empty_sound = record {
    read = read;
    parts_are =
        subst (λ (ts : List Test). ArePartsOf t.parts ts t.texts.models.items) (sym no_tests)
        (subst (λ (ms : List NamedModel). ArePartsOf t.parts [] ms) (sym no_models)
        (parts_are_empty t.parts built items models));
    orderly = subst IsOrderly (sym empty) orderly_empty;
    kinds = subst (λ (ms : List NamedModel). AreKindsOf t.parts ms) (sym no_models) tt;
  }

  pub empty_parts : (part of : ℕ) → part_stamp t.parts.table part of ≡ 0
  empty_parts part of =
      either_none (part == 0) (item_stamp t.parts.table.items.items of) (if part == 1 then fault_stamp
      t.parts.table.models.items of
      else test_stamp t.parts.table.tests.items part of)
      (ap (λ (rows : List ItemRow). item_stamp rows of) items)
      (either_none (part == 1) (fault_stamp t.parts.table.models.items of)
      (test_stamp t.parts.table.tests.items part of)
      (ap (λ (rows : List ModelRow). fault_stamp rows of) models)
      (ap (λ (rows : List TestRow). test_stamp rows part of)
      (rows_none t.parts built items models)))
