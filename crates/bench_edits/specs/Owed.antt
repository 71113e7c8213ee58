-- What the parts of the bench owe to its tests and models. Read it after Readings. The laws cite
-- it.
use Rattle.std.specs.Prelude.{◌≡◌, ℕ, ◌≤◌, List, length, map}
use Rattle.std.specs.List.{AllZip, AllByRecursion as Each, flat_map}
use Rattle.text_values.specs.declared.test.Test.{Test}
use Rattle.ppc_lowering.specs.Lowering.{AreNamesOf, test_names}
use Rattle.bench_texts.specs.declared.model.NamedModel.{NamedModel}
use Rattle.bench_nodes.specs.declared.table.ModelRow.{ModelRow}
use Rattle.bench_nodes.specs.declared.table.TestRow.{TestRow}
use Rattle.bench_parts.specs.Built.{IsBuilt}
use Rattle.bench_parts.specs.Contents.{parts_state}
use Rattle.bench_parts.specs.declared.parts.Parts.{Parts}
use Rattle.bench_edits.specs.Readings.{readings_of}
use Rattle.bench_text_laws.specs.Orderly.{AreApart}

-- the numbers of the items of all models
abbrev pub item_numbers : List NamedModel → List ℕ
item_numbers models = flat_map (λ m. m.numbers.items) models

-- no two tests and no two models have one number, which is at most that of the last edit
pub record AreRowsNumbered (last : ℕ) (tests : List TestRow) (models : List ModelRow) : Type 0 where
  pub tests_apart : AreApart (map (λ r. r.id) tests)
  pub models_apart : AreApart (map (λ r. r.id) models)
  pub tests_low : Each (λ r. r.id ≤ last) tests
  pub models_low : Each (λ r. r.id ≤ last) models

-- The state is built of the tests, and of the models as they are read. Each model and each item has
-- a row, and the locations of each test are those that it names.
pub record ArePartsOf (p : Parts) (tests : List Test) (models : List NamedModel) : Type 0 where
  pub built : IsBuilt (parts_state p tests) (readings_of p.table.models.items models)
  pub each_model : length p.table.models.items ≡ length models
  pub each_item : map (λ i. i.number) p.table.items.items ≡ item_numbers models
  pub numbered : AreRowsNumbered p.last p.table.tests.items p.table.models.items
  pub locations : AllZip (λ c l. AreNamesOf (test_names c) l.items) tests p.locations.items
