-- Read this first: what the texts of the bench say with their stamps, and what holds of them at all
-- times (`AreSoundTexts`).
use Rattle.std.specs.Prelude.{◌≡◌, ℕ, List, Option, Some, None, slice_get}
use Rattle.memo_core.specs.declared.keys.Kind.TheVariants as kinds
use Rattle.memo_core.specs.declared.keys.Node.{Node}
use Rattle.memo_core.specs.Graph.{Net}
use Rattle.bench_values.specs.Givens.{GivenContent}
use Rattle.bench_nodes.specs.declared.table.ModelRow.{ModelRow}
use Rattle.bench_nodes.specs.declared.table.TestRow.{TestRow}
use Rattle.bench_parts.specs.Contents as contents
use Rattle.bench_parts.specs.Contents.{PartsState}
use Rattle.bench_parts.specs.States as states
use Rattle.bench_parts.specs.Written as written
use Rattle.bench_parts.specs.Written.{WrittenState}
use Rattle.bench_texts.specs.BenchTexts.{test_index, model_index}
use Rattle.bench_texts.specs.Held.{texts_of, AreModelsRead}
use Rattle.bench_edits.specs.Readings.{written_state}
use Rattle.bench_edits.specs.Owed.{ArePartsOf}
use Rattle.bench_edits.specs.Left.{AreKindsOf}
use Rattle.bench_text_laws.specs.Orderly.{IsOrderly}
use Rattle.bench_instance.specs.declared.stamped_texts.StampedTexts.{StampedTexts}

abbrev pub stamped_state : StampedTexts → PartsState
stamped_state t = contents.parts_state t.parts t.texts.tests.items

-- the state with its models as they are written
abbrev pub written_of : StampedTexts → WrittenState
written_of t = written_state t.parts t.texts.tests.items t.texts.models.items t.texts.next

-- the models are as they are read, the parts are those of the tests and models, and all have names
-- and numbers of their own
pub record AreSoundTexts (t : StampedTexts) : Type 0 where
  pub read : AreModelsRead t.texts
  pub parts_are : ArePartsOf t.parts t.texts.tests.items t.texts.models.items
  pub orderly : IsOrderly (texts_of t.texts)
  pub kinds : AreKindsOf t.parts t.texts.models.items

-- the later texts say what the earlier ones say, and hold the same tests and models
pub record HasTextsOf (t u : StampedTexts) : Type 0 where
  pub texts : texts_of u.texts ≡ texts_of t.texts
  pub tests : u.texts.tests.items ≡ t.texts.tests.items
  pub models : u.texts.models.items ≡ t.texts.models.items

-- the tests and the models of the later texts have the numbers that they had
pub record HasRowsOf (t u : StampedTexts) : Type 0 where
  pub tests : u.parts.table.tests.items ≡ t.parts.table.tests.items
  pub models : u.parts.table.models.items ≡ t.parts.table.models.items

-- the later texts came of the earlier ones; without an edit between them they say the same, of the
-- same numbers
pub record AreTextsSince (t u : StampedTexts) : Type 0 where
  pub sound : AreSoundTexts u
  pub since : written.IsStateSince (written_of t) (written_of u)
  pub same : u.parts.last ≡ t.parts.last → HasTextsOf t u
  pub same_rows : u.parts.last ≡ t.parts.last → HasRowsOf t u

abbrev pub stamped_net : StampedTexts → Net GivenContent
stamped_net t = states.net_in (stamped_state t)

abbrev pub IsNodeThere : StampedTexts → Node → Type 0
IsNodeThere t n = states.IsUsedNode (stamped_state t) n

-- ---- cells

-- the verdict of the test and the model of these rows
abbrev pub verdict_by : Option TestRow → Option ModelRow → Option Node
verdict_by None m = None
verdict_by (Some t) None = None
verdict_by (Some t) (Some m) = Some (record { kind = kinds.Verdict; test = t.id; of = m.id })

-- the verdict of the test and the model of these names
abbrev pub verdict_of : StampedTexts → List ℕ → List ℕ → Option Node
verdict_of t test model =
    verdict_by (slice_get t.parts.table.tests.items (test_index test (texts_of t.texts).tests))
    (slice_get t.parts.table.models.items (model_index model (texts_of t.texts).models))
