-- What an edit makes of the parts of the bench, and what they are after it. Read it after Readings.
use Rattle.std.specs.Prelude.{◌≡◌, ⊤, ℕ, zero, suc, ◌<◌, List, [], ◌∷◌, ◌++◌, length, map, remove, nat_lt, if◌then◌else◌, slice_get, Vec, vec_len, vec_capacity, Option, Some, None}
use Rattle.std.specs.declared.alloc.Global.{Global}
use Rattle.text_values.specs.declared.test.Test.{Test}
use Rattle.ppc_lowering.specs.Lowering.{AreNamesOf, test_names}
use Rattle.binding_kinds.specs.declared.fault.ModelFault.{ModelFault}
use Rattle.bench_texts.specs.declared.model.NamedModel.{NamedModel}
use Rattle.bench_texts.specs.declared.replacement.Replacement.{Replacement}
use Rattle.bench_texts.specs.declared.replacement.Replacement.TheVariants as made
use Rattle.bench_texts.specs.BenchTexts.{put_at}
use Rattle.bench_texts.specs.Replacements.{models_with}
use Rattle.bench_nodes.specs.declared.table.ModelRow.{ModelRow}
use Rattle.bench_nodes.specs.declared.table.TestRow.{TestRow}
use Rattle.bench_slots.specs.Slots.{plain, item_history}
use Rattle.bench_slots.specs.Tables.{all_slots}
use Rattle.bench_parts.specs.declared.parts.Parts.{Parts}
use Rattle.bench_parts.specs.declared.model_rows.HeldModel.{HeldModel}
use Rattle.bench_parts.specs.Models.{raised_model, IsModelRowOf}
use Rattle.bench_parts.specs.Stamps.{next_number}
use Rattle.bench_parts.specs.Tests.{TestEntry, IsRowOf, IsRaisedRow}
use Rattle.bench_parts.specs.Items.{raised_item, AreListsOf}
use Rattle.bench_edits.specs.declared.edited.EditedParts.{EditedParts}
use Rattle.bench_edits.specs.declared.edited.EditedParts.TheVariants as edited
use Rattle.bench_edits.specs.declared.edited.ModelParts.{ModelParts}
use Rattle.bench_edits.specs.Readings.{fault_in, readings_of, all_facts, named_text}

-- ---- tests

abbrev pub entry_by : Option TestRow → Option Test → Option (Vec (List ℕ) Global) → Option TestEntry
entry_by (Some r) (Some t) (Some l) = Some (record { row = r; test = t; locations = l.items })
entry_by _ _ _ = None

-- the test at an index before the edit
abbrev pub entry_at : Parts → List Test → ℕ → Option TestEntry
entry_at p tests at =
    entry_by (slice_get p.table.tests.items at) (slice_get tests at)
    (slice_get p.locations.items at)

-- a test that was there keeps its number, and a new one gets a new one
abbrev pub test_id : ℕ → Option TestEntry → ℕ
test_id fresh None = fresh
test_id fresh (Some e) = e.row.id

-- the row of the test that takes an index, and the names of all its locations
pub record IsTestMade (p : Parts) (tests : List Test) (at : ℕ) (test : Test) (row : TestRow)
    (locations : List (List ℕ)) : Type 0 where
  pub made : IsRowOf (next_number p.last) (entry_at p tests at)
      (test_id (next_number p.last) (entry_at p tests at)) test locations row
  pub names : AreNamesOf (test_names test) locations

-- ---- models

-- the models that are there, with their faults
abbrev pub held_models : List ModelRow → List (Option ModelFault) → List (Option HeldModel)
held_models [] fs = []
held_models (r ∷ rs) [] = []
held_models (r ∷ rs) (f ∷ fs) = Some (record { row = r; fault = f }) ∷ held_models rs fs

-- what each model after the edit was before it
abbrev pub models_before : Replacement → List (Option HeldModel) → List (Option HeldModel)
models_before (made.PutTest at test) hs = hs
models_before (made.DropTest at) hs = hs
models_before (made.PutModel at model next) hs =
    if nat_lt at (length hs) then hs else hs ++ None ∷ []
models_before (made.DropModel at) hs = remove hs at

abbrev pub model_id : ℕ → Option HeldModel → ℕ
model_id fresh None = fresh
model_id fresh (Some h) = h.row.id

-- the row of a model, over what it was
abbrev pub IsModelMade : ℕ → Option HeldModel → NamedModel → ModelRow → Type 0
IsModelMade fresh before m row =
    IsModelRowOf fresh before (model_id fresh before) (fault_in m.reading) row

-- what the model at an index was
abbrev pub model_before : List (Option HeldModel) → ℕ → Option HeldModel
model_before [] k = None
model_before (h ∷ hs) zero = h
model_before (h ∷ hs) (suc k) = model_before hs k

abbrev pub rest_of : List (Option HeldModel) → List (Option HeldModel)
rest_of [] = []
rest_of (h ∷ hs) = hs

abbrev pub AreModelsMade : ℕ → List (Option HeldModel) → List NamedModel → List ModelRow → Type 0
AreModelsMade fresh hs [] [] = ⊤
AreModelsMade fresh hs (m ∷ ms) (r ∷ rs) =
    IsModelMade fresh (model_before hs 0) m r × AreModelsMade fresh (rest_of hs) ms rs
AreModelsMade fresh hs _ _ = ⊥

-- the parts of these models, over what the models were, and what they said
pub record AreModelPartsMade (p : Parts) (was : List NamedModel) (before : List (Option HeldModel))
    (models : List NamedModel) (m : ModelParts) : Type 0 where
  pub rows : AreModelsMade (next_number p.last) before models m.rows.items
  pub faults : m.faults.items ≡ map (λ n. fault_in n.reading) models
  pub items : AreListsOf (next_number p.last) p (named_text was) (all_facts models) m.items
  pub slots : map plain m.slots.items
      ≡ all_slots (item_history m.items.rows.items m.items.roles.items)
      (readings_of m.rows.items models)

-- ---- edits

abbrev pub AreModelsAfter : Parts → List NamedModel → Replacement → ModelParts → Type 0
AreModelsAfter p models r m =
    AreModelPartsMade p models (models_before r (held_models p.table.models.items p.faults.items))
    (models_with r models) m

-- what is made for an edit
abbrev pub ArePartsMade : Parts → List Test → List NamedModel → Replacement → EditedParts → Type 0
ArePartsMade p tests models (made.PutTest at test) (edited.PutTest to row locations) =
    (to ≡ at) × IsTestMade p tests at test row locations.items
ArePartsMade p tests models (made.DropTest at) (edited.DropTest to) = to ≡ at
ArePartsMade p tests models (made.PutModel at model next) (edited.Models m) =
    AreModelsAfter p models (made.PutModel at model next) m
ArePartsMade p tests models (made.DropModel at) (edited.Models m) =
    AreModelsAfter p models (made.DropModel at) m
ArePartsMade p tests models _ _ = ⊥

-- there is room for one test more
pub record HasTestRoom (p : Parts) : Type 0 where
  pub rows : vec_len p.table.tests < vec_capacity p.table.tests
  pub few : vec_len p.table.tests < 65536
  pub locations : vec_len p.locations < vec_capacity p.locations

-- the parts have the room that an edit needs
abbrev pub HasRoomForParts : Parts → EditedParts → Type 0
HasRoomForParts p (edited.PutTest at row locations) = HasTestRoom p
HasRoomForParts p (edited.DropTest at) = ⊤
HasRoomForParts p (edited.Models m) = ⊤

-- ---- the parts after it

-- the tests have the same parts
pub record AreTestsSame (p q : Parts) : Type 0 where
  pub rows : q.table.tests.items ≡ p.table.tests.items
  pub locations : q.locations.items ≡ p.locations.items

-- the models have the same parts
pub record AreModelsSame (p q : Parts) : Type 0 where
  pub rows : q.table.models.items ≡ p.table.models.items
  pub faults : q.faults.items ≡ p.faults.items
  pub items : q.table.items.items ≡ p.table.items.items
  pub roles : q.roles.items ≡ p.roles.items
  pub kinds : q.kinds.items ≡ p.kinds.items
  pub slots : q.table.slots.items ≡ p.table.slots.items

-- a test takes an index, under the number of the edit
pub record PutsTest (p : Parts) (number at : ℕ) (row : TestRow) (locations : Vec (List ℕ) Global)
    (q : Parts) : Type 0 where
  pub new : TestRow
  pub raised : IsRaisedRow p.last number row new
  pub rows : q.table.tests.items ≡ put_at at new p.table.tests.items
  pub locations_are : q.locations.items ≡ put_at at locations p.locations.items
  pub models : AreModelsSame p q

pub record DropsTest (p : Parts) (at : ℕ) (q : Parts) : Type 0 where
  pub rows : q.table.tests.items ≡ remove p.table.tests.items at
  pub locations : q.locations.items ≡ remove p.locations.items at
  pub models : AreModelsSame p q

-- the models have these parts, under the number of the edit
pub record PutsModels (p : Parts) (number : ℕ) (m : ModelParts) (q : Parts) : Type 0 where
  pub rows : q.table.models.items ≡ map (raised_model p.last number) m.rows.items
  pub faults : q.faults.items ≡ m.faults.items
  pub items : q.table.items.items ≡ map (raised_item p.last number) m.items.rows.items
  pub roles : q.roles.items ≡ m.items.roles.items
  pub kinds : q.kinds.items ≡ m.items.kinds.items
  pub slots : q.table.slots.items ≡ m.slots.items
  pub tests : AreTestsSame p q

abbrev pub Changes : Parts → ℕ → EditedParts → Parts → Type 0
Changes p number (edited.PutTest at row locations) q = PutsTest p number at row locations q
Changes p number (edited.DropTest at) q = DropsTest p at q
Changes p number (edited.Models m) q = PutsModels p number m q

-- the parts after an edit of that number
pub record Commits (p : Parts) (number : ℕ) (e : EditedParts) (q : Parts) : Type 0 where
  pub changes : Changes p number e q
  pub last : q.last ≡ number
