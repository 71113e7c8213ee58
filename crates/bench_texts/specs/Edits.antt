-- What an edit makes of the texts, and why it is refused.
use Rattle.std.specs.Prelude.{◌≡◌, ℕ, ◌+◌, ◌==◌, ◌≤◌, ◌⊎◌, List, [], ◌∷◌, length, map, Bool, true, false, ◌||◌, nat_lt, if◌then◌else◌, Option, Some, None, insert, remove, slice_index, slice_index_or}
use Rattle.litmus_tokens.specs.declared.rule.LitmusRule.{LitmusRule}
use Rattle.text_values.specs.declared.test.InitEntry.{InitEntry}
use Rattle.text_values.specs.declared.test.Place.{Place}
use Rattle.text_values.specs.declared.test.Step.{Step}
use Rattle.text_values.specs.declared.test.Quantifier.{Quantifier}
use Rattle.text_values.specs.TestValue.{Content, Formula}
use Rattle.litmus_grammar.specs.Texts.{ReadsTest, IsTestFault, ReadsInit, IsInitFault, ReadsThread, IsThreadFault, ReadsCondition, IsConditionFault, ReadsLocations, IsLocationsFault}
use Rattle.litmus_ppc.specs.declared.fault.LitmusFault.{LitmusFault}
use Rattle.litmus_ppc.specs.declared.fault.LitmusFault.TheVariants as litmus
use Rattle.cat_tokens.specs.declared.rule.CatRule.{CatRule}
use Rattle.cat_tokens.specs.declared.rule.CatRule.TheVariants.{TooMany}
use Rattle.cat_grammar.specs.declared.form.Form.TheVariants as forms
use Rattle.text_values.specs.ModelValue.{Clause}
use Rattle.cat_grammar.specs.Reads.{ReadsClauses, FaultAt}
use Rattle.cat_syntax.specs.declared.fault.CatFault.{CatFault}
use Rattle.cat_syntax.specs.declared.fault.CatFault.TheVariants as cat
use Rattle.bench_texts.specs.declared.edit.Edit as code
use Rattle.bench_texts.specs.declared.edit.Edit.TheVariants as edits
use Rattle.bench_texts.specs.declared.fault.EditFault.{EditFault}
use Rattle.bench_texts.specs.declared.fault.EditFault.TheVariants as faults
use Rattle.bench_texts.specs.BenchTexts.{NumberedItem, BenchTexts, test_index, model_index, item_index, put_at, changed_at, with_init, with_thread, with_condition, with_observed, with_items, with_tests, with_models, numbered_items}
use Rattle.bench_texts.specs.Limits.{is_full, is_spent, is_model_name}

-- an edit, without where it lies in memory
pub data Edit : Type 0 where
  PutTest : (text : List ℕ) → Edit
  DropTest : (test : List ℕ) → Edit
  SetInit : (test text : List ℕ) → Edit
  SetThread : (test : List ℕ) (thread : ℕ) (text : List ℕ) → Edit
  SetCond : (test text : List ℕ) → Edit
  SetLocations : (test text : List ℕ) → Edit
  PutModel : (model text : List ℕ) → Edit
  DropModel : (model : List ℕ) → Edit
  SetItem : (model : List ℕ) (item : ℕ) (text : List ℕ) → Edit
  InsertItem : (model : List ℕ) (before : ℕ) (text : List ℕ) → Edit
  RemoveItem : (model : List ℕ) (item : ℕ) → Edit

abbrev pub edit_of : code.Edit → Edit
edit_of (edits.PutTest text) = PutTest text.items
edit_of (edits.DropTest test) = DropTest test.items
edit_of (edits.SetInit test text) = SetInit test.items text.items
edit_of (edits.SetThread test thread text) = SetThread test.items thread text.items
edit_of (edits.SetCond test text) = SetCond test.items text.items
edit_of (edits.SetLocations test text) = SetLocations test.items text.items
edit_of (edits.PutModel model text) = PutModel model.items text.items
edit_of (edits.DropModel model) = DropModel model.items
edit_of (edits.SetItem model item text) = SetItem model.items item text.items
edit_of (edits.InsertItem model before text) = InsertItem model.items before text.items
edit_of (edits.RemoveItem model item) = RemoveItem model.items item

-- the edit puts or drops a test or a model as a whole
abbrev pub is_whole : Edit → Bool
is_whole (PutTest text) = true
is_whole (DropTest test) = true
is_whole (SetInit test text) = false
is_whole (SetThread test thread text) = false
is_whole (SetCond test text) = false
is_whole (SetLocations test text) = false
is_whole (PutModel model text) = true
is_whole (DropModel model) = true
is_whole (SetItem model item text) = false
is_whole (InsertItem model before text) = false
is_whole (RemoveItem model item) = false

-- ---- what is there

abbrev pub has_test : BenchTexts → List ℕ → Bool
has_test t name = nat_lt (test_index name t.tests) (length t.tests)

-- the number of threads of a test that is there
abbrev pub thread_count : BenchTexts → List ℕ → ℕ
thread_count t name = slice_index (map (λ c. length c.threads) t.tests) (test_index name t.tests)

abbrev pub has_model : BenchTexts → List ℕ → Bool
has_model t name = nat_lt (model_index name t.models) (length t.models)

-- the items of a model that is there
abbrev pub model_items : BenchTexts → List ℕ → List NumberedItem
model_items t name = slice_index_or (map (λ m. m.items) t.models) (model_index name t.models) []

-- the index of the item of that number in a model
abbrev pub index_in : BenchTexts → List ℕ → ℕ → ℕ
index_in t model number = item_index number (model_items t model)

abbrev pub has_item : BenchTexts → List ℕ → ℕ → Bool
has_item t model number = nat_lt (index_in t model number) (length (model_items t model))

-- an item is inserted before the one of that number, and at the end where that is 0
abbrev pub index_before : BenchTexts → List ℕ → ℕ → ℕ
index_before t model before =
    if before == 0 then length (model_items t model) else index_in t model before

-- ---- what an edit names that is not there

abbrev pub unless : Bool → EditFault → Option EditFault → Option EditFault
unless true fault later = later
unless false fault later = Some fault

-- the first that is not there: test, model, thread, item
abbrev pub missing_fault : BenchTexts → Edit → Option EditFault
missing_fault t (PutTest text) = None
missing_fault t (DropTest test) = unless (has_test t test) faults.NoTest None
missing_fault t (SetInit test text) = unless (has_test t test) faults.NoTest None
missing_fault t (SetThread test thread text) =
    unless (has_test t test) faults.NoTest (unless (nat_lt thread (thread_count t test))
    faults.NoThread None)
missing_fault t (SetCond test text) = unless (has_test t test) faults.NoTest None
missing_fault t (SetLocations test text) = unless (has_test t test) faults.NoTest None
missing_fault t (PutModel model text) = unless (is_model_name model) faults.NoModel None
missing_fault t (DropModel model) = unless (has_model t model) faults.NoModel None
missing_fault t (SetItem model item text) =
    unless (has_model t model) faults.NoModel (unless (has_item t model item) faults.NoItem None)
missing_fault t (InsertItem model before text) =
    unless (has_model t model) faults.NoModel (unless (before == 0 || has_item t model before)
    faults.NoItem None)
missing_fault t (RemoveItem model item) =
    unless (has_model t model) faults.NoModel (unless (has_item t model item) faults.NoItem None)

-- ---- what an edit makes of the texts, where all that it names is there

abbrev pub EditMakes : BenchTexts → Edit → BenchTexts → Type 0
EditMakes t (PutTest text) new =
    (c : Content) × ReadsTest text c × (new ≡ with_tests (put_at (test_index c.name t.tests) c) t)
EditMakes t (DropTest test) new = new ≡ with_tests (λ ts. remove ts (test_index test t.tests)) t
EditMakes t (SetInit test text) new =
    (v : List InitEntry) × ReadsInit (thread_count t test) text v
    × (new ≡ with_tests (changed_at (test_index test t.tests) (with_init v)) t)
EditMakes t (SetThread test thread text) new =
    (v : List Step) × ReadsThread text v
    × (new ≡ with_tests (changed_at (test_index test t.tests) (with_thread thread v)) t)
EditMakes t (SetCond test text) new =
    (v : Quantifier × Formula) × ReadsCondition (thread_count t test) text v
    × (new ≡ with_tests (changed_at (test_index test t.tests) (with_condition v)) t)
EditMakes t (SetLocations test text) new =
    (v : List Place) × ReadsLocations (thread_count t test) text v
    × (new ≡ with_tests (changed_at (test_index test t.tests) (with_observed v)) t)
EditMakes t (PutModel model text) new =
    (cs : List Clause) × ReadsClauses forms.Model text cs
    × (new
    ≡ with_models
    (put_at (model_index model t.models)
    (record { name = model; items = numbered_items t.next cs }))
    (t.next + length cs) t)
EditMakes t (DropModel model) new =
    new ≡ with_models (λ ms. remove ms (model_index model t.models)) t.next t
EditMakes t (SetItem model item text) new =
    (c : Clause) × ReadsClauses forms.Item text (c ∷ [])
    × (new
    ≡ with_models
    (changed_at (model_index model t.models) (with_items (put_at
    (index_in t model item) (record { number = item; clause = c }))))
    t.next t)
EditMakes t (InsertItem model before text) new =
    (c : Clause) × ReadsClauses forms.Item text (c ∷ []) × (length (model_items t model) + 1 ≤ 256)
    × (new
    ≡ with_models
    (changed_at (model_index model t.models) (with_items (λ is. insert is
    (index_before t model before)
    (record { number = t.next; clause = c }))))
    (t.next + 1) t)
EditMakes t (RemoveItem model item) new =
    new
    ≡ with_models
    (changed_at (model_index model t.models)
    (with_items (λ is. remove is (index_in t model item)))) t.next t

-- ---- why its text is refused

abbrev pub IsTestEditRefused : BenchTexts → Edit → LitmusRule → ℕ → Type 0
IsTestEditRefused t (PutTest text) rule offset = IsTestFault text rule offset
IsTestEditRefused t (SetInit test text) rule offset =
    IsInitFault (thread_count t test) text rule offset
IsTestEditRefused t (SetThread test thread text) rule offset = IsThreadFault text rule offset
IsTestEditRefused t (SetCond test text) rule offset =
    IsConditionFault (thread_count t test) text rule offset
IsTestEditRefused t (SetLocations test text) rule offset =
    IsLocationsFault (thread_count t test) text rule offset
IsTestEditRefused t _ rule offset = ⊥

-- the text reads as an item, of which the model has 256
pub record IsOneTooMany (t : BenchTexts) (model text : List ℕ) (rule : CatRule) (offset : ℕ)
    : Type 0 where
  pub item : Clause
  pub reads : ReadsClauses forms.Item text (item ∷ [])
  pub many : 256 ≤ length (model_items t model)
  pub rule_is : rule ≡ TooMany
  pub offset_is : offset ≡ 0

abbrev pub IsModelEditRefused : BenchTexts → Edit → CatRule → ℕ → Type 0
IsModelEditRefused t (PutModel model text) rule offset = FaultAt forms.Model text rule offset
IsModelEditRefused t (SetItem model item text) rule offset = FaultAt forms.Item text rule offset
IsModelEditRefused t (InsertItem model before text) rule offset =
    FaultAt forms.Item text rule offset ⊎ IsOneTooMany t model text rule offset
IsModelEditRefused t _ rule offset = ⊥

abbrev pub IsLitmusRefusal : BenchTexts → Edit → LitmusFault → Type 0
IsLitmusRefusal t e (litmus.Refused rule offset) = IsTestEditRefused t e rule offset
IsLitmusRefusal t e (litmus.OutOfMemory f) = ⊥

abbrev pub IsCatRefusal : BenchTexts → Edit → CatFault → Type 0
IsCatRefusal t e (cat.Refused rule offset) = IsModelEditRefused t e rule offset
IsCatRefusal t e (cat.OutOfMemory f) = ⊥

-- ---- the limits, of what it makes

-- the numbers of edits are spent, or those of items
abbrev pub limit_fault : BenchTexts → Bool → BenchTexts → Option EditFault
limit_fault t spent new =
    if is_full new then Some faults.Full
    else (if spent || is_spent t then Some faults.Spent else None)

pub record IsOverLimit (t : BenchTexts) (spent : Bool) (e : Edit) (fault : EditFault) : Type 0 where
  pub new : BenchTexts
  pub makes : EditMakes t e new
  pub limit : limit_fault t spent new ≡ Some fault

-- ---- the whole: `spent` says whether the numbers of edits are spent

-- the edit is accepted, and these are the texts after it
pub record Applies (t : BenchTexts) (spent : Bool) (e : Edit) (new : BenchTexts) : Type 0 where
  pub all_there : missing_fault t e ≡ None
  pub makes : EditMakes t e new
  pub within : limit_fault t spent new ≡ None

-- the edit gives a text to read
abbrev pub has_text : Edit → Bool
has_text (PutTest text) = true
has_text (DropTest test) = false
has_text (SetInit test text) = true
has_text (SetThread test thread text) = true
has_text (SetCond test text) = true
has_text (SetLocations test text) = true
has_text (PutModel model text) = true
has_text (DropModel model) = false
has_text (SetItem model item text) = true
has_text (InsertItem model before text) = true
has_text (RemoveItem model item) = false

-- A text may want memory while it is read, before it is known whether the edit is refused. What an
-- edit without a text wants is wanted only where the edit is accepted.
abbrev pub IsWanting : BenchTexts → Bool → Edit → (reads : Bool) → Type 0
IsWanting t spent e true = Unit {0}
IsWanting t spent e false = (new : BenchTexts) × Applies t spent e new

-- The edit is refused: the first that holds. Memory is wanted after it is known that all is there.
abbrev pub RefusesEdit : BenchTexts → Bool → Edit → EditFault → Type 0
RefusesEdit t spent e (faults.Test f) = (missing_fault t e ≡ None) × IsLitmusRefusal t e f
RefusesEdit t spent e (faults.Model f) = (missing_fault t e ≡ None) × IsCatRefusal t e f
RefusesEdit t spent e faults.Full = (missing_fault t e ≡ None) × IsOverLimit t spent e faults.Full
RefusesEdit t spent e faults.Spent = (missing_fault t e ≡ None) × IsOverLimit t spent e faults.Spent
RefusesEdit t spent e (faults.OutOfMemory f) =
    (missing_fault t e ≡ None) × IsWanting t spent e (has_text e)
RefusesEdit t spent e fault = missing_fault t e ≡ Some fault
