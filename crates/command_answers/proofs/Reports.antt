-- Files read in turn, and rows put one behind another.
use Rattle.std.proofs.Common.{◌≡◌, ◌≢◌, ℕ, ◌+◌, ◌<◌, List, [], ◌∷◌, ◌++◌, length, get_or, take, map, Result, Ok, Err, Bor, Vec, Global, IfOk, refl, sym, ap, ◌∙◌, subst}
use Rattle.std.proofs.lemmas.List.{take_more, nil_from_length}
use Rattle.std.specs.declared.alloc.AllocError.{AllocError}
use Rattle.std.specs.List.{AllZip}
use Rattle.cat_tokens.specs.declared.rule.CatRule.{CatRule}
use Rattle.cat_tokens.specs.Tokens.{digits_number as model_rule_number}
use Rattle.litmus_tokens.specs.declared.rule.LitmusRule.{LitmusRule}
use Rattle.litmus_tokens.specs.Numbers.{number_of as test_rule_number}
use Rattle.text_values.specs.declared.test.Test.{Test}
use Rattle.command_answers.specs.declared.file.TextFile.{TextFile}
use Rattle.command_answers.specs.declared.reading.NamedModel.{NamedModel}
use Rattle.command_answers.specs.Answer.{IsModelRefused, IsTestRefused}
use Rattle.command_answers.specs.Files.{AddsFault}
use Rattle.command_answers.specs.Reports.{AddsModel, IsModelFault, IsTestFault, AreModels, NoModel, NextModel, AddsTest, AreTests, NoTest, NextTest, IsModelTold, IsTestTold, IsToldOf}
use Rattle.text_values.specs.declared.model.ModelText.{ModelText}
use Rattle.outcome_states.specs.declared.answer.Outcome.{Outcome}
use Rattle.outcome_texts.specs.Cells.{Settled}
use Rattle.from_scratch.specs.FromScratch.{IsFromScratch}
use Rattle.from_scratch.specs.Suites.{AreOutcomes}
use Rattle.session_answers.specs.declared.rows.TestOutcomes.{TestOutcomes}
use Rattle.session_answers.specs.Rows.{HasOutcomes, row_said}
use Rattle.session_answers.proofs.Named.{first_is, rest_is, no_first}
use Rattle.command_answers.specs.Reports.{IsCellUnder, IsReportRow}

pub no_models : (models : List NamedModel) (faults : List ℕ) → models ≡ [] → faults ≡ []
    → AreModels [] models faults
no_models models faults p q =
    subst (λ (l : List NamedModel). AreModels [] l faults) (sym p)
    (subst (λ (l : List ℕ). AreModels [] [] l) (sym q) NoModel)

pub no_tests : (first : List ℕ) (tests : List Test) → tests ≡ [] → AreTests first [] tests first
no_tests first tests p = subst (λ (l : List Test). AreTests first [] l first) (sym p) NoTest

pub model_fault_added : (file : TextFile) (models : List NamedModel) (faults lines : List ℕ)
    (rule : CatRule) (number offset position : ℕ) → IsModelRefused file.text.items rule offset
    → number ≡ model_rule_number rule → position ≡ offset
    → AddsFault faults lines file.path.now file.text.items 67 number position
    → AddsModel file models faults models lines
model_fault_added file models faults lines rule number offset position refused e same put =
    IsModelFault rule offset refused refl (subst
    (λ (n : ℕ). AddsFault faults lines file.path.now file.text.items 67 n offset) e
    (subst (λ (n : ℕ). AddsFault faults lines file.path.now file.text.items 67 number n)
    same put))

pub test_fault_added : (file : TextFile) (tests : List Test) (faults lines : List ℕ)
    (rule : LitmusRule) (number offset position : ℕ) → IsTestRefused file.text.items rule offset
    → number ≡ test_rule_number rule → position ≡ offset
    → AddsFault faults lines file.path.now file.text.items 76 number position
    → AddsTest file tests faults tests lines
test_fault_added file tests faults lines rule number offset position refused e same put =
    IsTestFault rule offset refused refl (subst
    (λ (n : ℕ). AddsFault faults lines file.path.now file.text.items 76 n offset) e
    (subst (λ (n : ℕ). AddsFault faults lines file.path.now file.text.items 76 number n)
    same put))

pub models_more : (files : List TextFile) (i : ℕ) (file : TextFile) (models more : List NamedModel)
    (faults lines : List ℕ) → i < length files → file ≡ get_or files i file
    → AreModels (take i files) models faults → AddsModel file models faults more lines
    → AreModels (take (i + 1) files) more lines
models_more files i file models more faults lines inside at_i before adds =
    let cut : take (i + 1) files ≡ take i files ++ file ∷ [] = take_more files i file inside ∙ ap (λ (f : TextFile). take i files ++ f ∷ []) (sym at_i) in
    subst (λ (l : List TextFile). AreModels l more lines) (sym cut) (NextModel (take i files) file
    models more faults lines before adds)

pub tests_more : (first : List ℕ) (files : List TextFile) (i : ℕ) (file : TextFile)
    (tests more : List Test) (faults lines : List ℕ) → i < length files
    → file ≡ get_or files i file
    → AreTests first (take i files) tests faults → AddsTest file tests faults more lines
    → AreTests first (take (i + 1) files) more lines
tests_more first files i file tests more faults lines inside at_i before adds =
    let cut : take (i + 1) files ≡ take i files ++ file ∷ [] = take_more files i file inside ∙ ap (λ (f : TextFile). take i files ++ f ∷ []) (sym at_i) in
    subst (λ (l : List TextFile). AreTests first l more lines) (sym cut)
    (NextTest (take i files) file tests more faults lines before adds)

cells_said : (test : Test) (models : List NamedModel) (texts : List (Bor ModelText))
    (outcomes : List Outcome) → map (λ t. t.now) texts ≡ map (λ m. m.model) models
    → AreOutcomes texts test outcomes → AllZip (IsCellUnder test) models (map Settled outcomes)
cells_said test [] [] [] e h = tt
cells_said test [] [] (o ∷ os) e h = absurd h
cells_said test [] (t ∷ ts) outcomes e h = absurd (no_first t.now (map (λ t. t.now) ts) e)
cells_said test (m ∷ ms) [] outcomes e h = absurd (no_first m.model (map (λ m. m.model) ms) (sym e))
cells_said test (m ∷ ms) (t ∷ ts) [] e h = absurd h
cells_said test (m ∷ ms) (t ∷ ts) (o ∷ os) e h =
    let first = first_is t.now m.model (map (λ t. t.now) ts) (map (λ m. m.model) ms) e in
    let rest = rest_is t.now m.model (map (λ t. t.now) ts) (map (λ m. m.model) ms) e in
    (subst (λ (l : ModelText). IsFromScratch test l o) first h.0, cells_said test ms ts os rest h.1)

all_said : (tests : List Test) (models : List NamedModel) (texts : List (Bor ModelText))
    (rows : List TestOutcomes) → map (λ t. t.now) texts ≡ map (λ m. m.model) models
    → AllZip (HasOutcomes texts) tests rows → AllZip (IsReportRow models) tests (map row_said rows)
all_said [] models texts [] e h = tt
all_said [] models texts (r ∷ rs) e h = absurd h
all_said (t ∷ ts) models texts [] e h = absurd h
all_said (t ∷ ts) models texts (r ∷ rs) e h = (
  record { name = h.0.name; cells = cells_said t models texts r.outcomes.items e h.0.outcomes },
  all_said ts models texts rs e h.1,
)

-- the outcomes of tests under the texts of models
pub rows_said : (tests : List Test) (models : List NamedModel) (texts : List (Bor ModelText))
    (r : Result (Vec TestOutcomes Global) AllocError)
    → map (λ t. t.now) texts ≡ map (λ m. m.model) models
    → IfOk r (λ v. AllZip (HasOutcomes texts) tests v.items)
    → IfOk r (λ v. AllZip (IsReportRow models) tests (map row_said v.items))
rows_said tests models texts (Ok rows) e h = all_said tests models texts rows.items e h
rows_said tests models texts (Err fault) e h = tt

-- what is told of a model and a test
pub test_told : (file : TextFile) (before after : List Test) (none lines : List ℕ) → before ≡ []
    → none ≡ [] → AddsTest file before none after lines → IsTestTold file [] lines
test_told file before after none lines p q h = (
  after,
  subst (λ (l : List ℕ). AddsTest file [] l after lines) q (subst
      (λ (l : List Test). AddsTest file l none after lines) p h),
)

told_itself : (test : TextFile) (faults : List ℕ) → length faults ≢ 0
    → IsTestTold test faults faults
told_itself test [] h = absurd (h refl)
told_itself test (b ∷ bs) h = refl

pub model_told : (model : TextFile) (before after : List NamedModel) (none lines : List ℕ)
    → before ≡ [] → none ≡ [] → AddsModel model before none after lines → IsModelTold model lines
model_told model before after none lines p q h = (
  after,
  subst (λ (l : List ℕ). AddsModel model [] l after lines) q (subst
      (λ (l : List NamedModel). AddsModel model l none after lines) p h),
)

pub told_of_test : (model test : TextFile) (faults lines : List ℕ) → length faults ≡ 0
    → IsModelTold model faults → IsTestTold test [] lines → IsToldOf model test lines
told_of_test model test faults lines e (after, h) told = record {
  models = after;
  faults = [];
  of_model = subst (λ (l : List ℕ). AddsModel model [] [] after l) (nil_from_length faults e) h;
  of_test = told;
}

pub told_of_model : (model test : TextFile) (faults : List ℕ) → length faults ≢ 0
    → IsModelTold model faults → IsToldOf model test faults
told_of_model model test faults e (after, h) = record {
  models = after;
  faults = faults;
  of_model = h;
  of_test = told_itself test faults e;
}
