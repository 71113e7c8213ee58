-- What is known of files of models and files of tests. Read Drawn first.
use Rattle.std.specs.Prelude.{◌≡◌, ℕ, List, [], ◌∷◌, ◌++◌, map, Bool, ◌||◌}
use Rattle.std.specs.List.{AllZip}
use Rattle.cat_grammar.specs.declared.form.Form.TheVariants.{Model}
use Rattle.cat_grammar.specs.Reads.{ReadsClauses}
use Rattle.cat_tokens.specs.declared.rule.CatRule.{CatRule}
use Rattle.cat_tokens.specs.Tokens.{digits_number as model_rule_number}
use Rattle.text_values.specs.ModelValues.{clauses_of}
use Rattle.litmus_grammar.specs.Texts.{ReadsTest}
use Rattle.litmus_tokens.specs.declared.rule.LitmusRule.{LitmusRule}
use Rattle.litmus_tokens.specs.Numbers.{number_of as test_rule_number}
use Rattle.text_values.specs.declared.test.Test.{Test}
use Rattle.text_values.specs.TestValue.{content_of}
use Rattle.from_scratch.specs.FromScratch.{IsFromScratch}
use Rattle.report_details.specs.Reported.{ReportedModel, ReportedTest}
use Rattle.report_details.specs.Groups.{are_told_apart}
use Rattle.command_answers.specs.declared.file.TextFile.{TextFile}
use Rattle.command_answers.specs.Answer.{IsModelRefused, IsTestRefused}
use Rattle.command_answers.specs.Files.{model_stem, AddsFault}
use Rattle.report_answers.specs.declared.drawings.DrawingBudget.{DrawingBudget}
use Rattle.report_answers.specs.declared.models.KnownModel.{KnownModel}
use Rattle.report_answers.specs.declared.judged.KnownTest.{KnownTest}
use Rattle.report_answers.specs.Drawn.{AreDrawingsIf}

-- ---- models

-- a model as the page shows it: it is called as its file
abbrev pub shown_model : KnownModel → ReportedModel
shown_model m =
    record { name = model_stem m.file.now.path.now; text = m.file.now.text.items }

-- behind these models and these lines, a file adds a model or a line
pub data AddsKnownModel (file : TextFile) (models : List KnownModel) (faults : List ℕ)
    (more : List KnownModel) (lines : List ℕ) : Type 0 where
  IsKnownModel : (m : KnownModel) → m.file.now ≡ file
      → ReadsClauses Model file.text.items (clauses_of m.model.items.items)
      → more ≡ models ++ m ∷ [] → lines ≡ faults → AddsKnownModel file models faults more lines
  IsUnknownModel : (rule : CatRule) (offset : ℕ) → IsModelRefused file.text.items rule offset
      → more ≡ models
      → AddsFault faults lines file.path.now file.text.items 67 (model_rule_number rule) offset
      → AddsKnownModel file models faults more lines

-- the models that the files hold; what is told of the others goes behind these lines
pub data AreKnownModels (before : List ℕ) : List TextFile → List KnownModel → List ℕ → Type 0 where
  NoModelKnown : AreKnownModels before [] [] before
  OneModelKnown : (files : List TextFile) (file : TextFile) (models more : List KnownModel)
      (faults lines : List ℕ) → AreKnownModels before files models faults
      → AddsKnownModel file models faults more lines
      → AreKnownModels before (files ++ file ∷ []) more lines

-- ---- tests

-- a test as the page shows it
abbrev pub shown_test : KnownTest → ReportedTest
shown_test t =
    record {
      name = t.row.name;
      text = t.file.now.text.items;
      outcomes = t.row.outcomes.items;
      drawings = map (λ d. d.items) t.drawings.items;
    }

-- the test of a file: its outcomes are those of evaluating it from nothing under each model, and
-- its drawings are made of what the budget leaves
pub record IsReportedTest (is_all : Bool) (models : List KnownModel) (file : TextFile)
    (b : DrawingBudget) (t : ReportedTest) (behind : DrawingBudget) : Type 0 where
  pub known : Test
  pub read : ReadsTest file.text.items (content_of known)
  pub name : t.name ≡ known.name
  pub text : t.text ≡ file.text.items
  pub outcomes : AllZip (λ m o. IsFromScratch known m.model o) models t.outcomes
  pub drawings : AreDrawingsIf (is_all || are_told_apart t.outcomes) known models t.outcomes b
      t.drawings behind

-- the tests so far, the budget that is left, and what is told so far
pub record PageContent : Type 0 where
  pub tests : List ReportedTest
  pub budget : DrawingBudget
  pub faults : List ℕ

-- no test yet, and so many drawings may be made
abbrev pub start_content : (most : ℕ) → (faults : List ℕ) → PageContent
start_content most faults =
    record { tests = []; budget = record { left = most; left_out = 0 }; faults = faults }

-- behind what is known so far, a file adds a test or a line
pub data AddsKnownTest (is_all : Bool) (models : List KnownModel) (file : TextFile)
    (old new : PageContent) : Type 0 where
  IsKnownTest : (t : ReportedTest) → IsReportedTest is_all models file old.budget t new.budget
      → new.tests ≡ old.tests ++ t ∷ [] → new.faults ≡ old.faults
      → AddsKnownTest is_all models file old new
  IsUnknownTest : (rule : LitmusRule) (offset : ℕ) → IsTestRefused file.text.items rule offset
      → new.tests ≡ old.tests → new.budget ≡ old.budget
      → AddsFault old.faults new.faults file.path.now file.text.items 76 (test_rule_number rule)
      offset
      → AddsKnownTest is_all models file old new

-- what the files hold, one behind the other
pub data AreKnownTests (is_all : Bool) (models : List KnownModel) (start : PageContent)
    : List TextFile → PageContent → Type 0 where
  NoTestKnown : AreKnownTests is_all models start [] start
  OneTestKnown : (files : List TextFile) (file : TextFile) (mid new : PageContent)
      → AreKnownTests is_all models start files mid → AddsKnownTest is_all models file mid new
      → AreKnownTests is_all models start (files ++ file ∷ []) new
