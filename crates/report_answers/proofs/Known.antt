-- Files of models and of tests, one behind another.
use Rattle.std.proofs.Common.{◌≡◌, ◌+◌, ◌<◌, ℕ, Bool, List, [], ◌∷◌, ◌++◌, length, get_or, take, map, Bor, Result, sym, ap, ◌∙◌, subst}
use Rattle.std.proofs.lemmas.List.{take_more}
use Rattle.std.specs.List.{AllZip}
use Rattle.text_values.specs.declared.test.Test.{Test}
use Rattle.text_values.specs.declared.model.ModelText.{ModelText}
use Rattle.binding_kinds.specs.declared.fault.ModelFault.{ModelFault}
use Rattle.binding_graph.specs.declared.resolved.Resolved.{Resolved}
use Rattle.outcome_states.specs.declared.answer.Outcome.{Outcome}
use Rattle.from_scratch.specs.FromScratch.{IsFromScratch}
use Rattle.from_scratch.specs.Suites.{AreOutcomes, AreResolvedAs}
use Rattle.session_answers.proofs.Named.{first_is, rest_is, no_first}
use Rattle.command_answers.specs.declared.file.TextFile.{TextFile}
use Rattle.command_answers.specs.Files.{AddsFault}
use Rattle.report_answers.specs.declared.drawings.DrawingBudget.{DrawingBudget}
use Rattle.report_answers.specs.declared.judged.KnownTest.{KnownTest}
use Rattle.report_answers.specs.declared.models.KnownModel.{KnownModel}
use Rattle.report_answers.specs.Judges.{AreJudges}
use Rattle.report_answers.specs.Known.{shown_test, AddsKnownModel, AreKnownModels, NoModelKnown, OneModelKnown, PageContent, AddsKnownTest, AreKnownTests, NoTestKnown, OneTestKnown}

abbrev pub page_content : List KnownTest → DrawingBudget → List ℕ → PageContent
page_content tests b lines = record { tests = map shown_test tests; budget = b; faults = lines }

pub no_model_known : (before : List ℕ) (models : List KnownModel) → models ≡ []
    → AreKnownModels before [] models before
no_model_known before models e =
    subst (λ (l : List KnownModel). AreKnownModels before [] l before) (sym e) NoModelKnown

pub models_more : (before : List ℕ) (files : List TextFile) (i : ℕ) (file : TextFile)
    (models more : List KnownModel) (faults lines : List ℕ) → i < length files
    → file ≡ get_or files i file → AreKnownModels before (take i files) models faults
    → AddsKnownModel file models faults more lines
    → AreKnownModels before (take (i + 1) files) more lines
models_more before files i file models more faults lines inside at_i known adds =
    let cut : take (i + 1) files ≡ take i files ++ file ∷ [] = take_more files i file inside ∙ ap (λ (f : TextFile). take i files ++ f ∷ []) (sym at_i) in
    subst (λ (l : List TextFile). AreKnownModels before l more lines) (sym cut)
    (OneModelKnown (take i files) file models more faults lines known adds)

-- the rule and the offset of what is told
pub told_at : (old new path text : List ℕ) (letter number position rule offset : ℕ)
    → number ≡ rule → position ≡ offset → AddsFault old new path text letter number position
    → AddsFault old new path text letter rule offset
told_at old new path text letter number position rule offset n p h =
    subst (λ (k : ℕ). AddsFault old new path text letter rule k) p
    (subst (λ (k : ℕ). AddsFault old new path text letter k position) n h)

-- these tests, this budget and these lines
pub first_tests : (tests : List KnownTest) (b : DrawingBudget) (lines : List ℕ) → tests ≡ []
    → page_content tests b lines ≡ page_content [] b lines
first_tests tests b lines e = ap (λ (l : List KnownTest). page_content l b lines) e

pub no_test_known : (is_all : Bool) (models : List KnownModel) (start found : PageContent)
    → found ≡ start → AreKnownTests is_all models start [] found
no_test_known is_all models start found e =
    subst (λ (f : PageContent). AreKnownTests is_all models start [] f) (sym e) NoTestKnown

pub tests_more : (is_all : Bool) (models : List KnownModel) (start : PageContent)
    (files : List TextFile) (i : ℕ) (file : TextFile) (mid new : PageContent) → i < length files
    → file ≡ get_or files i file → AreKnownTests is_all models start (take i files) mid
    → AddsKnownTest is_all models file mid new
    → AreKnownTests is_all models start (take (i + 1) files) new
tests_more is_all models start files i file mid new inside at_i found adds =
    let cut : take (i + 1) files ≡ take i files ++ file ∷ [] = take_more files i file inside ∙ ap (λ (f : TextFile). take i files ++ f ∷ []) (sym at_i) in
    subst (λ (l : List TextFile). AreKnownTests is_all models start l new) (sym cut)
    (OneTestKnown (take i files) file mid new found adds)

pub row_under : (test : Test) (models : List KnownModel) (texts : List (Bor ModelText))
    (outcomes : List Outcome) → map (λ t. t.now) texts ≡ map (λ m. m.model) models
    → AreOutcomes texts test outcomes
    → AllZip (λ m o. IsFromScratch test m.model o) models outcomes
row_under test [] [] [] e h = tt
row_under test [] [] (o ∷ os) e h = absurd h
row_under test [] (t ∷ ts) outcomes e h = absurd (no_first t.now (map (λ t. t.now) ts) e)
row_under test (m ∷ ms) [] outcomes e h =
    absurd (no_first m.model (map (λ m. m.model) ms) (sym e))
row_under test (m ∷ ms) (t ∷ ts) [] e h = absurd h
row_under test (m ∷ ms) (t ∷ ts) (o ∷ os) e h =
    let first = first_is t.now m.model (map (λ t. t.now) ts) (map (λ m. m.model) ms) e in
    let rest = rest_is t.now m.model (map (λ t. t.now) ts) (map (λ m. m.model) ms) e in
    (subst (λ (l : ModelText). IsFromScratch test l o) first h.0, row_under test ms ts os rest h.1)

pub judges_are : (models : List KnownModel) (texts shown : List (Bor ModelText))
    (resolved listed : List (Result Resolved ModelFault)) → shown ≡ texts → listed ≡ resolved
    → map (λ t. t.now) texts ≡ map (λ m. m.model) models → AreResolvedAs shown resolved
    → AreJudges models listed
judges_are models texts shown resolved listed t l same are = record {
  texts = shown;
  same = ap (λ (ts : List (Bor ModelText)). map (λ t. t.now) ts) t ∙ same;
  resolved_are = subst (λ (rs : List (Result Resolved ModelFault)). AreResolvedAs shown rs) (sym l)
      are;
}
