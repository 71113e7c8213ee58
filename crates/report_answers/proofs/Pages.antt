-- The page of what is known.
use Rattle.std.proofs.Common.{◌≡◌, ℕ, List, [], ◌++◌, map, refl, sym, ap, ◌∙◌, subst}
use Rattle.std.proofs.lemmas.List.Elements.{All-nil}
use Rattle.report_details.specs.Reported.{ReportedModel, ReportedTest, Extras}
use Rattle.report_page.specs.Page.{report_page}
use Rattle.report_answers.specs.Whole.{HasPlainDrawings, IsWellFormed}
use Rattle.report_answers.proofs.PageTexts.{page_is_well_formed}
use Rattle.command_answers.specs.declared.file.TextFile.{TextFile}
use Rattle.report_answers.specs.declared.judged.KnownTests.{KnownTests}
use Rattle.report_answers.specs.declared.models.KnownModel.{KnownModel}
use Rattle.report_answers.specs.declared.report.PageRequest.{PageRequest}
use Rattle.report_answers.specs.Judges.{content_in}
use Rattle.report_answers.specs.Known.{shown_model, shown_test, start_content, AreKnownModels, AreKnownTests}
use Rattle.report_answers.specs.Pages.{extras_of, IsPageReport}
use Rattle.report_answers.proofs.Plain.{tests_are_plain}

pub page_is : (start text : List ℕ) (models ms : List ReportedModel) (tests ts : List ReportedTest)
    (extras : Extras) → start ≡ [] → models ≡ ms → tests ≡ ts
    → text ≡ start ++ report_page models tests extras → text ≡ report_page ms ts extras
page_is start text models ms tests ts extras s m t e =
    e ∙ ap (λ (l : List ℕ). l ++ report_page models tests extras) s
    ∙ ap (λ (l : List ReportedModel). report_page l tests extras) m
    ∙ ap (λ (l : List ReportedTest). report_page ms l extras) t

-- the page of what is known in the end
pub reported : (request : PageRequest) (model_files test_files : List TextFile) (first : List ℕ)
    (models held shown : List KnownModel) (faults : List ℕ) (k : KnownTests)
    (lines told text : List ℕ) → first ≡ [] → AreKnownModels first model_files models faults
    → held ≡ models → shown ≡ models
    → AreKnownTests request.is_all held (start_content request.most faults) test_files (content_in k lines)
    → told ≡ lines
    → text ≡ report_page (map shown_model shown) (map shown_test k.tests.items)
    (extras_of (content_in k told))
    → IsPageReport request model_files test_files text lines
reported request model_files test_files first models held shown faults k lines told text f known h s found t e = record {
  models = models;
  model_faults = faults;
  models_known = subst (λ (l : List ℕ). AreKnownModels l model_files models faults) f known;
  content = content_in k lines;
  tests_known = subst
      (λ (l : List KnownModel). AreKnownTests request.is_all l (start_content request.most faults) test_files (content_in k lines))
      h found;
  faults_are = refl;
  text_is = e
      ∙ ap (λ (l : List KnownModel). report_page (map shown_model l) (map shown_test k.tests.items) (extras_of (content_in k told)))
      s
      ∙ ap (λ (l : List ℕ). report_page (map shown_model models) (map shown_test k.tests.items) (extras_of (content_in k l)))
      t;
}

pub is_well_formed : (request : PageRequest) (model_files test_files : List TextFile)
    (text faults : List ℕ) → IsPageReport request model_files test_files text faults
    → IsWellFormed text
is_well_formed request model_files test_files text faults r =
    let start = start_content request.most r.model_faults in
    let plain = tests_are_plain request.is_all r.models start test_files r.content r.tests_known (All-nil HasPlainDrawings) in
    subst IsWellFormed (sym r.text_is)
    (page_is_well_formed (map shown_model r.models) r.content.tests (extras_of r.content) plain)
