-- The page of files of tests under files of models. `page_report` cites `IsPageReport`.
use Rattle.std.specs.Prelude.{◌≡◌, ℕ, List, [], map}
use Rattle.report_details.specs.Reported.{Extras}
use Rattle.report_page.specs.Page.{report_page}
use Rattle.command_answers.specs.declared.file.TextFile.{TextFile}
use Rattle.report_answers.specs.declared.models.KnownModel.{KnownModel}
use Rattle.report_answers.specs.declared.report.PageRequest.{PageRequest}
use Rattle.report_answers.specs.Known.{shown_model, AreKnownModels, PageContent, start_content, AreKnownTests}

abbrev pub extras_of : PageContent → Extras
extras_of f = record { refusals = f.faults; left_out = f.budget.left_out }

-- the page of the tests that the files hold under the models that the files hold, and what is told
-- of the others
pub record IsPageReport (request : PageRequest) (model_files test_files : List TextFile)
    (text faults : List ℕ) : Type 0 where
  pub models : List KnownModel
  pub model_faults : List ℕ
  pub models_known : AreKnownModels [] model_files models model_faults
  pub content : PageContent
  pub tests_known : AreKnownTests request.is_all models (start_content request.most model_faults)
      test_files content
  pub faults_are : faults ≡ content.faults
  pub text_is : text ≡ report_page (map shown_model models) content.tests (extras_of content)
