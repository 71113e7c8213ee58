-- What the code knows of the models by which it judges a test.
use Rattle.std.specs.Prelude.{◌≡◌, ℕ, List, map, Result}
use Rattle.std.specs.List.{AllZip}
use denote.Ref.{Bor}
use Rattle.text_values.specs.declared.test.Test.{Test}
use Rattle.text_values.specs.declared.model.ModelText.{ModelText}
use Rattle.binding_kinds.specs.declared.fault.ModelFault.{ModelFault}
use Rattle.binding_graph.specs.declared.resolved.Resolved.{Resolved}
use Rattle.from_scratch.specs.FromScratch.{IsFromScratch}
use Rattle.from_scratch.specs.Suites.{AreResolvedAs}
use Rattle.session_answers.specs.declared.rows.TestOutcomes.{TestOutcomes}
use Rattle.report_answers.specs.declared.judged.KnownTests.{KnownTests}
use Rattle.report_answers.specs.declared.models.KnownModel.{KnownModel}
use Rattle.report_answers.specs.Known.{PageContent, shown_test}

-- these are the items of the models, or their first faults
pub record AreJudges (models : List KnownModel) (resolved : List (Result Resolved ModelFault))
    : Type 0 where
  pub texts : List (Bor ModelText)
  pub same : map (λ t. t.now) texts ≡ map (λ m. m.model) models
  pub resolved_are : AreResolvedAs texts resolved

-- these are the outcomes of the test under the models
abbrev pub IsRowUnder : Test → List KnownModel → TestOutcomes → Type 0
IsRowUnder test models row =
    AllZip (λ m o. IsFromScratch test m.model o) models row.outcomes.items

-- the tests so far, and these lines
abbrev pub content_in : KnownTests → List ℕ → PageContent
content_in k lines =
    record { tests = map shown_test k.tests.items; budget = k.budget; faults = lines }
