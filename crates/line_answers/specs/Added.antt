-- What the code adds to a report, file by file.
use Rattle.std.specs.Prelude.{◌≡◌, List, [], ◌∷◌, ◌++◌, map, Result}
use Rattle.std.specs.List.{AllZip, flat_map}
use denote.Ref.{Bor}
use Rattle.text_values.specs.declared.model.ModelText.{ModelText}
use Rattle.binding_kinds.specs.declared.fault.ModelFault.{ModelFault}
use Rattle.binding_graph.specs.declared.resolved.Resolved.{Resolved}
use Rattle.outcome_states.specs.declared.answer.Outcome.{Outcome}
use Rattle.from_scratch.specs.Suites.{AreResolvedAs}
use Rattle.outcome_lines.specs.Records.{ModelOutcome}
use Rattle.command_answers.specs.declared.file.TextFile.{TextFile}
use Rattle.command_answers.specs.declared.reading.NamedModel.{NamedModel}
use Rattle.command_answers.specs.declared.report.Report.{Report}
use Rattle.line_answers.specs.declared.report.Lines.{Lines}
use Rattle.line_answers.specs.Results.{FileResult, IsFileResult}
use Rattle.line_answers.specs.Reports.{lines_of}

-- each outcome with the name of its model
abbrev pub named_outcomes : List NamedModel → List Outcome → List ModelOutcome
named_outcomes [] outcomes = []
named_outcomes (m ∷ ms) [] = []
named_outcomes (m ∷ ms) (o ∷ os) = record { model = m.name; outcome = o } ∷ named_outcomes ms os

-- these are the items of the models, or their first faults
pub record AreJudges (models : List NamedModel) (resolved : List (Result Resolved ModelFault))
    : Type 0 where
  pub texts : List (Bor ModelText)
  pub same : map (λ t. t.now) texts ≡ map (λ m. m.model) models
  pub resolved_are : AreResolvedAs texts resolved

-- a file adds its lines, and what is told of it
pub record AddsResult (lines : Lines) (models : List NamedModel) (file : TextFile)
    (old new : Report) : Type 0 where
  pub given : FileResult
  pub given_is : IsFileResult models file given
  pub text : new.text.items ≡ old.text.items ++ lines_of lines (given.result ∷ [])
  pub faults : new.faults.items ≡ old.faults.items ++ given.told

-- so do files, one behind the other
pub record AddsResults (lines : Lines) (models : List NamedModel) (files : List TextFile)
    (old new : Report) : Type 0 where
  pub given : List FileResult
  pub given_are : AllZip (IsFileResult models) files given
  pub text : new.text.items ≡ old.text.items ++ lines_of lines (map (λ r. r.result) given)
  pub faults : new.faults.items ≡ old.faults.items ++ flat_map (λ r. r.told) given
