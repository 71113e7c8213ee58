-- The bytes of `why`. Read Outcomes first, and `findings_text` of why_text.
use Rattle.std.specs.Prelude.{ℕ, ◌≡◌, ◌⊎◌, ◌++◌, List, decimal, codes}
use Rattle.std.specs.List.{All}
use Rattle.text_values.specs.declared.test.Test.{Test}
use Rattle.text_values.specs.TestValue.{formula_of}
use Rattle.litmus_printing.specs.Printing.{condition_text}
use Rattle.text_values.specs.declared.model.ModelText.{ModelText}
use Rattle.predefined_names.specs.declared.predefined.TheConstants.{PREDEFINED}
use Rattle.binding_kinds.specs.declared.fault.ModelFault.{ModelFault}
use Rattle.binding_kinds.specs.Numbers as model_faults
use Rattle.binding_graph.specs.declared.resolved.ResolvedItem.{ResolvedItem}
use Rattle.candidate_spaces.specs.declared.candidate.Space.{Space}
use Rattle.ppc_lowering.specs.declared.fault.EvalRefusal.{EvalRefusal}
use Rattle.ppc_lowering.specs.Numbers as eval_refusals
use Rattle.candidates.specs.Listed.{ListsExecutions, IsSpaceRefusal}
use Rattle.candidate_spaces.specs.Space.{candidate_count}
use Rattle.from_scratch.specs.declared.cell.ItemAnswers.{ItemAnswers}
use Rattle.from_scratch.specs.FromScratch.{AreItemsOf, IsFaultOf, IsFaultless}
use Rattle.from_scratch.specs.Known.{HasAllColumns}
use Rattle.why_text.specs.declared.finding.Findings.{Findings}
use Rattle.why_text.specs.Findings.{findings_text}
use Rattle.why_labels.specs.declared.label.NameValues.{NameValues}
use Rattle.why_forbidden.specs.declared.answer.Asked.{Asked}
use Rattle.why_forbidden.specs.declared.checks.CheckValues.{CheckValues}
use Rattle.why_forbidden.specs.Checked.{IsChecked, check_indexes, checked_items}
use Rattle.why_forbidden.specs.Labels.{Judgement}
use Rattle.why_forbidden.specs.Language.{IsOfLanguage, valued_names, relation_names}
use Rattle.why_forbidden.specs.Outcomes.{Case, AreFindings}

abbrev pub head_text : Test → List ℕ
head_text test =
    codes "Test " ++ test.name ++ codes "\nCondition "
    ++ condition_text test.condition.quantifier (formula_of test.condition.proposition)
    ++ codes "\n"

abbrev pub refusal_text : List ℕ → ℕ → List ℕ
refusal_text letter number = codes "Refused " ++ letter ++ decimal number ++ codes "\n"

-- the findings over all candidates
abbrev pub HasFound : Asked → Test → ModelText → List ResolvedItem → Space → List CheckValues
    → NameValues → Findings → Type 0
HasFound asked test model items space checks values f =
    let judgement : Judgement = record { text = model.items.items; items = items; values = values; is_deep = asked.is_deep } in
    let case : Case = record { test = test; space = space; model = judgement; checks = checks } in
    AreFindings case (candidate_count space) f.kept f.shown.items f.reasons.items

-- What is found of the candidates of the space: the columns of all names that checks use, the
-- checks that are no flags, with their values, and the names of the language, with theirs; and the
-- findings over all candidates.
pub record IsFoundText (asked : Asked) (test : Test) (model : ModelText) (items : List ResolvedItem)
    (space : Space) (text : List ℕ)
    : Type 0 where
  pub found : ItemAnswers
  pub columns : HasAllColumns space items found
  pub checks : List CheckValues
  pub each_check : All (IsChecked space found.columns.items items) checks
  pub all_checks : checked_items checks ≡ check_indexes 0 items
  pub values : NameValues
  pub bound : values.bound.now ≡ found.columns.items
  pub each_name : All (IsOfLanguage space) values.predefined.now
  pub all_names : valued_names values.predefined.now ≡ relation_names PREDEFINED
  pub findings : Findings
  pub gathered : HasFound asked test model items space checks values findings
  pub told : text ≡ findings_text asked.is_forbidden space.locations.items findings

-- the candidates of the test, or why it has none
abbrev pub IsOverSpace : Asked → Test → ModelText → List ResolvedItem → List ℕ → Type 0
IsOverSpace asked test model items text =
    (space : Space) × ListsExecutions test space × IsFoundText asked test model items space text

abbrev pub IsSpaceRefused : Test → List ℕ → Type 0
IsSpaceRefused test text =
    (r : EvalRefusal) × IsSpaceRefusal test r
    × (text ≡ refusal_text (codes "E") (eval_refusals.number r))

abbrev pub IsSaidOver : Asked → Test → ModelText → List ResolvedItem → List ℕ → Type 0
IsSaidOver asked test model items text =
    IsOverSpace asked test model items text ⊎ IsSpaceRefused test text

-- over the items of a model without a fault
pub record IsOverItems (asked : Asked) (test : Test) (model : ModelText) (text : List ℕ)
    : Type 0 where
  pub faultless : IsFaultless model
  pub items : List ResolvedItem
  pub resolved : AreItemsOf model items
  pub said : IsSaidOver asked test model items text

-- or the first fault of the model
abbrev pub IsFaulted : ModelText → List ℕ → Type 0
IsFaulted model text =
    (k : ModelFault) × IsFaultOf model k × (text ≡ refusal_text (codes "M") (model_faults.number k))

abbrev pub IsSaid : Asked → Test → ModelText → List ℕ → Type 0
IsSaid asked test model text = IsOverItems asked test model text ⊎ IsFaulted model text

-- a text goes on with one of these
pub record AddsTo (old new : List ℕ) (Said : List ℕ → Type 0) : Type 0 where
  pub more : List ℕ
  pub said : Said more
  pub text : new ≡ old ++ more

-- what is said of a test and a model: the test, its condition, and what is found, or the refusal
abbrev pub IsWhy : Asked → Test → ModelText → List ℕ → Type 0
IsWhy asked test model text = AddsTo (head_text test) text (IsSaid asked test model)
