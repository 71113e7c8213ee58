-- What many tests say under many models: `eval_suite` gives it, cell by cell as FromScratch says.
use Rattle.std.specs.Prelude.{List, Result, Ok, Err, Vec}
use Rattle.std.specs.List.{AllZip}
use Rattle.std.specs.declared.alloc.Global.{Global}
use denote.Ref.{Bor}
use Rattle.text_values.specs.declared.test.Test.{Test}
use Rattle.candidate_spaces.specs.declared.candidate.Space.{Space}
use Rattle.ppc_lowering.specs.declared.fault.EvalRefusal.{EvalRefusal}
use Rattle.candidates.specs.Listed.{ListsExecutions, IsSpaceRefusal}
use Rattle.text_values.specs.declared.model.ModelText.{ModelText}
use Rattle.binding_kinds.specs.declared.fault.ModelFault.{ModelFault}
use Rattle.binding_graph.specs.declared.resolved.Resolved.{Resolved}
use Rattle.outcome_states.specs.declared.answer.Outcome.{Outcome}
use Rattle.from_scratch.specs.FromScratch.{IsFaultOf, IsFaultless, AreItemsOf, IsFromScratch}

-- the outcomes of a test under these models, in their order
abbrev pub AreOutcomes : List (Bor ModelText) → Test → List Outcome → Type 0
AreOutcomes models test outcomes = AllZip (λ m o. IsFromScratch test m.now o) models outcomes

-- for each test its outcomes
abbrev pub AreSuiteRows : List (Bor ModelText) → List Test → List (Vec Outcome Global) → Type 0
AreSuiteRows models tests rows = AllZip (λ test row. AreOutcomes models test row.items) tests rows

-- ---- what is made once

-- the candidates of the test, or why it has none
abbrev pub IsSpaceFor : Test → Result Space EvalRefusal → Type 0
IsSpaceFor test (Ok space) = ListsExecutions test space
IsSpaceFor test (Err r) = IsSpaceRefusal test r

-- the items of a model without fault, or the first fault
abbrev pub IsResolvedAs : ModelText → Result Resolved ModelFault → Type 0
IsResolvedAs model (Ok resolved) = IsFaultless model × AreItemsOf model resolved.items.items
IsResolvedAs model (Err k) = IsFaultOf model k

abbrev pub AreResolvedAs : List (Bor ModelText) → List (Result Resolved ModelFault) → Type 0
AreResolvedAs models resolved = AllZip (λ m r. IsResolvedAs m.now r) models resolved
