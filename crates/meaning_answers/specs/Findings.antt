-- What `why` says of a test under a model, by the definitions of `meaning`. Read Told first. Read
-- next: ReasonAnswers.
use Rattle.std.specs.Prelude.{ℕ, zero, suc, ◌≡◌, ◌++◌, List, [], codes}
use Rattle.std.specs.List.{AllZip}
use Rattle.text_values.specs.TestValue.{Content}
use Rattle.text_values.specs.ModelValue.{Clause}
use Rattle.litmus_printing.specs.Printing.{condition_text}
use Rattle.binding_kinds.specs.declared.fault.ModelFault as program_fault
use Rattle.binding_kinds.specs.Numbers as fault_numbers
use Rattle.ppc_lowering.specs.declared.fault.EvalRefusal.{EvalRefusal}
use Rattle.ppc_lowering.specs.Numbers as refusal_numbers
use Rattle.why_text.specs.declared.event.ToldEvent.{ToldEvent}
use Rattle.why_text.specs.declared.finding.Findings.{Findings}
use Rattle.why_text.specs.Findings.{findings_text}
use Rattle.why_forbidden.specs.declared.answer.Asked.{Asked}
use Rattle.why_forbidden.specs.Whys.{refusal_text}
use Rattle.meaning.specs.Sets.{HasCount, IsListOf}
use Rattle.meaning.specs.Names.{locations}
use Rattle.meaning.specs.Executions.{Execution, IsExecution}
use Rattle.meaning.specs.Faults.{faults}
use Rattle.meaning.specs.Refusals.{IsAccepted}
use Rattle.meaning.specs.Outcome.{Satisfies}
use Rattle.meaning.specs.Evaluates.{IsKept, Evaluates, Faulty, Refused}
use Rattle.meaning_executions.specs.Events.{events_in}
use Rattle.meaning_executions.specs.Refusals.{refusal_by_name}
use Rattle.meaning_outcomes.specs.Outcomes.{fault_by_name}
use Rattle.meaning_answers.specs.Told.{IsEventTold, IsReasonSaid}

-- The model keeps the execution, in which the condition holds.
abbrev pub IsPositive : Content → List Clause → Execution → Type 0
IsPositive t items x = IsKept t items x × Satisfies t x t.condition

-- The condition holds in the execution, which the model does not keep.
abbrev pub IsForbidden : Content → List Clause → Execution → Type 0
IsForbidden t items x =
    IsExecution t x × Satisfies t x t.condition × (IsKept t items x → ⊥)

-- The events are those that the threads of one of so many witnesses do, in their order.
abbrev pub AreShownEvents : Content → List Clause → ℕ → List ToldEvent → Type 0
AreShownEvents t items zero told = told ≡ []
AreShownEvents t items (suc n) told =
    (x : Execution) × IsPositive t items x × AllZip (IsEventTold t x) (events_in 0 x.runs) told

-- What is found of the executions in which the condition holds: how many the model keeps, the events
-- of one of these, and for each of the others why it does not keep it.
pub record AreFindingsSaid (t : Content) (items : List Clause) (f : Findings) : Type 0 where
  pub kept : HasCount (IsPositive t items) f.kept
  pub shown : AreShownEvents t items f.kept f.shown.items
  pub forbidden : List Execution
  pub all : IsListOf (IsForbidden t items) forbidden
  pub reasons : AllZip (IsReasonSaid t items) forbidden f.reasons.items

-- the lines of the test and of its condition
abbrev pub head_text : Content → List ℕ
head_text t =
    codes "Test " ++ t.name ++ codes "\nCondition " ++ condition_text t.quantifier t.condition
    ++ codes "\n"

-- What `why` says behind these lines: the first fault of the model, the refusal of the test, or what
-- is found of its executions.
pub data IsWhySaid (asked : Asked) (t : Content) (items : List Clause) (text : List ℕ)
    : Type 0 where
  SaysFault : (k : program_fault.ModelFault) → Evaluates t items (Faulty (fault_by_name k))
      → text ≡ head_text t ++ refusal_text (codes "M") (fault_numbers.number k)
      → IsWhySaid asked t items text
  SaysRefusal : (r : EvalRefusal) → Evaluates t items (Refused (refusal_by_name r))
      → text ≡ head_text t ++ refusal_text (codes "E") (refusal_numbers.number r)
      → IsWhySaid asked t items text
  SaysFindings : faults items ≡ [] → IsAccepted t → (f : Findings) → AreFindingsSaid t items f
      → text ≡ head_text t ++ findings_text asked.is_forbidden (locations t) f
      → IsWhySaid asked t items text
