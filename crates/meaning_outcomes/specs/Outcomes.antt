-- What evaluating a test from nothing gives under a model is what the definitions relate to them.
use Rattle.std.specs.Prelude.{◌≡◌, List}
use Rattle.text_values.specs.declared.test.Test.{Test}
use Rattle.text_values.specs.declared.model.ModelText.{ModelText}
use Rattle.text_values.specs.ModelValues.{clauses_of}
use Rattle.text_values.specs.TestValue.{content_of}
use Rattle.binding_kinds.specs.declared.fault.ModelFault as program_fault
use Rattle.binding_kinds.specs.declared.fault.ModelFault.TheVariants as program_faults
use Rattle.outcome_states.specs.declared.answer.Outcome as program_outcome
use Rattle.outcome_states.specs.declared.answer.OutcomeResult.{OutcomeResult}
use Rattle.outcome_states.specs.declared.answer.OutcomeResult.TheVariants as results
use Rattle.outcome_states.specs.declared.answer.Refusal.TheVariants as reasons
use Rattle.from_scratch.specs.FromScratch.{IsFromScratch}
use Rattle.meaning.specs.Names.{Name, locations}
use Rattle.meaning.specs.Faults.{ModelFault, Unbound, Kind, NotMonotone, Duplicate, SetInRec, Arity, TooLarge}
use Rattle.meaning.specs.Evaluates.{Evaluates, Outcome, Faulty, Refused, Evaluated}
use Rattle.meaning_executions.specs.Refusals.{refusal_by_name}
use Rattle.meaning_laws.specs.Words.{IsTestOfWords}
use Rattle.meaning_states.specs.ByName.{evaluation_by_name}

-- a fault of a model
abbrev pub fault_by_name : program_fault.ModelFault → ModelFault
fault_by_name program_faults.Unbound = Unbound
fault_by_name program_faults.Kind = Kind
fault_by_name program_faults.NotMonotone = NotMonotone
fault_by_name program_faults.Duplicate = Duplicate
fault_by_name program_faults.SetInRec = SetInRec
fault_by_name program_faults.Arity = Arity
fault_by_name program_faults.TooLarge = TooLarge

-- a result, where the list has the names of the locations in their order
abbrev pub outcome_by_name : List Name → OutcomeResult → Outcome
outcome_by_name names (results.Refused (reasons.Model k)) = Faulty (fault_by_name k)
outcome_by_name names (results.Refused (reasons.Space r)) = Refused (refusal_by_name r)
outcome_by_name names (results.Evaluated e) = Evaluated (evaluation_by_name names e)

-- The test says under the model what the outcome says, with names in place of numbers.
abbrev pub IsMeant : Test → ModelText → program_outcome.Outcome → Type 0
IsMeant test model o =
    Evaluates (content_of test) (clauses_of model.items.items)
    (outcome_by_name (locations (content_of test)) o.result)

-- So it is for what evaluating from nothing gives.
abbrev pub FromScratchIsMeant : Test → Type 0
FromScratchIsMeant test =
    (model : ModelText) (o : program_outcome.Outcome) → IsFromScratch test model o
    → IsMeant test model o

-- So it is for each test that writes numbers of 32 bits.
abbrev pub TestsOfWordsAreMeant : Type 0
TestsOfWordsAreMeant = (test : Test) → IsTestOfWords (content_of test) → FromScratchIsMeant test

-- Evaluating from nothing says one thing by name.
abbrev pub OutcomesAreOne : Test → Type 0
OutcomesAreOne test =
    (model : ModelText) (o p : program_outcome.Outcome) → IsFromScratch test model o
    → IsFromScratch test model p
    → outcome_by_name (locations (content_of test)) o.result
    ≡ outcome_by_name (locations (content_of test)) p.result
