-- Faults, refusals and evaluations are those of the definitions.
use Rattle.std.proofs.Common.{◌≡◌, List, [], ◌∷◌, Option, Some, None, refl, sym, ap, ◌∙◌}
use Rattle.text_values.specs.declared.test.Test.{Test}
use Rattle.text_values.specs.declared.model.ModelText.{ModelText}
use Rattle.text_values.specs.ModelValue.{Clause}
use Rattle.text_values.specs.ModelValues.{clauses_of}
use Rattle.text_values.specs.TestValue.{content_of}
use Rattle.binding_kinds.specs.declared.fault.ModelFault as program_fault
use Rattle.outcome_states.specs.declared.answer.Evaluation.{Evaluation}
use Rattle.outcome_states.specs.declared.answer.OutcomeResult.{OutcomeResult}
use Rattle.outcome_states.specs.declared.answer.OutcomeResult.TheVariants as results
use Rattle.outcome_states.specs.declared.answer.Refusal.TheVariants as reasons
use Rattle.from_scratch.specs.FromScratch.{IsFaultOf, IsFaultless, IsEvaluationOf, IsResultOf}
use Rattle.meaning.specs.Names.{locations}
use Rattle.meaning.specs.Faults.{ModelFault, Unbound, Kind, NotMonotone, Duplicate, SetInRec, Arity, TooLarge, faults}
use Rattle.meaning.specs.Evaluates.{Evaluates}
use Rattle.meaning.specs.Refusals.{IsAccepted}
use Rattle.meaning.proofs.Meanings.{meanings_are_one}
use Rattle.meaning_faults.specs.Laws.{fault_of, head_of}
use Rattle.meaning_faults.proofs.Models.{first_is_head, no_fault_is_none}
use Rattle.meaning_executions.proofs.Finishing.{is_refused, is_accepted}
use Rattle.meaning_laws.specs.Words.{IsTestOfWords}
use Rattle.meaning_states.specs.ByName.{evaluation_by_name}
use Rattle.meaning_states.specs.States.{IsEvaluationSaid}
use Rattle.meaning_states.proofs.Saying.{all_said}
use Rattle.meaning_outcomes.specs.Outcomes.{fault_by_name, outcome_by_name, FromScratchIsMeant, OutcomesAreOne}

-- ---- faults

back : (k : ModelFault) → fault_by_name (fault_of k) ≡ k
back Unbound = refl
back Kind = refl
back NotMonotone = refl
back Duplicate = refl
back SetInRec = refl
back Arity = refl
back TooLarge = refl

same_fault : {k l : program_fault.ModelFault} → Some k ≡ Some l → k ≡ l
same_fault e = cc

first_by_name : (ks : List ModelFault) (k : program_fault.ModelFault) → head_of ks ≡ Some k
    → (rest : List ModelFault) × (ks ≡ fault_by_name k ∷ rest)
first_by_name [] k e = absurd (let f : None ≡ Some k = e in cc)
first_by_name (l ∷ ls) k e =
    let same : fault_of l ≡ k = same_fault e in (
      ls,
      ap (λ (j : ModelFault). j ∷ ls) (sym (back l))
          ∙ ap (λ (j : program_fault.ModelFault). fault_by_name j ∷ ls) same,
    )

faulty : (model : ModelText) (k : program_fault.ModelFault) → IsFaultOf model k
    → (rest : List ModelFault)
    × (faults (clauses_of model.items.items) ≡ fault_by_name k ∷ rest)
faulty model k h =
    first_by_name (faults (clauses_of model.items.items)) k
    ((first_is_head model.items.items k).0 h)

faultless : (model : ModelText) → IsFaultless model → faults (clauses_of model.items.items) ≡ []
faultless model h = (no_fault_is_none model.items.items).0 h

-- ---- results

module _ (test : Test) (words : IsTestOfWords (content_of test)) where
  evaluation_meant : (model : ModelText) (e : Evaluation) → IsFaultless model
      → IsEvaluationOf test model e
      → IsAccepted (content_of test)
      × IsEvaluationSaid (content_of test) (clauses_of model.items.items)
      (evaluation_by_name (locations (content_of test)) e)
  evaluation_meant model e none (resolved, of, space, lists, by) = (
    is_accepted test space lists,
    all_said test words space lists model.items.items resolved none of.0 of.1 e by,
  )

  result_meant : (model : ModelText) (r : OutcomeResult) → IsResultOf test model r
      → Evaluates (content_of test) (clauses_of model.items.items)
      (outcome_by_name (locations (content_of test)) r)
  result_meant model (results.Refused (reasons.Model k)) h = faulty model k h
  result_meant model (results.Refused (reasons.Space r)) (none, refused) =
      (faultless model none, is_refused test r refused)
  result_meant model (results.Evaluated e) (none, evaluated) =
      let said : _ = evaluation_meant model e none evaluated in
      (faultless model none, said.0, said.1)

  pub all_meant : FromScratchIsMeant test
  all_meant model o h = result_meant model o.result h.result

  pub all_one : OutcomesAreOne test
  all_one model o p first second =
      meanings_are_one (content_of test) (clauses_of model.items.items)
      (outcome_by_name (locations (content_of test)) o.result)
      (outcome_by_name (locations (content_of test)) p.result) (all_meant model o first)
      (all_meant model p second)
