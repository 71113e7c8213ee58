-- What is said of a model's text and a test's text is one.
use Rattle.std.proofs.Common.{◌≡◌, ℕ, List, true, false, Ok, Err, refl, sym, ◌∙◌}
use Rattle.cat_grammar.specs.declared.form.Form.TheVariants.{Model}
use Rattle.cat_tokens.specs.declared.rule.CatRule.{CatRule}
use Rattle.cat_tokens.specs.Tokens.{digits_number as model_rule_number}
use Rattle.why_forbidden.specs.declared.drawing.DrawRequest.{DrawRequest}
use Rattle.outcome_texts.specs.Log.{log_of}
use Rattle.litmus_tokens.specs.declared.rule.LitmusRule.{LitmusRule}
use Rattle.litmus_tokens.specs.Numbers.{number_of as test_rule_number}
use Rattle.command_answers.specs.declared.fault.EvalFault.TheVariants as faults
use Rattle.cat_syntax.specs.declared.fault.CatFault.TheVariants as model_faults
use Rattle.litmus_ppc.specs.declared.fault.LitmusFault.TheVariants as test_faults
use Rattle.command_answers.specs.Answer.{IsEvalLog, IsModel, IsModelRefused, IsTestRefused, IsEvalAnswer, IsEvaluated, RefusesModel, RefusesTest}
use Rattle.command_answers.specs.Pictures.{IsPictureOf, IsPictureAnswer}
use Rattle.command_answers.specs.Whys.{IsWhyOf, IsWhyAnswer}
use Rattle.why_forbidden.specs.declared.answer.Asked.{Asked}
use Rattle.session_edits.specs.Answer.{refused_line}
use Rattle.text_reading_laws.proofs.Faults.{one_test_fault, one_model_fault}
use Rattle.text_reading_laws.proofs.Meanings.{one_test, one_model}
use Rattle.text_values.specs.ModelValues.{clauses_of}
use Rattle.text_values.specs.TestValue.{content_of}
use Rattle.session_laws.specs.Answers.{HasOneAnswer, HasOneEvaluation, HasOneRefusalLine}
use Rattle.session_laws.proofs.Models.{one_outcome_alike}

module _ (model test : List ℕ) where
  -- ---- logs and faults

  one_log : (log other : List ℕ) → IsEvalLog model test log → IsEvalLog model test other → log ≡ other
  one_log log other h g =
      let items = one_model Model model _ _ h.model_read g.model_read in
      let content = one_test test _ _ h.test_read g.test_read in
      let outcome = one_outcome_alike _ _ _ _ content items _ _ h.said.1 g.said.1 in
      h.said.2 ∙ (λ i. log_of ((content i).name) (outcome i)) ∙ sym g.said.2

  model_fault_one : (rule other : CatRule) (offset again : ℕ) → IsModelRefused model rule offset
      → IsModelRefused model other again → (rule ≡ other) × (offset ≡ again)
  model_fault_one rule other offset again h g =
      one_model_fault Model model rule other offset again h.fault g.fault

  test_fault_one : (rule other : LitmusRule) (offset again : ℕ) → IsTestRefused test rule offset
      → IsTestRefused test other again → (rule ≡ other) × (offset ≡ again)
  test_fault_one rule other offset again h g =
      one_test_fault test rule other offset again h.fault g.fault

  -- ---- what is read is not refused

  no_model_fault : (log : List ℕ) (rule : CatRule) (offset : ℕ) → IsEvalLog model test log
      → IsModelRefused model rule offset → ⊥
  no_model_fault log rule offset h g = g.unread (clauses_of h.items.items.items) h.model_read

  no_test_fault : (log : List ℕ) (rule : LitmusRule) (offset : ℕ) → IsEvalLog model test log
      → IsTestRefused test rule offset → ⊥
  no_test_fault log rule offset h g = g.unread (content_of h.known) h.test_read

  no_model : (rule : CatRule) (offset : ℕ) → IsModel model → IsModelRefused model rule offset → ⊥
  no_model rule offset h g = g.unread h.0 h.1

  -- ---- answers

  pub one_answer : HasOneAnswer model test
  one_answer text other refused also (IsEvaluated e log) (IsEvaluated f more) =
      (one_log text other log more, e ∙ sym f)
  one_answer text other refused also (IsEvaluated e log) (RefusesModel f rule offset fault line) =
      absurd (no_model_fault text rule offset log fault)
  one_answer text other refused also (IsEvaluated e log) (RefusesTest f rule offset read fault line)
      = absurd (no_test_fault text rule offset log fault)
  one_answer text other refused also (RefusesModel e rule offset fault line) (IsEvaluated f log) =
      absurd (no_model_fault other rule offset log fault)
  one_answer text other refused also (RefusesModel e rule offset fault line)
      (RefusesModel f again place blamed told) =
      let one = model_fault_one rule again offset place fault blamed in
      (line ∙ (λ i. refused_line 67 (model_rule_number (one.0 i)) (one.1 i)) ∙ sym told, e ∙ sym f)
  one_answer text other refused also (RefusesModel e rule offset fault line)
      (RefusesTest f again place read blamed told) = absurd (no_model rule offset read fault)
  one_answer text other refused also (RefusesTest e rule offset read fault line) (IsEvaluated f log)
      = absurd (no_test_fault other rule offset log fault)
  one_answer text other refused also (RefusesTest e rule offset read fault line)
      (RefusesModel f again place blamed told) = absurd (no_model again place read blamed)
  one_answer text other refused also (RefusesTest e rule offset read fault line)
      (RefusesTest f again place also_read blamed told) =
      let one = test_fault_one rule again offset place fault blamed in
      (line ∙ (λ i. refused_line 76 (test_rule_number (one.0 i)) (one.1 i)) ∙ sym told, e ∙ sym f)

  -- ---- what `eval` gives

  pub one_evaluation : HasOneEvaluation model test
  one_evaluation (Ok log) (Ok other) h g =
      let one = one_log log other h g in λ i. Ok (one i)
  one_evaluation (Ok log) (Err (faults.Model (model_faults.Refused rule offset))) h g =
      absurd (no_model_fault log rule offset h g)
  one_evaluation (Ok log) (Err (faults.Test (test_faults.Refused rule offset))) h g =
      absurd (no_test_fault log rule offset h g.1)
  one_evaluation (Ok log) (Err (faults.Model (model_faults.OutOfMemory e))) h g = absurd g
  one_evaluation (Ok log) (Err (faults.Test (test_faults.OutOfMemory e))) h g = absurd g.1
  one_evaluation (Ok log) (Err (faults.Memory e)) h g = absurd g
  one_evaluation (Err (faults.Model (model_faults.Refused rule offset))) (Ok log) h g =
      absurd (no_model_fault log rule offset g h)
  one_evaluation (Err (faults.Model (model_faults.Refused rule offset))) (Err (faults.Model (model_faults.Refused other again))) h g =
      let one = model_fault_one rule other offset again h g in
      λ i. Err (faults.Model (model_faults.Refused (one.0 i) (one.1 i)))
  one_evaluation (Err (faults.Model (model_faults.Refused rule offset))) (Err (faults.Test (test_faults.Refused other again))) h g =
      absurd (no_model rule offset g.0 h)
  one_evaluation (Err (faults.Model (model_faults.Refused rule offset))) (Err (faults.Model (model_faults.OutOfMemory e))) h g = absurd g
  one_evaluation (Err (faults.Model (model_faults.Refused rule offset))) (Err (faults.Test (test_faults.OutOfMemory e))) h g = absurd g.1
  one_evaluation (Err (faults.Model (model_faults.Refused rule offset))) (Err (faults.Memory e)) h g = absurd g
  one_evaluation (Err (faults.Test (test_faults.Refused rule offset))) (Ok log) h g =
      absurd (no_test_fault log rule offset g h.1)
  one_evaluation (Err (faults.Test (test_faults.Refused rule offset))) (Err (faults.Model (model_faults.Refused other again))) h g =
      absurd (no_model other again h.0 g)
  one_evaluation (Err (faults.Test (test_faults.Refused rule offset))) (Err (faults.Test (test_faults.Refused other again))) h g =
      let one = test_fault_one rule other offset again h.1 g.1 in
      λ i. Err (faults.Test (test_faults.Refused (one.0 i) (one.1 i)))
  one_evaluation (Err (faults.Test (test_faults.Refused rule offset))) (Err (faults.Model (model_faults.OutOfMemory e))) h g = absurd g
  one_evaluation (Err (faults.Test (test_faults.Refused rule offset))) (Err (faults.Test (test_faults.OutOfMemory e))) h g = absurd g.1
  one_evaluation (Err (faults.Test (test_faults.Refused rule offset))) (Err (faults.Memory e)) h g = absurd g
  one_evaluation (Err (faults.Model (model_faults.OutOfMemory e))) other h g = absurd h
  one_evaluation (Err (faults.Test (test_faults.OutOfMemory e))) other h g = absurd h.1
  one_evaluation (Err (faults.Memory e)) other h g = absurd h

  -- ---- reasons and drawings

  false_is_not : false ≡ true → ⊥
  false_is_not e = absurd cc

  true_is_not : true ≡ false → ⊥
  true_is_not e = absurd cc

  why_apart : (asked : Asked) (text other : List ℕ) → IsWhyOf asked model test text
      → IsEvalAnswer model test other true → ⊥
  why_apart asked text other h (IsEvaluated e log) = true_is_not e
  why_apart asked text other h (RefusesModel e rule offset fault line) =
      fault.unread (clauses_of h.items.items.items) h.model_read
  why_apart asked text other h (RefusesTest e rule offset read fault line) =
      fault.unread (content_of h.known) h.test_read

  pub one_why_refusal : (asked : Asked) → HasOneRefusalLine (IsWhyAnswer asked model test)
  one_why_refusal asked text other false false h g = (refl, λ e. absurd (false_is_not e))
  one_why_refusal asked text other false true h g = absurd (why_apart asked text other h g)
  one_why_refusal asked text other true false h g = absurd (why_apart asked other text g h)
  one_why_refusal asked text other true true h g =
      (refl, λ e. (one_answer text other true true h g).0)

  picture_apart : (request : DrawRequest) (text other : List ℕ)
      → IsPictureOf request model test text → IsEvalAnswer model test other true → ⊥
  picture_apart request text other h (IsEvaluated e log) = true_is_not e
  picture_apart request text other h (RefusesModel e rule offset fault line) =
      fault.unread (clauses_of h.items.items.items) h.model_read
  picture_apart request text other h (RefusesTest e rule offset read fault line) =
      fault.unread (content_of h.known) h.test_read

  pub one_picture_refusal : (request : DrawRequest)
      → HasOneRefusalLine (IsPictureAnswer request model test)
  one_picture_refusal request text other false false h g =
      (refl, λ e. absurd (false_is_not e))
  one_picture_refusal request text other false true h g =
      absurd (picture_apart request text other h g)
  one_picture_refusal request text other true false h g =
      absurd (picture_apart request other text g h)
  one_picture_refusal request text other true true h g =
      (refl, λ e. (one_answer text other true true h g).0)
