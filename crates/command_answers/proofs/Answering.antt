-- What is said of two texts.
use Rattle.std.proofs.Common.{◌≡◌, ◌≢◌, ℕ, List, Bool, true, Option, Some, None, Result, Ok, Err, IfOk, IfErr, IfSome, ap, ◌∙◌, sym, subst, refl}
use Rattle.std.specs.Io.KnownBytes.{Keeps}
use Rattle.std.specs.declared.alloc.Global.{Global}
use Rattle.std.specs.declared.alloc.AllocError.{AllocError}
use Rattle.std.specs.declared.vec.Vec.{Vec}
use Rattle.litmus_tokens.specs.declared.rule.LitmusRule.{LitmusRule}
use Rattle.litmus_tokens.specs.Numbers.{number_of as test_rule_number}
use Rattle.text_values.specs.declared.test.Test.{Test}
use Rattle.cat_tokens.specs.declared.rule.CatRule.{CatRule}
use Rattle.cat_tokens.specs.Tokens.{digits_number as model_rule_number}
use Rattle.litmus_ppc.specs.Faults as tests
use Rattle.litmus_grammar.specs.Texts.{ReadsTest, IsTestFault}
use Rattle.litmus_ppc.specs.declared.fault.LitmusFault.{LitmusFault}
use Rattle.litmus_ppc.specs.declared.fault.LitmusFault.TheVariants as test_faults
use Rattle.text_values.specs.TestValue.{Content}
use Rattle.text_values.specs.ModelValue.{Clause}
use Rattle.cat_grammar.specs.declared.form.Form.TheVariants.{Model}
use Rattle.cat_syntax.specs.Faults as models
use Rattle.cat_syntax.specs.Faults.{IsCatFaultOf}
use Rattle.cat_grammar.specs.Reads.{ReadsClauses}
use Rattle.cat_syntax.specs.declared.fault.CatFault.{CatFault}
use Rattle.cat_syntax.specs.declared.fault.CatFault.TheVariants as model_faults
use Rattle.command_answers.specs.declared.fault.EvalFault.{EvalFault}
use Rattle.command_answers.specs.declared.fault.EvalFault.TheVariants as eval_faults
use Rattle.text_values.specs.declared.model.ModelText.{ModelText}
use Rattle.outcome_states.specs.declared.answer.Outcome.{Outcome}
use Rattle.command_line.specs.declared.fault.SessionFault.{SessionFault}
use Rattle.command_line.specs.declared.fault.SessionFault.TheVariants as faults
use Rattle.command_answers.specs.declared.stream.Answer.{Answer}
use Rattle.from_scratch.specs.FromScratch.{IsFromScratch}
use Rattle.command_answers.specs.Whys.{IsWhyOf, IsWhyAnswer}
use Rattle.why_forbidden.specs.declared.answer.Asked.{Asked}
use Rattle.command_answers.specs.Answer.{IsLogOf, IsEvalLog, IsModelRefused, IsTestRefused, IsEvalAnswer, IsEvaluated, RefusesModel, RefusesTest, IsEvalRefusal, IsSaidOf, IsEvalWritten, IsStreamed}
use Rattle.command_answers.specs.Made.{IsAnswerWritten, IsAnswerMade}
use Rattle.command_answers.specs.Cut.{IsInputCut}
use Rattle.session_edits.specs.Answer.{refused_line}
use Rattle.outcome_texts.specs.Log.{log_of}

-- the log of an outcome, by the test's name
pub log_said : (r : Result (Vec ℕ Global) AllocError) (test : Test) (model : ModelText)
    (o : Outcome) (name : List ℕ) → IsFromScratch test model o → name ≡ test.name
    → IfOk r (λ log. log.items ≡ log_of name o) → IfOk r (λ log. IsLogOf test model log.items)
log_said (Ok v) test model o name said e h = (o, said, h ∙ ap (λ (n : List ℕ). log_of n o) e)
log_said (Err f) test model o name said e h = tt

-- a refusal of `read_model`, and one of `read_test`
pub model_refused : (bytes : List ℕ) (e : CatFault) (rule : CatRule) (offset : ℕ)
    → e ≡ model_faults.Refused rule offset
    → ((v : List Clause) → ReadsClauses Model bytes v → models.IsCatMemory e) → IsCatFaultOf Model bytes e
    → IsModelRefused bytes rule offset
model_refused bytes e rule offset is only fault =
    record {
      unread = λ v h. subst (λ (f : CatFault). models.IsCatMemory f) is (only v h);
      fault = subst (λ (f : CatFault). IsCatFaultOf Model bytes f) is fault;
    }

pub test_refused : (bytes : List ℕ) (e : LitmusFault) (rule : LitmusRule) (offset : ℕ)
    → e ≡ test_faults.Refused rule offset → ((v : Content) → ReadsTest bytes v → tests.IsLitmusMemory e)
    → tests.IsLitmusFaultOf (IsTestFault bytes) e → IsTestRefused bytes rule offset
test_refused bytes e rule offset is only fault =
    record {
      unread = λ v h. subst (λ (f : LitmusFault). tests.IsLitmusMemory f) is (only v h);
      fault = subst (λ (f : LitmusFault). tests.IsLitmusFaultOf (IsTestFault bytes) f) is fault;
    }

-- the line of a refused text is what is said of the report
pub model_line : (r : Result Answer AllocError) (fault : EvalFault) (rule : CatRule)
    (number offset : ℕ) → fault ≡ eval_faults.Model (model_faults.Refused rule offset)
    → number ≡ model_rule_number rule
    → IfOk r (λ a. (a.text.items ≡ refused_line 67 number offset) × (a.is_refused ≡ true))
    → IfOk r (λ a. IsSaidOf (Err fault) a.text.items a.is_refused)
model_line (Ok a) fault rule number offset is same h =
    subst (λ (f : EvalFault). IsSaidOf (Err f) a.text.items a.is_refused) (sym is)
    (h.0 ∙ ap (λ (n : ℕ). refused_line 67 n offset) same, h.1)
model_line (Err e) fault rule number offset is same h = tt

pub test_line : (r : Result Answer AllocError) (fault : EvalFault) (rule : LitmusRule)
    (number offset : ℕ) → fault ≡ eval_faults.Test (test_faults.Refused rule offset)
    → number ≡ test_rule_number rule
    → IfOk r (λ a. (a.text.items ≡ refused_line 76 number offset) × (a.is_refused ≡ true))
    → IfOk r (λ a. IsSaidOf (Err fault) a.text.items a.is_refused)
test_line (Ok a) fault rule number offset is same h =
    subst (λ (f : EvalFault). IsSaidOf (Err f) a.text.items a.is_refused) (sym is)
    (h.0 ∙ ap (λ (n : ℕ). refused_line 76 n offset) same, h.1)
test_line (Err e) fault rule number offset is same h = tt

pub fault_said : (r : Result Answer AllocError) (report : Result (Vec ℕ Global) EvalFault)
    (fault : EvalFault) → report ≡ Err fault
    → IfOk r (λ a. IsSaidOf (Err fault) a.text.items a.is_refused)
    → IfOk r (λ a. IsSaidOf report a.text.items a.is_refused)
fault_said r report fault is h =
    subst
    (λ (x : Result (Vec ℕ Global) EvalFault). IfOk r (λ a. IsSaidOf x a.text.items a.is_refused))
    (sym is) h

-- the line of a refused text is an answer to the two texts
pub refused_so : (text : List ℕ) (refused : Bool) (model test : List ℕ) (e : EvalFault)
    → IsEvalRefusal model test e → IsSaidOf (Err e) text refused
    → (refused ≡ true) × IsEvalAnswer model test text true
refused_so text refused model test (eval_faults.Model (model_faults.Refused rule offset)) h said =
    (said.1, RefusesModel refl rule offset h said.0)
refused_so text refused model test (eval_faults.Test (test_faults.Refused rule offset)) h said =
    (said.1, RefusesTest refl rule offset h.0 h.1 said.0)
refused_so text refused model test (eval_faults.Model (model_faults.OutOfMemory e)) h said =
    absurd h
refused_so text refused model test (eval_faults.Test (test_faults.OutOfMemory e)) h said =
    absurd h.1
refused_so text refused model test (eval_faults.Memory e) h said = absurd said

-- so what is said of a log, of reasons and of drawings is what is answered
pub evaluated : (r : Result Answer AllocError) (report : Result (Vec ℕ Global) EvalFault)
    (model test : List ℕ) → IfOk report (λ log. IsEvalLog model test log.items)
    → IfErr report (IsEvalRefusal model test)
    → IfOk r (λ a. IsSaidOf report a.text.items a.is_refused)
    → IfOk r (λ a. IsEvalAnswer model test a.text.items a.is_refused)
evaluated (Ok a) (Ok v) model test log refusal said =
    IsEvaluated said.1 (subst (λ (l : List ℕ). IsEvalLog model test l) (sym said.0) log)
evaluated (Ok a) (Err e) model test log refusal said =
    let h = refused_so a.text.items a.is_refused model test e refusal said in
    subst (λ (b : Bool). IsEvalAnswer model test a.text.items b) (sym h.0) h.1
evaluated (Err f) report model test log refusal said = tt

pub explained : (r : Result Answer AllocError) (report : Result (Vec ℕ Global) EvalFault)
    (asked : Asked) (model test : List ℕ)
    → IfOk report (λ text. IsWhyOf asked model test text.items)
    → IfErr report (IsEvalRefusal model test)
    → IfOk r (λ a. IsSaidOf report a.text.items a.is_refused)
    → IfOk r (λ a. IsWhyAnswer asked model test a.text.items a.is_refused)
explained (Ok a) (Ok v) asked model test why refusal said =
    subst (λ (b : Bool). IsWhyAnswer asked model test a.text.items b) (sym said.1)
    (subst (λ (l : List ℕ). IsWhyOf asked model test l) (sym said.0) why)
explained (Ok a) (Err e) asked model test why refusal said =
    let h = refused_so a.text.items a.is_refused model test e refusal said in
    subst (λ (b : Bool). IsWhyAnswer asked model test a.text.items b) (sym h.0) h.1
explained (Err f) report asked model test why refusal said = tt

-- what is said of an answer that was made, and what was written of it
made_so : (is_said : List ℕ → Bool → Type 0) (made : Result Answer AllocError) (text : List ℕ)
    (refused : Bool) → IfOk made (λ a. is_said a.text.items a.is_refused)
    → IsAnswerMade made text refused → is_said text refused
made_so is_said made text refused h (a, is, same, so) =
    let said : is_said a.text.items a.is_refused = subst (λ (m : Result Answer AllocError). IfOk m (λ a. is_said a.text.items a.is_refused)) is h in
    subst (λ (b : Bool). is_said text b) (sym so) (subst (λ (l : List ℕ). is_said l a.is_refused)
    (sym same) said)

pub written_so : (is_said : List ℕ → Bool → Type 0) (made : Result Answer AllocError)
    (old new : Option (List ℕ)) (r : Result Bool SessionFault)
    → IfOk made (λ a. is_said a.text.items a.is_refused)
    → IsAnswerWritten (IsAnswerMade made) old new r → IsAnswerWritten is_said old new r
written_so is_said made old new (Ok refused) h (text, is, appends) =
    (text, made_so is_said made text refused h is, appends)
written_so is_said made old new (Err faults.Write) h (text, refused, is, prefix) =
    (text, refused, made_so is_said made text refused h is, prefix)
written_so is_said made old new (Err faults.Read) h k = k
written_so is_said made old new (Err faults.Memory) h k = k
written_so is_said made old new (Err faults.Shared) h k = k

kept : (known : Option (List ℕ)) → Keeps known known
kept None = tt
kept (Some bytes) = refl

-- nothing was written where the input was not read
pub unread : (left known : Option (List ℕ)) (fault : SessionFault) → fault ≢ faults.Write
    → fault ≢ faults.Shared → IsStreamed left known known (Err fault)
unread left known faults.Write h k = absurd (h refl)
unread left known faults.Read h k = kept known
unread left known faults.Memory h k = kept known
unread left known faults.Shared h k = absurd (k refl)

pub streamed : (left old new : Option (List ℕ)) (r : Result Bool SessionFault) (model test : List ℕ)
    → IfSome left (λ bytes. IsInputCut bytes model test) → IsEvalWritten model test old new r
    → IsStreamed left old new r
streamed left old new (Ok refused) model test cut h =
    record { model = model; test = test; cut = cut; written = h }
streamed left old new (Err faults.Write) model test cut h =
    record { model = model; test = test; cut = cut; written = h }
streamed left old new (Err faults.Read) model test cut h = h
streamed left old new (Err faults.Memory) model test cut h = h
streamed left old new (Err faults.Shared) model test cut h = h
