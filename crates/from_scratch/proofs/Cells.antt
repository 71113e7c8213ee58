-- From what is said over some space to the outcome of a test.
use Rattle.std.proofs.Common.{◌≡◌, Bool, List, Vec, Global, reverse, Result, Ok, Err, IfOk, sym, ap, ◌∙◌, subst}
use Rattle.std.specs.declared.alloc.AllocError.{AllocError}
use Rattle.std.proofs.lemmas.Result.{IfOk-weaker}
use Rattle.predefined_names.specs.declared.predefined.TheConstants.{PREDEFINED}
use Rattle.text_values.specs.declared.test.Place.{Place}
use Rattle.text_values.specs.declared.test.Test.{Test}
use Rattle.text_values.specs.TestValue.{formula_of}
use Rattle.litmus_printing.specs.Printing.{condition_text}
use Rattle.binding_kinds.specs.declared.fault.ModelFault.{ModelFault}
use Rattle.binding_graph.specs.declared.resolved.ResolvedItem.{ResolvedItem}
use Rattle.candidate_spaces.specs.Space.{shown_in}
use Rattle.candidate_spaces.specs.declared.candidate.Space.{Space}
use Rattle.candidates.specs.Listed.{ListsExecutions}
use Rattle.verdict.specs.Evaluated.{IsEvaluatedAs, IsOutcomeOn}
use Rattle.outcome_states.specs.declared.answer.Evaluation.{Evaluation}
use Rattle.outcome_states.specs.declared.answer.Outcome.{Outcome}
use Rattle.outcome_states.specs.declared.answer.OutcomeResult.{OutcomeResult}
use Rattle.outcome_states.specs.declared.answer.OutcomeResult.TheVariants.{Refused, Evaluated}
use Rattle.outcome_states.specs.declared.answer.Refusal.{Refusal}
use Rattle.outcome_states.specs.declared.answer.Refusal.TheVariants as refusals
use Rattle.outcome_states.specs.declared.raised.Raised.{Raised}
use Rattle.outcome_states.specs.Kept.{Flag, of_raised}
use Rattle.from_scratch.specs.declared.cell.ItemAnswers.{ItemAnswers}
use Rattle.from_scratch.specs.declared.cell.FlagAnswer.{FlagAnswer}
use Rattle.from_scratch.specs.Answers.{AreSaid, AreSoundItems}
use Rattle.from_scratch.specs.Known.{kept_of, of_flags, flags_of, AreKeptIn, AreKeptAndFlagged}
use Rattle.text_values.specs.declared.model.ModelText.{ModelText}
use Rattle.from_scratch.specs.FromScratch.{bare_items, IsFaultOf, IsFaultless, AreItemsOf, IsEvaluationOf, IsResultOf, IsFromScratch}
use Rattle.binding_kinds.specs.Outermost.{outermost_names}
use Rattle.from_scratch.specs.Cell.{IsSaidFromSome, IsEvaluationFrom, IsResult, IsCell, IsEvaluationBy, IsEvaluationOver, OfModel}
use Rattle.from_scratch.proofs.Ordered.{resolved_ordered}
use Rattle.from_scratch.proofs.Rising.{resolved_rising}

result_said : (test : Test) (space : Space) (checks : List (List Bool)) (flags : List Flag)
    (r : OutcomeResult) → ListsExecutions test space
    → IsEvaluatedAs (IsEvaluationFrom space test checks flags) r → IsResult test r
result_said test space checks flags (Refused _) own h = absurd h
result_said test space checks flags (Evaluated e) own h = (space, own, checks, flags, h)

pub cell_said : (test : Test) (space : Space) (o : Outcome) → ListsExecutions test space
    → IsSaidFromSome space test o → IsCell test o
cell_said test space o own h = record {
  kind = h.2.kind_is;
  text = h.2.text;
  result = result_said test space h.0 h.1 o.result own h.2.result;
}

-- an outcome that says only a refusal
pub cell_refused : (test : Test) (x : Refusal) (r : Result Outcome AllocError)
    → IsResult test (Refused x) → IfOk r (λ o. o.kind ≡ test.condition.quantifier)
    → IfOk r (λ o. o.condition
    ≡ condition_text test.condition.quantifier (formula_of test.condition.proposition))
    → IfOk r (λ o. o.result ≡ Refused x) → IfOk r (IsCell test)
cell_refused test x (Ok o) said kind text result = record {
  kind = kind;
  text = text;
  result = subst (λ (t : OutcomeResult). IsResult test t) (sym result) said;
}
cell_refused test x (Err e) said kind text result = tt

by_result : (items : List ResolvedItem) (test : Test) (space : Space) (checks : List (List Bool))
    (flags : List Flag) (r : OutcomeResult) → AreSaid space (reverse items) checks flags
    → IsEvaluatedAs (IsEvaluationFrom space test checks flags) r
    → IsEvaluatedAs (IsEvaluationBy items space test) r
by_result items test space checks flags (Refused _) s h = absurd h
by_result items test space checks flags (Evaluated e) s h = (checks, flags, s, h)

-- from the answers of the model's checks and flags, as they were found and as they are given on
pub outcome_said : (items : List ResolvedItem) (test : Test) (space : Space) (answers : ItemAnswers)
    (observed : List Place) (keep : List Bool) (given : List FlagAnswer)
    (raised : Vec Raised Global) (flags : List Raised) (r : Result Outcome AllocError)
    → observed ≡ test.observed.items → keep ≡ kept_of answers → given ≡ answers.flags.items
    → of_raised raised.items ≡ of_flags given → flags ≡ raised.items
    → AreKeptAndFlagged space (reverse items) (kept_of answers) (flags_of answers)
    → ((checks : List (List Bool)) → AreKeptIn space checks keep
    → IfOk r (λ o. IsOutcomeOn space.locations.items (shown_in space)
    test.condition.quantifier (formula_of test.condition.proposition) observed
    checks (of_raised flags) o))
    → IfOk r (λ o. IsEvaluatedAs (IsEvaluationBy items space test) o.result)
outcome_said items test space answers observed keep given raised flags (Ok o) said_is same from
    gives on (checks, said, keeps) f =
    let names : of_raised flags ≡ flags_of answers = ap of_raised on ∙ gives ∙ ap of_flags from in
    let h = f checks (subst (λ (kept : List Bool). AreKeptIn space checks kept) (sym same) keeps) in
    by_result items test space checks (of_raised flags) o.result (rw names said)
    (rw said_is at h.result)
outcome_said items test space answers observed keep given raised flags (Err e) said_is same from
    gives on judged f = tt

pub said_from : (test : Test) (space : Space) (observed : List Place) (checks : List (List Bool))
    (flags : List Flag) (r : Result Outcome AllocError) → observed ≡ test.observed.items
    → IfOk r (λ o. IsOutcomeOn space.locations.items (shown_in space) test.condition.quantifier
    (formula_of test.condition.proposition) observed checks flags o)
    → IfOk r (IsSaidFromSome space test)
said_from test space observed checks flags (Ok o) said_is h = (checks, flags, rw said_is at h)
said_from test space observed checks flags (Err e) said_is h = tt

-- an evaluation over that space, where the items are ordered
over_space : (items : List ResolvedItem) (test : Test) (space : Space) (P : Evaluation → Type 0)
    (r : OutcomeResult) → ListsExecutions test space → IsEvaluatedAs P r
    → (AreSoundItems items → IsEvaluatedAs (IsEvaluationBy items space test) r)
    → OfModel (λ _. ⊥) (Unit {0}) (λ e. AreSoundItems items → IsEvaluationOver items test e) r
over_space items test space P (Refused _) own h f = absurd h
over_space items test space P (Evaluated e) own h f = (tt, λ ordered. (space, own, f ordered))

pub model_over : (items : List ResolvedItem) (test : Test) (space : Space)
    (r : Result Outcome AllocError) → ListsExecutions test space → IfOk r (IsSaidFromSome space test)
    → (AreSoundItems items → IfOk r (λ o. IsEvaluatedAs (IsEvaluationBy items space test) o.result))
    → IfOk r (λ o. OfModel (λ _. ⊥) (Unit {0}) (λ e. AreSoundItems items → IsEvaluationOver items test e)
    o.result)
model_over items test space (Ok o) own said f =
    over_space items test space _ o.result own said.2.result f
model_over items test space (Err e) own said f = tt

-- a result that is no fault of the model, where the model has none
pub of_model : (P : ModelFault → Type 0) (Q : Type 0) (R S : Evaluation → Type 0)
    (r : OutcomeResult) → Q → ((e : Evaluation) → S e → R e) → OfModel (λ _. ⊥) (Unit {0}) S r
    → OfModel P Q R r
of_model P Q R S (Refused (refusals.Model k)) q more h = absurd h
of_model P Q R S (Refused (refusals.Space x)) q more h = q
of_model P Q R S (Evaluated e) q more h = (q, more e h.1)

-- ---- from scratch

by_parts : (test : Test) (model : ModelText) (r : OutcomeResult) → IsResult test r
    → OfModel (IsFaultOf model) (IsFaultless model) (IsEvaluationOf test model) r
    → IsResultOf test model r
by_parts test model (Refused (refusals.Model k)) own h = h
by_parts test model (Refused (refusals.Space x)) own h = (h, own)
by_parts test model (Evaluated e) own h = h

pub scratch_by_parts : (test : Test) (model : ModelText) (r : Result Outcome AllocError)
    → IfOk r (IsCell test)
    → IfOk r (λ o.
    OfModel (IsFaultOf model) (IsFaultless model) (IsEvaluationOf test model) o.result)
    → IfOk r (IsFromScratch test model)
scratch_by_parts test model (Ok o) cell h = record {
  kind = cell.kind;
  condition = cell.text;
  result = by_parts test model o.result cell.result h;
}
scratch_by_parts test model (Err e) cell h = tt

-- an evaluation over the items of the model
pub evaluation_of : (model : ModelText) (items : List ResolvedItem) (test : Test) (e : Evaluation)
    → IsFaultless model → AreItemsOf model items → (AreSoundItems items → IsEvaluationOver items test e)
    → IsEvaluationOf test model e
evaluation_of model items test e none resolved over =
    let o = over (resolved_ordered PREDEFINED (bare_items model) items resolved.0, resolved_rising outermost_names 0 (bare_items model) items none resolved.0) in
    (items, resolved, o.0, o.1, o.2)

pub scratch_evaluated : (model : ModelText) (items : List ResolvedItem) (test : Test)
    (r : Result Outcome AllocError) → IsFaultless model → AreItemsOf model items
    → IfOk r (IsCell test)
    → IfOk r (λ o. OfModel (λ _. ⊥) (Unit {0}) (λ e. AreSoundItems items → IsEvaluationOver items test e)
    o.result) → IfOk r (IsFromScratch test model)
scratch_evaluated model items test r none resolved cell h =
    scratch_by_parts test model r cell (IfOk-weaker r
    (λ o. OfModel (λ _. ⊥) (Unit {0}) (λ e. AreSoundItems items → IsEvaluationOver items test e)
    o.result)
    (λ o. OfModel (IsFaultOf model) (IsFaultless model) (IsEvaluationOf test model) o.result)
    (λ o s. of_model _ _ _ (λ e. AreSoundItems items → IsEvaluationOver items test e) o.result none
    (λ e. evaluation_of model items test e none resolved) s) h)

-- the outcome that is a fault of the model
pub scratch_fault : (test : Test) (model : ModelText) (k : ModelFault)
    (r : Result Outcome AllocError) → IsFaultOf model k
    → IfOk r (λ o. o.kind ≡ test.condition.quantifier)
    → IfOk r (λ o. o.condition
    ≡ condition_text test.condition.quantifier (formula_of test.condition.proposition))
    → IfOk r (λ o. o.result ≡ Refused (refusals.Model k)) → IfOk r (IsFromScratch test model)
scratch_fault test model k (Ok o) fault kind text result = record {
  kind = kind;
  condition = text;
  result = subst (λ (t : OutcomeResult). IsResultOf test model t) (sym result) fault;
}
scratch_fault test model k (Err e) fault kind text result = tt
