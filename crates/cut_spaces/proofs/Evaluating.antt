-- From the space that is evaluated to what the test says under the model.
use Rattle.std.proofs.Common.{ℕ, ◌≡◌, ◌<◌, ◌++◌, inl, inr, zero, suc, List, [], ◌∷◌, length, reverse, get_or, Result, Ok, Err, IfOk, sym, ap, ◌∙◌, subst, arith, append_assoc}
use Rattle.std.specs.List.{AllByRecursion}
use Rattle.std.specs.declared.alloc.AllocError.{AllocError}
use Rattle.std.proofs.lemmas.List.{reverse-append}
use Rattle.text_values.specs.declared.model.ModelText.{ModelText}
use Rattle.predefined_names.specs.declared.predefined.TheConstants.{PREDEFINED}
use Rattle.text_values.specs.declared.test.Test.{Test}
use Rattle.text_values.specs.TestValue.{formula_of}
use Rattle.litmus_printing.specs.Printing.{condition_text}
use Rattle.ppc_lowering.specs.declared.fault.EvalRefusal.{EvalRefusal}
use Rattle.candidates.specs.Listed.{IsSpaceRefusal}
use Rattle.outcome_states.specs.declared.answer.Refusal.TheVariants as refusals
use Rattle.binding_kinds.specs.Outermost.{outermost_names}
use Rattle.binding_graph.specs.declared.resolved.ResolvedItem.{ResolvedItem}
use Rattle.candidate_spaces.specs.declared.candidate.Space.{Space}
use Rattle.candidates.specs.declared.space_parts.SpaceParts.{SpaceParts}
use Rattle.candidates.specs.Parts.{AreSpaceParts}
use Rattle.verdict.specs.Evaluated.{IsEvaluatedAs}
use Rattle.outcome_states.specs.declared.answer.Evaluation.{Evaluation}
use Rattle.outcome_states.specs.declared.answer.Outcome.{Outcome}
use Rattle.outcome_states.specs.declared.answer.OutcomeResult.{OutcomeResult}
use Rattle.outcome_states.specs.declared.answer.OutcomeResult.TheVariants.{Refused, Evaluated}
use Rattle.from_scratch.specs.Answers.{AreSoundItems}
use Rattle.from_scratch.specs.Cell.{IsSaidFromSome, IsEvaluationBy, IsEvaluationOver}
use Rattle.from_scratch.specs.FromScratch.{bare_items, IsFaultless, AreItemsOf, IsResultOf, IsFromScratch}
use Rattle.from_scratch.proofs.Ordered.{resolved_ordered}
use Rattle.from_scratch.proofs.Rising.{resolved_rising}
use Rattle.order_growth.specs.Coded.{IsOfExpressions, AreOfExpressions}
use Rattle.order_growth.proofs.Coding.{coded_items}
use Rattle.whole_outcomes.proofs.Outcomes.{evaluation_kept}
use Rattle.cut_spaces.specs.Spaces.{IsEvaluable}
use Rattle.cut_spaces.proofs.Spaces.{is_cut, whole_of}

-- ---- an element of a list

split : {X : Type 0} (xs : List X) (k : ℕ) (x : X) → k < length xs → get_or xs k x ≡ x
    → (before : List X) × (behind : List X) × (xs ≡ before ++ x ∷ behind)
split [] k x lt is = absurd (omega (arith, lt))
split {X} (y ∷ ys) zero x lt is = ([], ys, ap (λ (z : X). z ∷ ys) is)
split {X} (y ∷ ys) (suc k) x lt is =
    let (before, behind, e) = split ys k x (omega (arith, lt)) is in
    (y ∷ before, behind, ap (λ (l : List X). y ∷ l) e)

turned : {X : Type 0} (before behind : List X) (x : X)
    → reverse (before ++ x ∷ behind) ≡ reverse behind ++ x ∷ reverse before
turned {X} before behind x =
    reverse-append before (x ∷ behind)
    ∙ ap (λ (l : List X). l ++ reverse before) (reverse-append (x ∷ []) behind)
    ∙ append_assoc (reverse behind) (x ∷ []) (reverse before)

all_at : {X : Type 0} (P : X → Type 0) (xs : List X) → AllByRecursion P xs → (k : ℕ) (x : X)
    → k < length xs → get_or xs k x ≡ x → P x
all_at P [] h k x lt is = absurd (omega (arith, lt))
all_at P (y ∷ ys) h zero x lt is = subst P is h.0
all_at P (y ∷ ys) h (suc k) x lt is = all_at P ys h.1 k x (omega (arith, lt)) is

-- ---- evaluations

over_all : (items : List ResolvedItem) (p : SpaceParts) (s : Space) (test : Test) (e : Evaluation)
    → AreOfExpressions items → AreSpaceParts test p → IsEvaluable items p s
    → IsEvaluationBy items s test e → IsEvaluationOver items test e
over_all items p s test e es parts (inl whole) says = (s, parts s whole, says)
over_all items p s test e es parts (inr (r, there, tried, cut)) says =
    let (all, whole) = whole_of p in
    let (before, behind, is) = split items there.0 r there.1 there.2 in
    let tree = all_at (λ x. IsOfExpressions x.role) items es there.0 r there.1 there.2 in (
      all,
      parts all whole,
      evaluation_kept items (reverse behind) (reverse before) r tried.check all s test e
          (ap (λ (xs : List ResolvedItem). reverse xs) is ∙ turned before behind r)
          es tried.role tried.refuses.flag (is_cut r p all s whole cut (reverse before) tried tree)
          says,
    )

pub sound_items : (text : ModelText) (items : List ResolvedItem) → IsFaultless text
    → AreItemsOf text items → AreSoundItems items
sound_items text items none are = (
  resolved_ordered PREDEFINED (bare_items text) items are.0,
  resolved_rising outermost_names 0 (bare_items text) items none are.0,
)

result_of : (text : ModelText) (items : List ResolvedItem) (p : SpaceParts) (s : Space)
    (test : Test) (o : OutcomeResult) → IsFaultless text → AreItemsOf text items
    → AreSpaceParts test p → IsEvaluable items p s
    → IsEvaluatedAs (IsEvaluationBy items s test) o → IsResultOf test text o
result_of text items p s test (Refused x) none are parts is h = absurd h
result_of text items p s test (Evaluated e) none are parts is h =
    let over = over_all items p s test e (coded_items text items none are) parts is h in
    (none, (items, are, over.0, over.1, over.2))

pub outcome_of : (text : ModelText) (items : List ResolvedItem) (p : SpaceParts) (s : Space)
    (test : Test) (r : Result Outcome AllocError) → IsFaultless text → AreItemsOf text items
    → AreSpaceParts test p → IsEvaluable items p s → IfOk r (IsSaidFromSome s test)
    → (AreSoundItems items → IfOk r (λ o. IsEvaluatedAs (IsEvaluationBy items s test) o.result))
    → IfOk r (IsFromScratch test text)
outcome_of text items p s test (Ok o) none are parts is said says = record {
  kind = said.2.kind_is;
  condition = said.2.text;
  result = result_of text items p s test o.result none are parts is (says (sound_items text items none are));
}
outcome_of text items p s test (Err e) none are parts is said says = tt

-- the outcome that says why the test has no candidates
pub refusal_of : (text : ModelText) (test : Test) (x : EvalRefusal) (r : Result Outcome AllocError)
    → IsFaultless text → IsSpaceRefusal test x → IfOk r (λ o. o.kind ≡ test.condition.quantifier)
    → IfOk r (λ o. o.condition
    ≡ condition_text test.condition.quantifier (formula_of test.condition.proposition))
    → IfOk r (λ o. o.result ≡ Refused (refusals.Space x)) → IfOk r (IsFromScratch test text)
refusal_of text test x (Ok o) none why kind condition result = record {
  kind = kind;
  condition = condition;
  result = subst (λ (t : OutcomeResult). IsResultOf test text t) (sym result) (none, why);
}
refusal_of text test x (Err e) none why kind condition result = tt
