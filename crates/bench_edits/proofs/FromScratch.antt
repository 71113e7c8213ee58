-- What solved nodes give is what evaluating from nothing gives.
use Rattle.std.proofs.Common.{ℕ, ◌≡◌, List, [], ◌∷◌, reverse, Bool, Some, slice_get, refl, sym, ap, ◌∙◌, subst}
use Rattle.text_values.specs.declared.test.Test.{Test}
use Rattle.text_values.specs.TestValue.{formula_of}
use Rattle.text_values.specs.declared.model.ModelText.{ModelText}
use Rattle.predefined_names.specs.declared.predefined.TheConstants.{PREDEFINED}
use Rattle.candidate_spaces.specs.declared.candidate.Space.{Space}
use Rattle.ppc_lowering.specs.declared.fault.EvalRefusal.{EvalRefusal}
use Rattle.candidates.specs.Listed.{ListsExecutions, IsSpaceRefusal}
use Rattle.binding_graph.specs.declared.resolved.ResolvedItem.{ResolvedItem}
use Rattle.outcome_states.specs.declared.answer.Outcome.{Outcome}
use Rattle.outcome_states.specs.declared.answer.OutcomeResult.{OutcomeResult}
use Rattle.outcome_states.specs.declared.answer.OutcomeResult.TheVariants.{Refused, Evaluated}
use Rattle.outcome_states.specs.declared.answer.Refusal.TheVariants as refusals
use Rattle.verdict.specs.Evaluated.{IsEvaluatedAs}
use Rattle.outcome_states.specs.Kept.{Flag}
use Rattle.bench_values.specs.Givens.{asked, ForVerdict}
use Rattle.bench_values.specs.Makes.{IsSpaceValue, checks_among, flags_among, Makes, refused}
use Rattle.bench_values.specs.Spaces.{SpaceContent, space_content}
use Rattle.bench_values.specs.Values.{NodeContent, OfSpace, OfRefusal, OfColumn, OfCheck, OfOutcome, answers_of}
use Rattle.bench_values.proofs.PartTests.{of_each}
use Rattle.from_scratch.specs.Answers.{AreSaid}
use Rattle.from_scratch.specs.Cell.{IsEvaluationFrom}
use Rattle.from_scratch.specs.FromScratch.{bare_items, IsFaultless, AreItemsOf, IsResultOf, IsFromScratch}
use Rattle.binding_kinds.specs.Outermost.{outermost_names}
use Rattle.from_scratch.proofs.Knowing.{risen_at}
use Rattle.from_scratch.proofs.Ordered.{resolved_ordered}
use Rattle.from_scratch.proofs.Rising.{resolved_rising}
use Rattle.shape_laws.proofs.Models.{read_by_kind}
use Rattle.bench_edits.specs.Solved.{SolvedCell, IsCellSolved, IsSolvedFault, answers_in, flag_names}
use Rattle.bench_edits.proofs.Latest.{late_answers, late_names, each_reversed, answers_reversed, names_reversed}
use Rattle.bench_edits.proofs.Said.{Say, say_at, all_said}
use Rattle.bench_edits.proofs.Valued.{Fits}

first_is : (v w : NodeContent) → ◌≡◌ {A = List NodeContent} (v ∷ []) (w ∷ []) → v ≡ w
first_is v w e = cc

outcome_is : (o p : Outcome) → ◌≡◌ {A = List NodeContent} (OfOutcome o ∷ []) (OfOutcome p ∷ [])
    → o ≡ p
outcome_is o p e = let same = first_is (OfOutcome o) (OfOutcome p) e in cc

pub fault_scratch : (test : Test) (model : ModelText) (o : Outcome) → IsSolvedFault test model o
    → IsFromScratch test model o
fault_scratch test model o solved =
    let same : o ≡ refused test.condition.quantifier (formula_of test.condition.proposition) (refusals.Model solved.fault) = outcome_is o (refused test.condition.quantifier (formula_of test.condition.proposition) (refusals.Model solved.fault)) solved.verdict in
    subst (λ (p : Outcome). IsFromScratch test model p) (sym same) (record {
      kind = refl;
      condition = refl;
      result = solved.of_model;
    })

evaluated_result : (test : Test) (model : ModelText) (items : List ResolvedItem) (space : Space)
    (checks : List (List Bool)) (flags : List Flag) (r : OutcomeResult) → IsFaultless model
    → AreItemsOf model items → ListsExecutions test space
    → AreSaid space (reverse items) checks flags
    → IsEvaluatedAs (IsEvaluationFrom space test checks flags) r → IsResultOf test model r
evaluated_result test model items space checks flags (Refused x) none are lists said h = absurd h
evaluated_result test model items space checks flags (Evaluated e) none are lists said h =
    (none, (items, are, space, lists, (checks, flags, said, h)))

module _ (test : Test) (model : ModelText) (cell : SolvedCell) (solved : IsCellSolved test model cell) where
  item_fits : (k : ℕ) (r : ResolvedItem) → slice_get cell.items k ≡ Some r
      → Fits cell.items cell.table cell.is_needed k r
  item_fits k r e = record {
    rises =
        risen_at cell.items k r e (resolved_rising outermost_names 0 (bare_items model) cell.items
        solved.no_fault solved.of_model.0);
    asked = λ check. solved.checks k (r, e, check);
    closed = λ needs node. solved.names k r needs e node;
    solved = λ needs node. solved.items k r needs e node;
    there = e;
    read = read_by_kind model cell.items solved.no_fault solved.of_model k r e;
  }

  items_said : (space : Space) → cell.table.space ≡ OfSpace (space_content space)
      → Say (λ cs fs. AreSaid space (reverse cell.items) cs fs) (flag_names cell.items)
      (answers_in cell.table 0 cell.items)
  items_said space is_space =
      say_at (λ cs fs. AreSaid space (reverse cell.items) cs fs) (late_names (reverse cell.items))
      (flag_names cell.items) (late_answers cell.table (reverse cell.items))
      (answers_in cell.table 0 cell.items) (sym (names_reversed cell.items))
      (sym (answers_reversed cell.table cell.items))
      (all_said cell.items space cell.table cell.is_needed is_space (reverse cell.items)
      (each_reversed (Fits cell.items cell.table cell.is_needed) cell.items item_fits)
      (resolved_ordered PREDEFINED (bare_items model) cell.items solved.of_model.0))

  by_space : (space : Space) → ListsExecutions test space
      → cell.table.space ≡ OfSpace (space_content space) → IsFromScratch test model cell.outcome
  by_space space lists is_space =
      let said = items_said space is_space in
      let made : Makes (ForVerdict (asked test.condition test.observed.items (flag_names cell.items))) (OfSpace (space_content space) ∷ answers_in cell.table 0 cell.items) (OfOutcome cell.outcome ∷ []) =
      subst
      (λ (v : NodeContent). Makes
      (ForVerdict (asked test.condition test.observed.items (flag_names cell.items)))
      (v ∷ answers_in cell.table 0 cell.items) (OfOutcome cell.outcome ∷ [])) is_space
      solved.verdict in
      let h = made.2 in
      subst (λ (p : Outcome). IsFromScratch test model p)
      (sym (outcome_is cell.outcome made.0 made.1)) (record {
        kind = h.kind_is;
        condition = h.text;
        result =
            evaluated_result test model cell.items space
            (checks_among (flag_names cell.items) (answers_of (answers_in cell.table 0 cell.items)))
            (flags_among (flag_names cell.items) (answers_of (answers_in cell.table 0 cell.items)))
            made.0.result solved.no_fault solved.of_model lists said.said h.result;
      })

  by_refusal : (r : EvalRefusal) → IsSpaceRefusal test r → cell.table.space ≡ OfRefusal r
      → IsFromScratch test model cell.outcome
  by_refusal r refusal is_refusal =
      let made : Makes (ForVerdict (asked test.condition test.observed.items (flag_names cell.items))) (OfRefusal r ∷ answers_in cell.table 0 cell.items) (OfOutcome cell.outcome ∷ []) =
      subst
      (λ (v : NodeContent). Makes
      (ForVerdict (asked test.condition test.observed.items (flag_names cell.items)))
      (v ∷ answers_in cell.table 0 cell.items) (OfOutcome cell.outcome ∷ [])) is_refusal
      solved.verdict in
      subst (λ (p : Outcome). IsFromScratch test model p)
      (sym (outcome_is cell.outcome made.0 made.1 ∙ made.2)) (record {
        kind = refl;
        condition = refl;
        result = (solved.no_fault, refusal);
      })

  by_value : (v : NodeContent) → cell.table.space ≡ v → IsSpaceValue solved.parts v
      → IsFromScratch test model cell.outcome
  by_value (OfSpace s) is h =
      let own = (of_each solved.parts test solved.of_test).0 s h in
      by_space own.space own.lists (is ∙ ap (λ (c : SpaceContent). OfSpace c) own.content)
  by_value (OfRefusal r) is h = by_refusal r ((of_each solved.parts test solved.of_test).1 r h) is
  by_value (OfColumn c) is h = absurd h
  by_value (OfCheck a) is h = absurd h
  by_value (OfOutcome p) is h = absurd h

pub solved_scratch : (test : Test) (model : ModelText) (cell : SolvedCell) → IsCellSolved test model cell
    → IsFromScratch test model cell.outcome
solved_scratch test model cell solved =
    by_value test model cell solved solved.space.0
    (first_is cell.table.space solved.space.0 solved.space.1) solved.space.2
