-- The candidates of a test that are kept are the executions that the definitions keep.
use Rattle.std.proofs.Common.{Vec, ℕ, ◌≡◌, ◌<◌, ◌↔◌, List, map, Bool, IsTrue, Some, slice_get, refl, sym, subst, ◌∙◌}
use Rattle.std.specs.List.{AllZip}
use Rattle.std.specs.declared.alloc.Global.{Global}
use Rattle.text_values.specs.declared.test.Test.{Test}
use Rattle.text_values.specs.declared.model.Item.{Item}
use Rattle.text_values.specs.ModelValue.{Clause}
use Rattle.text_values.specs.ModelValues.{clauses_of}
use Rattle.text_values.specs.TestValue.{Content, content_of}
use Rattle.thread_runs.specs.declared.value.Value.{Value}
use Rattle.thread_runs.specs.declared.instruction.Program.{Program}
use Rattle.binding_kinds.specs.Outermost.{outermost_names}
use Rattle.binding_kinds.specs.Value.{bare_item}
use Rattle.binding_graph.specs.declared.resolved.ResolvedItem.{ResolvedItem}
use Rattle.run_combinations.proofs.Numbers.{Behind, behind_at}
use Rattle.candidate_spaces.specs.declared.candidate.Space.{Space}
use Rattle.candidates.specs.Executions as numbered
use Rattle.candidates.specs.Listed.{ListsExecutions, ShowsExecution}
use Rattle.candidate_spaces.specs.Space.{Candidate, Shown, candidates_in, shown_of, shown_in}
use Rattle.outcome_states.specs.Kept.{Flag, is_kept}
use Rattle.meaning.specs.Executions.{Execution, IsEvent, IsExecution}
use Rattle.meaning.specs.Cat.{AreMet}
use Rattle.meaning.specs.Evaluates.{outermost, IsKept}
use Rattle.meaning_executions.proofs.Lists.{as_long, at_left, at_right, member}
use Rattle.meaning_executions.specs.Executions.{IsSameExecution, IsProgramExecution}
use Rattle.meaning_executions.specs.Counts.{AreListed}
use Rattle.meaning_executions.proofs.Listing.{is_one, listed}
use Rattle.meaning_items.proofs.Answers.{answers_meant}
use Rattle.meaning_items.proofs.Kept.{kept_are_met}
use Rattle.meaning_executions.specs.Names.{AreNamesMeant}
use Rattle.meaning_executions.proofs.Meant.{names_meant}
use Rattle.meaning_states.specs.Listed.{AreKeptByName, KeptByName}
use Rattle.meaning_states.proofs.Carrying.{met_alike, meant_alike}

module _ (t : Test) (s : Space) (lists : ListsExecutions t s) where
  abbrev content : Content
  content = content_of t

  abbrev p : Program
  p = lists.executions.program

  abbrev ends : List (Vec (List Value) Global)
  ends = s.registers.items

  pub all_named : AreListed content lists.all
  all_named = listed t lists.initial lists.all lists.executions

  -- a candidate and the execution that it shows
  pub record IsPair (k : ℕ) (y : Execution) : Type 0 where
    pub execution : numbered.Execution
    pub one : Candidate
    pub at : slice_get (candidates_in s.combinations.items) k ≡ Some one
    pub is_one : IsProgramExecution p lists.executions.values execution
    pub is : IsExecution content y
    pub same : IsSameExecution content execution y
    pub shows : ShowsExecution p.initial.items execution (shown_of ends one)

  pub pair_at : (k : ℕ) (y : Execution) → slice_get all_named.named k ≡ Some y → IsPair k y
  pair_at k y there =
      let x : _ = at_right (IsSameExecution content) lists.all all_named.named all_named.same k y there in
      let e : _ = at_left (ShowsExecution lists.initial) lists.all (shown_in s) lists.shown k x.0 x.1 in
      let one : Behind (shown_of ends) (candidates_in s.combinations.items) k e.0 =
      behind_at (shown_of ends) (candidates_in s.combinations.items) (shown_in s) k e.0 refl e.1 in
      record {
        execution = x.0;
        one = one.item;
        at = one.there;
        is_one =
            is_one t lists.initial lists.all lists.executions x.0 (member lists.all k x.0 x.1);
        is = (all_named.all.exact y).0 (member all_named.named k y there);
        same = x.2;
        shows =
            subst (λ (vs : List Value). ShowsExecution vs x.0 (shown_of ends one.item))
            lists.executions.starts
            (subst (λ (d : Shown). ShowsExecution lists.initial x.0 d) one.is e.2);
      }

  pub names_of_pair : (k : ℕ) (y : Execution) (pair : IsPair k y)
      → AreNamesMeant content y pair.one
  names_of_pair k y pair =
      names_meant t p lists.executions.of_test lists.executions.values pair.execution pair.is_one y
      pair.is pair.same ends pair.one pair.shows

pub all_kept : KeptByName
all_kept t s lists items resolved faultless made labelled checks flags said = record {
  named = (all_named t s lists).named;
  as_many =
      sym (as_long (IsSameExecution (content_of t)) lists.all (all_named t s lists).named
      (all_named t s lists).same)
      ∙ as_long (ShowsExecution lists.initial) lists.all (shown_in s) lists.shown;
  all = (all_named t s lists).all;
  meant = λ k y there.
      let pair : IsPair t s lists k y = pair_at t s lists k y there in
      meant_alike (content_of t) y pair.one (names_of_pair t s lists k y pair) k (clauses_of items)
      checks flags
      (answers_meant s items resolved faultless made labelled checks flags said k pair.one pair.at);
  kept = λ k y there.
      let pair : IsPair t s lists k y = pair_at t s lists k y there in
      let met : _ =
      kept_are_met s items resolved faultless made labelled checks flags said k pair.one pair.at in
      let alike : _ =
      (met_alike (content_of t) y pair.one (names_of_pair t s lists k y pair) (clauses_of items)).checks in
      (λ h. (pair.is, alike.0 (met.0 h)), λ h. met.1 (alike.1 h.1));
}
