-- A settled verdict of a cell holds what evaluating from nothing gives.
use Rattle.std.proofs.Common.{ℕ, ◌≡◌, true, List, [], ◌∷◌, Option, Some, zip, refl, sym, ap, ◌∙◌, subst}
use Rattle.std.proofs.lemmas.Option.{same_Some}
use Rattle.text_values.specs.declared.test.Test.{Test}
use Rattle.text_values.specs.declared.model.ModelText.{ModelText}
use Rattle.memo_core.specs.declared.keys.Key.{Key}
use Rattle.memo_core.specs.declared.keys.Key.TheVariants.{Output}
use Rattle.memo_core.specs.declared.keys.Node.{Node}
use Rattle.memo_core.specs.declared.keys.Output.{Output as Made}
use Rattle.memo_core.specs.Graph.{Memo, Net, at, stored_output, output_at, named_values, IsSettled}
use Rattle.memo_core.specs.Right as core
use Rattle.memo_core.specs.Step.{Has}
use Rattle.binding_kinds.specs.declared.fault.ModelFault.{ModelFault}
use Rattle.binding_graph.specs.declared.resolved.ResolvedItem.{ResolvedItem}
use Rattle.bench_nodes.specs.declared.table.TestRow.{TestRow}
use Rattle.outcome_states.specs.declared.answer.Outcome.{Outcome}
use Rattle.bench_values.specs.Givens.{VerdictPartsContent, FaultPartsContent, GivenContent, ForVerdict, ForFault}
use Rattle.bench_values.specs.Makes.{Makes, output_names}
use Rattle.bench_values.specs.Values.{NodeContent, OfOutcome, outcome_in}
use Rattle.from_scratch.specs.FromScratch.{IsFaultOf, IsFaultless, AreItemsOf, IsFromScratch}
use Rattle.bench_slots.specs.Tables.{ModelReading, Sound, Faulty}
use Rattle.bench_parts.specs.Contents.{PartsState, histories}
use Rattle.bench_parts.specs.States.{net_in, makes}
use Rattle.cells.specs.Cells as cells
use Rattle.cells.specs.Cells.{SolvedIsFromScratch}
use Rattle.bench_edits.specs.Settled.{IsNode, AreNodesSolved}
use Rattle.bench_edits.proofs.Cells.{cell_scratch, settled_fault_scratch}
use Rattle.bench_edits.specs.Kept.{IsKeptState, IsTestAt, verdict_node, nodes_of}
use Rattle.bench_edits.proofs.Nodes.{verdict_used, fault_is_node, are_nodes}

-- ---- the outcome that a solved verdict holds

-- one outcome, which goes by 0
abbrev HoldsOutcome : GivenContent → List NodeContent → Type 0
HoldsOutcome g vs = (o : Outcome) × (vs ≡ OfOutcome o ∷ []) × (output_names g ≡ 0 ∷ [])

abbrev Pair : Type 0
Pair = ℕ × NodeContent

head_is : (p q : Pair) (ps qs : List Pair) → ◌≡◌ {A = List Pair} (p ∷ ps) (q ∷ qs) → p ≡ q
head_is p q ps qs e = cc

none_some : (p : Pair) (ps : List Pair) → ◌≡◌ {A = List Pair} [] (p ∷ ps) → ⊥
none_some p ps e = cc

first_output : (os : List (Made NodeContent)) (v : NodeContent) → named_values os ≡ (0, v) ∷ []
    → (stamp : ℕ) × (output_at 0 os ≡ Some (stamp, v))
first_output [] v e = absurd (none_some (0, v) [] e)
first_output (o ∷ os) v e =
    let first = head_is (o.name, o.value) (0, v) (named_values os) [] e in
    let name : o.name ≡ 0 = ap (λ (p : Pair). p.0) first in
    let value : o.value ≡ v = ap (λ (p : Pair). p.1) first in (
      o.stamp,
      rw name (ap
          (λ (w : NodeContent). let q : Option (ℕ × NodeContent) = Some (o.stamp, w) in q)
          value),
    )

module _ (net : Net GivenContent) (memos : List (Memo NodeContent)) (n : Node) where
  carried : core.IsSolvedNode makes net memos n
      → ((g : GivenContent) (values outputs : List NodeContent) → net.gives n g ≡ true
      → Makes g values outputs → HoldsOutcome g outputs)
      → (o : Outcome) × (stamp : ℕ) × (at memos (Output n 0) ≡ Some (stamp, OfOutcome o))
  carried s gives =
      let made = s.made.made in
      let outcome = gives s.made.given s.values made.0 s.made.gives made.1 in
      let first = first_output s.memo.outputs (OfOutcome outcome.0) (made.2 ∙ ap (zip (output_names s.made.given)) outcome.1 ∙ ap (λ (ns : List ℕ). zip ns (OfOutcome outcome.0 ∷ [])) outcome.2) in
      (outcome.0, first.0, ap (stored_output 0) s.found ∙ first.1)

  verdict_holds : (parts : VerdictPartsContent) (uses : List Key)
      → IsNode net n (ForVerdict parts) uses
      → (g : GivenContent) (values outputs : List NodeContent) → net.gives n g ≡ true
      → Makes g values outputs → HoldsOutcome g outputs
  verdict_holds parts uses is g values outputs gives made =
      let h = subst (λ (x : GivenContent). Makes x values outputs) (is.given_is g gives) made in (h.0, h.1, ap output_names (is.given_is g gives))

  fault_holds : (parts : FaultPartsContent) (uses : List Key) → IsNode net n (ForFault parts) uses
      → (g : GivenContent) (values outputs : List NodeContent) → net.gives n g ≡ true
      → Makes g values outputs → HoldsOutcome g outputs
  fault_holds parts uses is g values outputs gives made =
      let h = subst (λ (x : GivenContent). Makes x values outputs) (is.given_is g gives) made in (_, h, ap output_names (is.given_is g gives))

module _ (s : PartsState) (models : List ModelReading) (kept : IsKeptState s models) (index : ℕ)
    (row : TestRow) (test : Test) (test_at : IsTestAt s index row test) where
  solved_in : (memos : List (Memo NodeContent)) → cells.AreSolved makes (net_in s) memos
      → AreNodesSolved (net_in s) memos
  solved_in memos all = record { solved = all.solved; closed = all.closed }

  module _ (id : ℕ) (numbers : List ℕ) (items : List ResolvedItem) (us : List ℕ)
      (there : Has models (Sound id numbers items us)) (model : ModelText)
      (none : IsFaultless model) (of_model : AreItemsOf model items) where
    at_verdict : (memos : List (Memo NodeContent)) → cells.AreSolved makes (net_in s) memos
        → IsSettled (net_in s) memos (verdict_node row.id id)
        → (o : Outcome) × cells.Carries outcome_in memos (verdict_node row.id id) o
        × IsFromScratch test model o
    at_verdict memos all settled =
        let nodes = are_nodes s models kept index row test test_at id numbers items us there in
        let is_used = verdict_used s models kept index row test test_at (Sound id numbers items us) there in
        let solved = all.solved (verdict_node row.id id) is_used settled in
        let c = carried (net_in s) memos (verdict_node row.id id) solved (verdict_holds (net_in s) memos (verdict_node row.id id) _ _ nodes.verdict) in (
          c.0,
          record { stamp = c.1; value = OfOutcome c.0; first = c.2; holds = refl },
          cell_scratch (net_in s) memos (solved_in memos all) test model c.0 (record {
            items = items;
            no_fault = none;
            of_model = of_model;
            nodes = nodes_of (histories s) row.id id numbers items;
            are_nodes = nodes;
            carries = record { used = is_used; settled = settled; stamp = c.1; first = c.2 };
          }),
        )

    pub sound_scratch : SolvedIsFromScratch makes (net_in s) outcome_in
        (Some (verdict_node row.id id)) (λ o. IsFromScratch test model o)
    sound_scratch memos n all e settled =
        let same : verdict_node row.id id ≡ n = same_Some _ _ e in
        subst
        (λ (m : Node). (o : Outcome) × cells.Carries outcome_in memos m o
        × IsFromScratch test model o) same
        (at_verdict memos all (subst (IsSettled (net_in s) memos) (sym same) settled))

  module _ (id : ℕ) (fault : ModelFault) (there : Has models (Faulty id fault)) (model : ModelText)
      (of_model : IsFaultOf model fault) where
    at_fault : (memos : List (Memo NodeContent)) → cells.AreSolved makes (net_in s) memos
        → IsSettled (net_in s) memos (verdict_node row.id id)
        → (o : Outcome) × cells.Carries outcome_in memos (verdict_node row.id id) o
        × IsFromScratch test model o
    at_fault memos all settled =
        let node = fault_is_node s models kept index row test test_at id fault there in
        let is_used = verdict_used s models kept index row test test_at (Faulty id fault) there in
        let solved = all.solved (verdict_node row.id id) is_used settled in
        let c = carried (net_in s) memos (verdict_node row.id id) solved (fault_holds (net_in s) memos (verdict_node row.id id) _ _ node) in (
          c.0,
          record { stamp = c.1; value = OfOutcome c.0; first = c.2; holds = refl },
          settled_fault_scratch (net_in s) memos (solved_in memos all) test model c.0 (record {
            fault = fault;
            of_model = of_model;
            verdict = verdict_node row.id id;
            is_verdict = node;
            carries = record { used = is_used; settled = settled; stamp = c.1; first = c.2 };
          }),
        )

    pub faulty_scratch : SolvedIsFromScratch makes (net_in s) outcome_in
        (Some (verdict_node row.id id)) (λ o. IsFromScratch test model o)
    faulty_scratch memos n all e settled =
        let same : verdict_node row.id id ≡ n = same_Some _ _ e in
        subst
        (λ (m : Node). (o : Outcome) × cells.Carries outcome_in memos m o
        × IsFromScratch test model o) same
        (at_fault memos all (subst (IsSettled (net_in s) memos) (sym same) settled))
