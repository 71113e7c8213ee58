-- A check refuses each candidate whose order has a row that it refuses alone.
use Rattle.std.proofs.Common.{ℕ, ◌≡◌, ◌++◌, List, [], ◌∷◌, Bor, Some, refl, sym, ◌∙◌, subst}
use Rattle.std.specs.Prelude.{slice_get}
use Rattle.taints.specs.DependencyLists.{dependency_lists}
use Rattle.binding_kinds.specs.declared.kinds.Kind.{Kind}
use Rattle.binding_kinds.specs.declared.kinds.Kind.TheVariants as kinds
use Rattle.binding_kinds.specs.declared.scope.Input.{Input}
use Rattle.binding_graph.specs.declared.resolved.ResolvedItem.{ResolvedItem}
use Rattle.binding_graph.specs.declared.resolved.Role.{Role}
use Rattle.binding_graph.specs.declared.resolved.Role.TheVariants.{Check}
use Rattle.binding_graph.specs.declared.resolved.Step.{Step}
use Rattle.binding_graph.specs.Trees.{RelTree, rel_code}
use Rattle.store_orders.specs.declared.combination.Combination.{Combination}
use Rattle.candidate_spaces.specs.declared.candidate.Space.{Space}
use Rattle.candidate_spaces.specs.Space.{Candidate, candidates_in}
use Rattle.cat_machine.specs.declared.column.Column.{Column}
use Rattle.cat_machine.specs.Executions.{events_of}
use Rattle.cat_machine.specs.Values.{AnswersOf}
use Rattle.from_scratch.specs.Answers.{AreNamed, AreItemColumns}
use Rattle.order_growth.specs.Within.{IsWithin, AreInputsGrown, HasExpression}
use Rattle.order_growth.proofs.Refused as checks
use Rattle.order_growth.proofs.Rows.{row_within}
use Rattle.order_growth.specs.Coded.{IsOfExpressions}
use Rattle.whole_outcomes.specs.Cut.{IsRefusedAt}
use Rattle.cut_spaces.specs.Rows.{IsTried, IsRefusedByRow}

-- the combination has the events and dependencies of the candidate, whose order it so refuses
pub record IsRefusedCandidate (r : ResolvedItem) (x : Candidate) : Type 0 where
  pub combination : Combination
  pub events : combination.events.items ≡ x.0.events.items
  pub dependencies : dependency_lists combination.dependencies ≡ dependency_lists x.0.dependencies
  pub row : IsRefusedByRow r combination x.1.1

relation_of : (kind : Kind) (steps : List Step) → (kind ≡ kinds.OfSet → ⊥)
    → HasExpression kind steps → (e : RelTree) × (steps ≡ rel_code e [])
relation_of kinds.OfSet steps none h = absurd (none refl)
relation_of kinds.OfRelation steps none h = h
relation_of kinds.OfAny steps none h = h

no_inputs : (V : ℕ → List Column → Type 0) (names : List Input) (inputs : List (Bor Column))
    → names ≡ [] → AreNamed V names inputs → inputs ≡ []
no_inputs V names inputs none named = of_none inputs (subst (λ (ns : List Input). AreNamed V ns inputs) none named)
  where
    of_none : (inputs : List (Bor Column)) → AreNamed V [] inputs → inputs ≡ []
    of_none [] h = refl
    of_none (c ∷ cs) h = absurd h

nothing_grown : (n k l : ℕ) → AreInputsGrown [] n [] k [] l
nothing_grown n k l = record {
  events = λ index a. ((λ x. x), (λ x. x));
  pairs = λ index. tt;
}

pub candidate_refused : (r : ResolvedItem) (tried : IsTried r) (rs : List ResolvedItem)
    (all : Space) → IsOfExpressions r.role → (i : ℕ) (x : Candidate) → IsRefusedCandidate r x
    → slice_get (candidates_in all.combinations.items) i ≡ Some x → IsRefusedAt rs r all i
candidate_refused r tried rs all tree i x gone there answers (inputs, named, are) =
    let row = gone.row in
    let alone = row.refused in
    let check = tried.check in
    let e = relation_of check.code.kind check.code.steps.items tried.refuses.relation
    (subst (λ (role : Role). IsOfExpressions role) tried.role tree) in
    let probed = subst (λ (role : Role). AnswersOf role [] alone.probes alone.answers) tried.role alone.are in
    let none = no_inputs (λ j cs. AreItemColumns all rs j cs) r.inputs.items inputs tried.inputs named in
    let answered = subst (λ (ins : List (Bor Column)). AnswersOf (Check check) ins all answers) none
    (subst (λ (role : Role). AnswersOf role inputs all answers) tried.role are) in
    let inside : IsWithin (alone.probe, ([], row.row)) (x.0, (x.1.0, row.before ++ row.row ++ row.behind)) =
    row_within alone.probe x.0 x.1.0 row.before row.row row.behind (alone.events ∙ gone.events)
    (alone.dependencies ∙ gone.dependencies) in
    let within : IsWithin (alone.probe, ([], row.row)) x =
    subst (λ (order : List ℕ). IsWithin (alone.probe, ([], row.row)) (x.0, (x.1.0, order))) (sym row.is) inside in
    checks.refusals_kept check [] [] [] (candidates_in alone.probes.combinations.items)
    (candidates_in all.combinations.items) alone.answers answers alone.index i
    (alone.probe, ([], row.row)) x e.0 tried.refuses.plain tried.refuses.relation e.1
    (tried.refuses.known e.0 e.1) probed answered alone.there there within
    (nothing_grown (events_of (alone.probe, ([], row.row))) alone.index i) alone.refused
