-- From the value of an expression to its meaning.
use Rattle.std.proofs.Common.{ℕ, ◌≡◌, ◌∙◌, List, [], ◌∷◌, get_or, Option, false, subst, sym, ap, arith}
use Rattle.std.proofs.lemmas.Option.{get_or_from_slice_get}
use denote.Ref.{Bor}
use Rattle.bit_rows.specs.Relation.{Relation, Events, Has, IsMember, IsEvents, IsRelation, no_slot}
use Rattle.binding_kinds.specs.declared.kinds.Kind.{Kind}
use Rattle.binding_kinds.specs.declared.kinds.Kind.TheVariants as kinds
use Rattle.binding_graph.specs.declared.resolved.Body.{Body}
use Rattle.binding_graph.specs.declared.resolved.CheckCode.{CheckCode}
use Rattle.binding_graph.specs.declared.resolved.Code.{Code}
use Rattle.binding_graph.specs.declared.resolved.Role.{Role}
use Rattle.binding_graph.specs.declared.resolved.Source.{Source}
use Rattle.binding_graph.specs.declared.resolved.Step.{Step}
use Rattle.binding_graph.specs.Trees.{SetTree}
use Rattle.candidate_spaces.specs.declared.candidate.Space.{Space}
use Rattle.candidate_spaces.specs.Space.{candidates_in, Candidate}
use Rattle.cat_machine.specs.declared.column.Column.{Column}
use Rattle.cat_machine.specs.declared.column.Column.TheVariants as columns
use Rattle.cat_machine.specs.Checks.{Holds, IsEmptySet}
use Rattle.cat_machine.specs.Columns.{AreGroupColumns, ColumnsOf, HasColumnValue}
use Rattle.cat_machine.specs.Executions.{events_of, EventsAt, PairsAt}
use Rattle.cat_machine.specs.Meaning.{MeansSet, MeansRelation}
use Rattle.cat_machine.specs.Named.{WithOwn, OwnPairs}
use Rattle.cat_machine.specs.Values.{IsFor, IsMeaning, column_len}
use Rattle.cat_eval.proofs.Visits.{holds_same, empty_same}
use Rattle.relation_columns.specs.Runs.{rel_at, set_at, no_set}
use Rattle.why_witness.specs.declared.witness.Witness.{Witness}
use Rattle.why_witness.specs.Values.{AreValues, IsValueAt, IsGroupOf}
use Rattle.why_witness.specs.Refusals.{IsWitness}
use Rattle.why_witness.specs.Witnesses.{Breaks, BreaksSet, IsExplanation, IsExplained}
use Rattle.why_witness.proofs.Same.{breaks_same, breaks_set_same, explanation_same}

-- the one column of a group of one name
one_column : (code : Code) (inputs : List (Bor Column)) (space : Space) (body : Body)
    (cs : List Column) (column : Column) → body.code.kind ≡ code.kind
    → body.code.steps.items ≡ code.steps.items
    → AreGroupColumns false (body ∷ []) inputs (candidates_in space.combinations.items) cs
    → column ≡ get_or cs 0 column → AreValues code inputs space column
one_column code inputs space body cs column kind steps h is = record {
  suited = rw (← kind, is) (h.suited 0 (omega arith) body column);
  long = ap column_len is ∙ h.long 0 (omega arith) column;
  values = λ k one at. value k one (h.values k one at 0 (omega arith) column body);
}
  where
    value : (k : ℕ) (one : Candidate)
        → (s : Events) × (r : Relation) × HasColumnValue (get_or cs 0 column) k s r
        × IsMeaning body.code.kind body.code.steps.items (events_of one)
        (EventsAt (events_of one) one inputs k) (PairsAt (events_of one) one inputs k) s r
        → IsValueAt code inputs column k one
    value k one (s, r, has, meant) = (
      s,
      r,
      subst (λ (c : Column). HasColumnValue c k s r) (sym is) has,
      subst
          (λ (a : Kind). IsMeaning a code.steps.items (events_of one)
          (EventsAt (events_of one) one inputs k) (PairsAt (events_of one) one inputs k) s r)
          kind
          (subst
          (λ (xs : List Step). IsMeaning body.code.kind xs (events_of one)
          (EventsAt (events_of one) one inputs k) (PairsAt (events_of one) one inputs k)
          s r) steps meant),
    )

pub values_of_group : (code : Code) (role : Role) (inputs : List (Bor Column)) (space : Space)
    (cs : List Column) (column : Column) → IsGroupOf code role → ColumnsOf role inputs space cs
    → column ≡ get_or cs 0 column → AreValues code inputs space column
values_of_group code role inputs space cs column g h is =
    let of_bodies : AreGroupColumns false g.bodies.items inputs (candidates_in space.combinations.items) cs = subst (λ (r : Role). ColumnsOf r inputs space cs) g.group h in
    one_column code inputs space g.body cs column g.kind g.steps
    (subst
    (λ (bs : List Body).
    AreGroupColumns false bs inputs (candidates_in space.combinations.items) cs) g.alone
    of_bodies) is

module _ (check : CheckCode) (found : Option Witness) (n : ℕ) (sets : Source → ℕ → Type 0)
    (outer : Source → ℕ → ℕ → Type 0) (s : Events) (r : Relation) where
  set_explained : (t : SetTree) → IsEvents s n (MeansSet n sets t)
      → IsExplanation check.negated (IsEmptySet (IsMember s)) (BreaksSet (IsMember s)) found
      → IsExplanation check.negated (IsEmptySet (MeansSet n sets t)) (BreaksSet (MeansSet n sets t))
      found
  set_explained t is h =
      explanation_same check.negated (IsEmptySet (IsMember s)) (IsEmptySet (MeansSet n sets t))
      (BreaksSet (IsMember s)) (BreaksSet (MeansSet n sets t))
      (empty_same (IsMember s) (MeansSet n sets t) is.members)
      (breaks_set_same (IsMember s) (MeansSet n sets t) is.members) found h

  relation_explained : (R : ℕ → ℕ → Type 0) → IsRelation r n R
      → IsExplanation check.negated (Holds check.word (Has r)) (Breaks check.word (Has r)) found
      → IsExplanation check.negated (Holds check.word R) (Breaks check.word R) found
  relation_explained R is h =
      explanation_same check.negated (Holds check.word (Has r)) (Holds check.word R)
      (Breaks check.word (Has r)) (Breaks check.word R)
      (holds_same check.word (Has r) R is.pairs) (breaks_same check.word (Has r) R is.pairs) found h

  of_relation : (values : List Relation) (kind : Kind) → IsFor kind (columns.Relations values)
      → IsMeaning kind check.code.steps.items n sets outer s r
      → IsExplanation check.negated (Holds check.word (Has r)) (Breaks check.word (Has r)) found
      → IsExplained check n sets outer kind found
  of_relation values kinds.OfSet is meant h = absurd is
  of_relation values kinds.OfRelation is meant h =
      λ t code. relation_explained (MeansRelation n sets (WithOwn outer (OwnPairs n [])) t) (meant t code) h
  of_relation values kinds.OfAny is meant h =
      λ t code. relation_explained (MeansRelation n sets (WithOwn outer (OwnPairs n [])) t) (meant t code) h

  of_set : (values : List Events) (kind : Kind) → IsFor kind (columns.Sets values)
      → IsMeaning kind check.code.steps.items n sets outer s r
      → IsExplanation check.negated (IsEmptySet (IsMember s)) (BreaksSet (IsMember s)) found
      → IsExplained check n sets outer kind found
  of_set values kinds.OfSet is meant h = λ t code. set_explained t (meant t code) h
  of_set values kinds.OfRelation is meant h = absurd is
  of_set values kinds.OfAny is meant h = absurd is

pub relation_refused : (check : CheckCode) (values : List Relation) (k : ℕ) (r : Relation)
    (found : Option Witness) → r ≡ rel_at values k
    → IsExplanation check.negated (Holds check.word (Has r)) (Breaks check.word (Has r)) found
    → IsWitness check (columns.Relations values) k found
relation_refused check values k r found is h = λ space inputs one are at.
    let (s, v, has, meant) = are.values k one at in
    let same : r ≡ v = is ∙ get_or_from_slice_get values k v no_slot has in
    of_relation check found (events_of one) (EventsAt (events_of one) one inputs k)
    (PairsAt (events_of one) one inputs k) s v values check.code.kind are.suited meant
    (subst
    (λ (x : Relation). IsExplanation check.negated (Holds check.word (Has x))
    (Breaks check.word (Has x)) found) same h)

pub set_refused : (check : CheckCode) (values : List Events) (k : ℕ) (s : Events)
    (found : Option Witness) → s ≡ set_at values k
    → IsExplanation check.negated (IsEmptySet (IsMember s)) (BreaksSet (IsMember s)) found
    → IsWitness check (columns.Sets values) k found
set_refused check values k s found is h = λ space inputs one are at.
    let (v, r, has, meant) = are.values k one at in
    let same : s ≡ v = is ∙ get_or_from_slice_get values k v no_set has in
    of_set check found (events_of one) (EventsAt (events_of one) one inputs k)
    (PairsAt (events_of one) one inputs k) v r values check.code.kind are.suited meant
    (subst
    (λ (x : Events). IsExplanation check.negated (IsEmptySet (IsMember x))
    (BreaksSet (IsMember x)) found) same h)
