-- What was made over what is seen of each candidate is what the definitions say of it.
use Rattle.std.proofs.Common.{ℕ, ◌≡◌, ◌↔◌, ◌∙◌, List, [], get_or, Contains, Bool, true, false, subst}
use denote.Ref.{Bor}
use Rattle.bit_rows.specs.Relation.{Relation, Events}
use Rattle.binding_kinds.specs.declared.kinds.Kind.{Kind}
use Rattle.binding_kinds.specs.declared.kinds.Kind.TheVariants as kinds
use Rattle.binding_graph.specs.declared.resolved.Body.{Body}
use Rattle.binding_graph.specs.declared.resolved.CheckCode.{CheckCode}
use Rattle.binding_graph.specs.declared.resolved.Source.{Source}
use Rattle.binding_graph.specs.declared.resolved.Source.TheVariants as sources
use Rattle.binding_graph.specs.declared.resolved.Step.{Step}
use Rattle.binding_graph.specs.Trees.{SetTree, RelTree, set_code, rel_code}
use Rattle.predefined_names.specs.declared.predefined.Predefined.{Predefined}
use Rattle.cat_machine.specs.declared.seen.NamedColumn.{NamedColumn}
use Rattle.cat_machine.specs.Seen.{NamedValues, values_seen, seen_in}
use Rattle.cat_eval.specs.Tables.{AreColumnsFor, column_names}
use Rattle.cat_machine.proofs.Seeing.{in_long, first_at}
use Rattle.cat_eval.proofs.Looking.{IsSeen, seen_right}
use Rattle.cat_machine.specs.declared.column.Column.{Column}
use Rattle.candidate_spaces.specs.Space.{Candidate}
use Rattle.cat_machine.specs.Columns.{HaveValues, AreGroupColumns}
use Rattle.cat_machine.specs.Executions.{events_of, EventsAt, PairsAt}
use Rattle.cat_eval.specs.OverNames.{IsAnswerOver, AreAnswersOver, IsMeaningOver, HaveValuesOver, AreColumnsOver}
use Rattle.cat_machine.specs.Least.{body}
use Rattle.cat_machine.specs.Meaning.{MeansSet, MeansRelation}
use Rattle.cat_machine.specs.Named.{EventsIn, PairsOutside, WithOwn, OwnPairs}
use Rattle.cat_eval.specs.Needed.{ListsNeeded, predefined_names_in, bodies_names}
use Rattle.cat_machine.specs.Values.{IsCheckAnswer, AreAnswers, IsMeaning, Unless}
use Rattle.cat_eval.proofs.Agreeing.{Agree, OfSteps, of_steps, set_parts, relation_parts, set_agrees, relation_agrees, least_agrees, body_named, code_at}
use Rattle.cat_machine.proofs.Same.{Same, SameSet, changed, changed_set}
use Rattle.cat_eval.proofs.Visits.{holds_same, empty_same}

pub unless_same : (negated : Bool) (A P Q : Type 0) → P ↔ Q → A ↔ Unless negated P
    → A ↔ Unless negated Q
unless_same false A P Q s h = ((λ a. s.0 (h.0 a)), (λ q. h.1 (s.1 q)))
unless_same true A P Q s h = ((λ a q. h.0 a (s.1 q)), (λ f. h.1 (λ p. f (s.0 p))))

module _ (names : List Predefined) (base : NamedValues) (one : Candidate) (world : IsSeen names base one)
    (inputs : List (Bor Column)) (k : ℕ) where
  abbrev Agreed : (ℕ → ℕ → ℕ → Type 0) → Source → Type 0
  Agreed own =
      Agree base.count (EventsIn base inputs k) (EventsAt base.count one inputs k)
      (WithOwn (PairsOutside base inputs k) own) (WithOwn (PairsAt base.count one inputs k) own)

  named : (own : ℕ → ℕ → ℕ → Type 0) (name : Predefined) → Contains names name
      → Agreed own (sources.Predefined name)
  named own name inside = (world.events name inside, world.pairs name inside)

  of_code : (own : ℕ → ℕ → ℕ → Type 0) (xs : List Step)
      → ((name : Predefined) → Contains (predefined_names_in xs) name → Contains names name)
      → OfSteps (Agreed own) xs
  of_code own xs within =
      of_steps (Agreed own) (λ index. ((λ a. ((λ x. x), (λ x. x))), (λ a b. ((λ x. x), (λ x. x)))))
      (λ position. ((λ a. ((λ x. x), (λ x. x))), (λ a b. ((λ x. x), (λ x. x))))) xs
      (λ name inside. named own name (within name inside))

  set_same : (t : SetTree) (xs : List Step)
      → ((name : Predefined) → Contains (predefined_names_in xs) name → Contains names name)
      → xs ≡ set_code t []
      → SameSet (MeansSet base.count (EventsIn base inputs k) t)
      (MeansSet base.count (EventsAt base.count one inputs k) t)
  set_same t xs within code =
      let own : ℕ → ℕ → ℕ → Type 0 = OwnPairs base.count [] in
      set_agrees base.count (EventsIn base inputs k) (EventsAt base.count one inputs k)
      (WithOwn (PairsOutside base inputs k) own) (WithOwn (PairsAt base.count one inputs k) own)
      t
      (set_parts (Agreed own) t [] (subst (λ (ys : List Step). OfSteps (Agreed own) ys) code
      (of_code own xs within))).0

  relation_same : (own : ℕ → ℕ → ℕ → Type 0) (t : RelTree) (xs : List Step)
      → ((name : Predefined) → Contains (predefined_names_in xs) name → Contains names name)
      → xs ≡ rel_code t []
      → Same
      (MeansRelation base.count (EventsIn base inputs k) (WithOwn (PairsOutside base inputs k) own) t)
      (MeansRelation base.count (EventsAt base.count one inputs k)
      (WithOwn (PairsAt base.count one inputs k) own) t)
  relation_same own t xs within code =
      relation_agrees base.count (EventsIn base inputs k) (EventsAt base.count one inputs k)
      (WithOwn (PairsOutside base inputs k) own) (WithOwn (PairsAt base.count one inputs k) own)
      t
      (relation_parts (Agreed own) t [] (subst (λ (ys : List Step). OfSteps (Agreed own) ys) code
      (of_code own xs within))).0

  answer_counted : (check : CheckCode)
      → ((name : Predefined) → Contains (predefined_names_in check.code.steps.items) name
      → Contains names name) → (kind : Kind) (answer : Bool)
      → IsAnswerOver check inputs base k kind answer
      → IsCheckAnswer check base.count (EventsAt base.count one inputs k)
      (PairsAt base.count one inputs k) kind answer
  answer_counted check within kinds.OfSet answer h =
      λ t code. unless_same check.negated _ _ _
      (empty_same _ _ (set_same t check.code.steps.items within code)) (h t code)
  answer_counted check within kinds.OfRelation answer h =
      λ t code. unless_same check.negated _ _ _
      (holds_same check.word _ _ (relation_same (OwnPairs base.count []) t check.code.steps.items within
      code))
      (h t code)
  answer_counted check within kinds.OfAny answer h =
      λ t code. unless_same check.negated _ _ _
      (holds_same check.word _ _ (relation_same (OwnPairs base.count []) t check.code.steps.items within
      code))
      (h t code)

  pub answer_exact : (check : CheckCode)
      → ((name : Predefined) → Contains (predefined_names_in check.code.steps.items) name
      → Contains names name) → (kind : Kind) (answer : Bool)
      → IsAnswerOver check inputs base k kind answer
      → IsCheckAnswer check (events_of one) (EventsAt (events_of one) one inputs k)
      (PairsAt (events_of one) one inputs k) kind answer
  answer_exact check within kind answer h =
      subst
      (λ (n : ℕ).
      IsCheckAnswer check n (EventsAt n one inputs k) (PairsAt n one inputs k) kind answer)
      world.count
      (answer_counted check within kind answer h)

  meaning_counted : (xs : List Step)
      → ((name : Predefined) → Contains (predefined_names_in xs) name → Contains names name)
      → (kind : Kind) (s : Events) (r : Relation) → IsMeaningOver kind xs inputs base k s r
      → IsMeaning kind xs base.count (EventsAt base.count one inputs k)
      (PairsAt base.count one inputs k) s r
  meaning_counted xs within kinds.OfSet s r h =
      λ t code. changed_set s base.count _ _ (set_same t xs within code) (h t code)
  meaning_counted xs within kinds.OfRelation s r h =
      λ t code.
      changed r base.count _ _ (relation_same (OwnPairs base.count []) t xs within code) (h t code)
  meaning_counted xs within kinds.OfAny s r h =
      λ t code.
      changed r base.count _ _ (relation_same (OwnPairs base.count []) t xs within code) (h t code)

  values_counted : (recursive : Bool) (bodies : List Body) (cs : List Column)
      → ((name : Predefined) → Contains (bodies_names bodies) name → Contains names name)
      → HaveValuesOver recursive bodies inputs base k cs
      → HaveValues recursive bodies base.count (EventsAt base.count one inputs k)
      (PairsAt base.count one inputs k) k cs
  values_counted false bodies cs within h = λ j lt c b.
      let (s, r, has, meant) = h j lt c b in (
        s,
        r,
        has,
        meaning_counted (get_or bodies j b).code.steps.items
            (λ name inside. within name (body_named bodies j lt b name inside))
            (get_or bodies j b).code.kind s r meant,
      )
  values_counted true bodies cs within h = λ trees codes fit.
      let (values, least, each) = h trees codes fit in (
        values,
        least_agrees base.count (EventsIn base inputs k) (EventsAt base.count one inputs k)
            (PairsOutside base inputs k) (PairsAt base.count one inputs k) trees values
            (λ x lt own.
            let (b, code, among) = code_at trees bodies codes x lt in
            relation_same own (body trees x) b.code.steps.items
            (λ name inside. within name (among name inside)) code)
            least,
        each,
      )

  pub values_exact : (recursive : Bool) (bodies : List Body) (cs : List Column)
      → ((name : Predefined) → Contains (bodies_names bodies) name → Contains names name)
      → HaveValuesOver recursive bodies inputs base k cs
      → HaveValues recursive bodies (events_of one) (EventsAt (events_of one) one inputs k)
      (PairsAt (events_of one) one inputs k) k cs
  values_exact recursive bodies cs within h =
      subst
      (λ (n : ℕ).
      HaveValues recursive bodies n (EventsAt n one inputs k) (PairsAt n one inputs k) k cs)
      world.count
      (values_counted recursive bodies cs within h)

-- the answers of a check
pub answers_exact : (check : CheckCode) (inputs : List (Bor Column)) (xs : List NamedColumn)
    (cs : List Candidate) (answers : List Bool)
    → AreColumnsFor xs cs → ListsNeeded (column_names xs) (predefined_names_in check.code.steps.items)
    → AreAnswersOver check inputs (seen_in xs 0 cs) answers → AreAnswers check inputs cs answers
answers_exact check inputs xs cs answers right listed h = (
  h.0 ∙ in_long xs 0 cs,
  (λ k one answer at_c at_a.
      let base = values_seen xs k (events_of one) in
      let world : IsSeen (column_names xs) base one = seen_right xs cs right k one at_c in
      answer_exact (column_names xs) base one world inputs k check listed check.code.kind answer
      (h.1 k base answer (first_at xs cs k one at_c) at_a)),
)

-- the columns of a group
pub columns_exact : (recursive : Bool) (bodies : List Body) (inputs : List (Bor Column))
    (xs : List NamedColumn) (cs : List Candidate) (columns : List Column)
    → AreColumnsFor xs cs → ListsNeeded (column_names xs) (bodies_names bodies)
    → AreColumnsOver recursive bodies inputs (seen_in xs 0 cs) columns
    → AreGroupColumns recursive bodies inputs cs columns
columns_exact recursive bodies inputs xs cs columns right listed h = record {
  as_many = h.as_many;
  suited = h.suited;
  long = λ j lt c. h.long j lt c ∙ in_long xs 0 cs;
  values = λ k one at.
      let base = values_seen xs k (events_of one) in
      let world : IsSeen (column_names xs) base one = seen_right xs cs right k one at in
      values_exact (column_names xs) base one world inputs k recursive bodies columns listed
      (h.values k base (first_at xs cs k one at));
}
