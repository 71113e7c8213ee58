-- Where each input has the same value in two candidates with the same predefined names, an item
-- means the same in both.
use Rattle.std.proofs.Common.{ℕ, ◌≡◌, ◌<◌, ◌+◌, ◌-◌, ◌++◌, ◌∙◌, List, [], ◌∷◌, length, length-append, get_or, zero, suc, Bool, true, false, sym, ap, subst, refl, arith}
use Rattle.std.specs.Prelude.{Option, Some, None, slice_get}
use denote.Ref.{Bor}
use Rattle.bit_rows.specs.Relation.{Relation, Events, no_slot}
use Rattle.cat_machine.specs.Seen.{NamedValues}
use Rattle.binding_kinds.specs.declared.kinds.Kind.{Kind}
use Rattle.binding_kinds.specs.declared.kinds.Kind.TheVariants as kinds
use Rattle.binding_graph.specs.declared.resolved.Body.{Body}
use Rattle.binding_graph.specs.declared.resolved.CheckCode.{CheckCode}
use Rattle.binding_graph.specs.declared.resolved.Source.{Source}
use Rattle.binding_graph.specs.declared.resolved.Source.TheVariants as sources
use Rattle.binding_graph.specs.declared.resolved.Step.{Step}
use Rattle.binding_graph.specs.Trees.{SetTree, SetName, AllEvents, NoEvent, BlendSets, ComplementSet, RelTree, RelName, NoPair, BlendRelations, SequenceRelations, ProductOfSets, IdentityOn, Close, ComplementRelation}
use Rattle.cat_machine.specs.declared.column.Column.{Column}
use Rattle.cat_machine.specs.declared.column.Column.TheVariants as columns
use Rattle.cat_machine.specs.Columns.{HasColumnValue}
use Rattle.cat_machine.specs.Least.{body}
use Rattle.cat_machine.specs.Meaning.{MeansSet, MeansRelation}
use Rattle.cat_machine.specs.Named.{ColumnEvents, ColumnPairs, InputEvents, InputPairs, EventsIn, PairsOutside, WithOwn, OwnPairs}
use Rattle.cat_eval.specs.OverNames.{IsAnswerOver, IsMeaningOver, HaveValuesOver, AreColumnsOver}
use Rattle.cat_machine.specs.Steady.{HasSame, HaveSameInputs, IsSteady, Repeats, HasAsLast}
use Rattle.cat_machine.specs.Values.{AddsValue, column_len}
use Rattle.cat_eval.proofs.Agreeing.{Agree, OfSet, OfRelation, set_agrees, relation_agrees, least_agrees}
use Rattle.cat_eval.proofs.Columns.{get_last, adds_new, columns_more}
use Rattle.cat_eval.proofs.Exact.{unless_same}
use Rattle.cat_machine.proofs.Same.{Same, SameSet, changed, changed_set}
use Rattle.cat_eval.proofs.Visits.{holds_same, empty_same}

column_events : (c : Column) (j k n : ℕ) → HasSame c j k
    → SameSet (ColumnEvents c j n) (ColumnEvents c k n)
column_events (columns.Sets values) j k n same = λ a. rw same ((λ x. x), (λ x. x))
column_events (columns.Relations values) j k n same = λ a. ((λ x. x), (λ x. x))

column_pairs : (c : Column) (j k n : ℕ) → HasSame c j k
    → Same (ColumnPairs c j n) (ColumnPairs c k n)
column_pairs (columns.Sets values) j k n same = λ a b. ((λ x. x), (λ x. x))
column_pairs (columns.Relations values) j k n same = λ a b. rw same ((λ x. x), (λ x. x))

input_events : (entry : Option (Bor Column)) (j k n : ℕ)
    → ((column : Bor Column) → entry ≡ Some column → HasSame column.now j k)
    → SameSet (InputEvents entry j n) (InputEvents entry k n)
input_events None j k n same = λ a. ((λ x. x), (λ x. x))
input_events (Some column) j k n same = column_events column.now j k n (same column refl)

input_pairs : (entry : Option (Bor Column)) (j k n : ℕ)
    → ((column : Bor Column) → entry ≡ Some column → HasSame column.now j k)
    → Same (InputPairs entry j n) (InputPairs entry k n)
input_pairs None j k n same = λ a b. ((λ x. x), (λ x. x))
input_pairs (Some column) j k n same = column_pairs column.now j k n (same column refl)

module _ (P : Source → Type 0) (each : (source : Source) → P source) where
  every_set : (t : SetTree) → OfSet P t
  every_set (SetName source) = each source
  every_set AllEvents = tt
  every_set NoEvent = tt
  every_set (BlendSets how s t) = (every_set s, every_set t)
  every_set (ComplementSet s) = every_set s

  every_relation : (e : RelTree) → OfRelation P e
  every_relation (RelName source) = each source
  every_relation NoPair = tt
  every_relation (BlendRelations how e f) = (every_relation e, every_relation f)
  every_relation (SequenceRelations e f) = (every_relation e, every_relation f)
  every_relation (ProductOfSets s t) = (every_set s, every_set t)
  every_relation (IdentityOn s) = every_set s
  every_relation (Close how e) = every_relation e
  every_relation (ComplementRelation e) = every_relation e

module _ (base : NamedValues) (inputs : List (Bor Column)) (j k : ℕ) (same : HaveSameInputs inputs j k) where
  agreed : (own : ℕ → ℕ → ℕ → Type 0) (source : Source)
      → Agree base.count (EventsIn base inputs j) (EventsIn base inputs k)
      (WithOwn (PairsOutside base inputs j) own) (WithOwn (PairsOutside base inputs k) own)
      source
  agreed own (sources.Predefined name) =
      ((λ a. ((λ x. x), (λ x. x))), (λ a b. ((λ x. x), (λ x. x))))
  agreed own (sources.Input index) = (
    input_events (slice_get inputs index) j k base.count (same index),
    input_pairs (slice_get inputs index) j k base.count (same index),
  )
  agreed own (sources.Own position) = ((λ a. ((λ x. x), (λ x. x))), (λ a b. ((λ x. x), (λ x. x))))

  set_again : (t : SetTree)
      → SameSet (MeansSet base.count (EventsIn base inputs j) t)
      (MeansSet base.count (EventsIn base inputs k) t)
  set_again t =
      let own : ℕ → ℕ → ℕ → Type 0 = OwnPairs base.count [] in
      set_agrees base.count (EventsIn base inputs j) (EventsIn base inputs k)
      (WithOwn (PairsOutside base inputs j) own) (WithOwn (PairsOutside base inputs k) own) t
      (every_set
      (Agree base.count (EventsIn base inputs j) (EventsIn base inputs k)
      (WithOwn (PairsOutside base inputs j) own)
      (WithOwn (PairsOutside base inputs k) own))
      (agreed own) t)

  relation_again : (own : ℕ → ℕ → ℕ → Type 0) (t : RelTree)
      → Same
      (MeansRelation base.count (EventsIn base inputs j) (WithOwn (PairsOutside base inputs j) own) t)
      (MeansRelation base.count (EventsIn base inputs k) (WithOwn (PairsOutside base inputs k) own) t)
  relation_again own t =
      relation_agrees base.count (EventsIn base inputs j) (EventsIn base inputs k)
      (WithOwn (PairsOutside base inputs j) own) (WithOwn (PairsOutside base inputs k) own) t
      (every_relation
      (Agree base.count (EventsIn base inputs j) (EventsIn base inputs k)
      (WithOwn (PairsOutside base inputs j) own)
      (WithOwn (PairsOutside base inputs k) own))
      (agreed own) t)

  -- the answer is the same
  pub answer_again : (check : CheckCode) (kind : Kind) (answer : Bool)
      → IsAnswerOver check inputs base j kind answer → IsAnswerOver check inputs base k kind answer
  answer_again check kinds.OfSet answer h =
      λ t code. unless_same check.negated _ _ _ (empty_same _ _ (set_again t)) (h t code)
  answer_again check kinds.OfRelation answer h =
      λ t code. unless_same check.negated _ _ _
      (holds_same check.word _ _ (relation_again (OwnPairs base.count []) t)) (h t code)
  answer_again check kinds.OfAny answer h =
      λ t code. unless_same check.negated _ _ _
      (holds_same check.word _ _ (relation_again (OwnPairs base.count []) t)) (h t code)

  meaning_again : (xs : List Step) (kind : Kind) (s : Events) (r : Relation)
      → IsMeaningOver kind xs inputs base j s r → IsMeaningOver kind xs inputs base k s r
  meaning_again xs kinds.OfSet s r h =
      λ t code. changed_set s base.count _ _ (set_again t) (h t code)
  meaning_again xs kinds.OfRelation s r h =
      λ t code. changed r base.count _ _ (relation_again (OwnPairs base.count []) t) (h t code)
  meaning_again xs kinds.OfAny s r h =
      λ t code. changed r base.count _ _ (relation_again (OwnPairs base.count []) t) (h t code)

  -- and so are the values, which stand in new columns once more
  values_again : (recursive : Bool) (bodies : List Body) (olds news : List Column)
      → ((x : ℕ) → x < length bodies → (c : Column) → (s : Events) (r : Relation)
      → HasColumnValue (get_or olds x c) j s r → HasColumnValue (get_or news x c) k s r)
      → HaveValuesOver recursive bodies inputs base j olds
      → HaveValuesOver recursive bodies inputs base k news
  values_again false bodies olds news more h = λ x lt c b.
      let (s, r, has, meant) = h x lt c b in (
        s,
        r,
        more x lt c s r has,
        meaning_again (get_or bodies x b).code.steps.items (get_or bodies x b).code.kind s r
            meant,
      )
  values_again true bodies olds news more h = λ trees codes fit.
      let (values, least, each) = h trees codes fit in (
        values,
        least_agrees base.count (EventsIn base inputs j) (EventsIn base inputs k)
            (PairsOutside base inputs j) (PairsOutside base inputs k) trees values
            (λ x lt own. relation_again own (body trees x)) least,
        (λ x lt c.
            let (s, has) = each x lt c in
            (s, more x lt c s (get_or values x no_slot) has)),
      )

-- a column with values has a last one
has_one : {X : Type 0} (xs : List X) (k : ℕ) → k < length xs → (x : X) × (slice_get xs k ≡ Some x)
has_one [] k lt = absurd (omega (arith, lt))
has_one (x ∷ xs) zero lt = (x, refl)
has_one (x ∷ xs) (suc k) lt = has_one xs k (omega (arith, lt))

pub value_there : (c : Column) (k : ℕ) → k < column_len c
    → (s : Events) × (r : Relation) × HasColumnValue c k s r
value_there (columns.Sets values) k lt = let (s, at) = has_one values k lt in (s, no_slot, at)
value_there (columns.Relations values) k lt =
    let (r, at) = has_one values k lt in (record { count = 0; word = 0 }, r, at)

-- how many bases there are where they end with one
pub ends_long : (bases : List NamedValues) (base : NamedValues) (ends : HasAsLast bases base)
    → (length bases ≡ length ends.0 + 1) × (slice_get bases (length ends.0) ≡ Some base)
ends_long bases base ends =
    (ap length ends.1 ∙ length-append ends.0 (base ∷ []), rw ends.1 (get_last ends.0 base))

-- one value more in each column, that of the last candidate
pub columns_again : (recursive : Bool) (bodies : List Body) (inputs : List (Bor Column))
    (bases : List NamedValues) (base : NamedValues) (olds news : List Column) (k steady : ℕ)
    → HasAsLast bases base → AreColumnsOver recursive bodies inputs bases olds
    → k ≡ length bases → IsSteady inputs (length bases) steady → k < steady
    → length news ≡ length olds
    → ((x : ℕ) → x < length olds → (c : Column) → Repeats (get_or olds x c) (get_or news x c))
    → AreColumnsOver recursive bodies inputs (bases ++ base ∷ []) news
columns_again recursive bodies inputs bases base olds news k steady ends before at held lt many
    repeats = columns_more bodies inputs olds news added recursive bases base many before now
  where
    long : length bases ≡ length ends.0 + 1
    long = (ends_long bases base ends).0

    last_is : (x : ℕ) → x < length bodies → (c : Column)
        → column_len (get_or olds x c) - 1 ≡ length ends.0
    last_is x less c = omega (arith, before.long x less c, long)

    adds : (x : ℕ) → x < length bodies → (c : Column) (s : Events) (r : Relation)
        → HasColumnValue (get_or olds x c) (length ends.0) s r
        → AddsValue (get_or olds x c) (get_or news x c) s r
    adds x less c s r has =
        repeats x (rw before.as_many less) c s r (subst
        (λ (n : ℕ). HasColumnValue (get_or olds x c) n s r) (sym (last_is x less c)) has)

    added : (x : ℕ) → x < length bodies → (c : Column)
        → (s : Events) × (r : Relation) × AddsValue (get_or olds x c) (get_or news x c) s r
    added x less c =
        let (s, r, has) = value_there (get_or olds x c) (length ends.0) (omega (arith, before.long x less c, long)) in
        (s, r, adds x less c s r has)

    more : (x : ℕ) → x < length bodies → (c : Column) (s : Events) (r : Relation)
        → HasColumnValue (get_or olds x c) (length ends.0) s r
        → HasColumnValue (get_or news x c) (length bases) s r
    more x less c s r has =
        adds_new (get_or olds x c) (get_or news x c) s r (adds x less c s r has) (length bases)
        (sym (before.long x less c))

    before_it : HaveValuesOver recursive bodies inputs base (length ends.0) olds
    before_it = before.values (length ends.0) base (ends_long bases base ends).1

    same : HaveSameInputs inputs (length ends.0) (length bases)
    same =
        subst (λ (n : ℕ). HaveSameInputs inputs n (length bases)) (omega (arith, long))
        (held (length bases) (omega arith) (omega (arith, at, lt)))

    now : HaveValuesOver recursive bodies inputs base (length bases) news
    now =
        values_again base inputs (length ends.0) (length bases) same recursive bodies olds news more
        before_it

-- the inputs of the candidates behind the next one, where those of the next one are known
pub steady_more : (x y : Bor (List (Bor Column))) → x ≡ y → (n m k steady until : ℕ) → k ≡ n
    → m ≡ n + 1 → (IsSteady x.now k steady → IsSteady x.now (k + 1) until) → IsSteady y.now n steady
    → IsSteady y.now m until
steady_more x y e n m k steady until is more step h =
    let moved : IsSteady x.now n steady = subst (λ (z : Bor (List (Bor Column))). IsSteady z.now n steady) (sym e) h in
    let next : IsSteady x.now (k + 1) until = step (subst (λ (z : ℕ). IsSteady x.now z steady) (sym is) moved) in
    let there : IsSteady x.now m until = subst (λ (z : ℕ). IsSteady x.now z until) (ap (λ (z : ℕ). z + 1) is ∙ sym more) next in
    subst (λ (z : Bor (List (Bor Column))). IsSteady z.now m until) e there

pub group_steady : (x y : Bor (List (Bor Column))) → x ≡ y
    → (bases : List NamedValues) (base : NamedValues) (k steady until new : ℕ) → k ≡ length bases → new ≡ until
    → (IsSteady x.now k steady → IsSteady x.now (k + 1) until)
    → IsSteady y.now (length bases) steady → IsSteady y.now (length (bases ++ base ∷ [])) new
group_steady x y e bases base k steady until new number is step held =
    let next : IsSteady y.now (length (bases ++ base ∷ [])) until = steady_more x y e (length bases) (length (bases ++ base ∷ [])) k steady until number (length-append bases (base ∷ [])) step held in
    subst (λ (z : ℕ). IsSteady y.now (length (bases ++ base ∷ [])) z) (sym is) next

pub steady_moved : (x y : Bor (List (Bor Column))) → x ≡ y → (n steady : ℕ)
    → IsSteady x.now n steady → IsSteady y.now n steady
steady_moved x y e n steady h = subst (λ (z : Bor (List (Bor Column))). IsSteady z.now n steady) e h

-- two candidates with the value of a third have the same
pub same_from : (c : Column) (i j k : ℕ) → HasSame c i j → HasSame c i k → HasSame c j k
same_from (columns.Sets values) i j k one other = sym one ∙ other
same_from (columns.Relations values) i j k one other = sym one ∙ other
