-- The values of a relation that a model shows are those of its expression, behind the definitions
-- before it.
use Rattle.std.proofs.Common.{ℕ, zero, suc, ◌≡◌, ◌<◌, ◌+◌, ◌-◌, ◌↔◌, List, [], ◌∷◌, ◌++◌, length, map, filter, take, reverse, Bool, true, false, All, Contains, Option, Some, None, refl, sym, ap, subst, ◌∙◌, arith}
use Rattle.std.specs.Prelude.{slice_get}
use Rattle.std.specs.List.{AllZip}
use Rattle.std.proofs.Math.Seq.{take-length}
use Rattle.std.proofs.lemmas.List.{length-append, length-map}
use Rattle.std.proofs.lemmas.List.Elements.{All-nil, All-cons, All-append}
use Rattle.std.proofs.lemmas.Option.{same_Some, slice_get_within}
use denote.Ref.{Bor}
use Rattle.text_values.specs.declared.model.Check as code_check
use Rattle.text_values.specs.declared.model.CheckWord.TheVariants as words
use Rattle.text_values.specs.declared.model.Item.{Item}
use Rattle.text_values.specs.declared.model.Item.TheVariants as items
use Rattle.text_values.specs.declared.model.ModelText.{ModelText}
use Rattle.text_values.specs.ModelValue.{Term, Checked, Clause, Binding, Function, Checking, Flagging, Showing, Including}
use Rattle.text_values.specs.ModelValues.{term_of, check_of, clause_of, clauses_of}
use Rattle.text_values.specs.TestValue.{Content}
use Rattle.bit_rows.specs.Relation.{Relation, Events, Has, IsRelation}
use Rattle.binding_kinds.specs.declared.kinds.Kind.{Kind}
use Rattle.binding_kinds.specs.declared.kinds.Kind.TheVariants as kinds
use Rattle.binding_graph.specs.declared.resolved.ResolvedItem.{ResolvedItem}
use Rattle.binding_graph.specs.declared.resolved.Source.{Source}
use Rattle.binding_graph.specs.declared.resolved.Step.{Step}
use Rattle.binding_graph.specs.Resolved.{IsLabelledAs}
use Rattle.binding_graph.specs.Trees.{SetTree, RelTree}
use Rattle.binding_graph.proofs.Labels.{zip_push}
use Rattle.candidate_spaces.specs.declared.candidate.Space.{Space}
use Rattle.candidate_spaces.specs.Space.{Candidate, candidates_in}
use Rattle.cat_machine.specs.declared.column.Column.{Column}
use Rattle.cat_machine.specs.declared.column.Column.TheVariants as columns
use Rattle.cat_machine.specs.Columns.{HasColumnValue}
use Rattle.cat_machine.specs.Executions.{events_of, EventsAt, PairsAt}
use Rattle.cat_machine.specs.Values.{IsFor, IsMeaning}
use Rattle.why_witness.specs.Pairs as program
use Rattle.why_witness.specs.Values.{AreValues}
use Rattle.why_forbidden.proofs.Sound.{sound_items}
use Rattle.draw_relations.specs.declared.names.ShownName.{ShownName}
use Rattle.draw_relations.specs.declared.values.ShownValues.{ShownValues}
use Rattle.draw_relations.specs.Shown.{IsTextFor, body_of, check_on, clauses_for, is_binding}
use Rattle.draw_relations.specs.Values.{IsLast, IsCheckValue, IsLastValue, IsShownValue, AreValuesBefore, NoName, OneShown, OneLeft}
use Rattle.meaning.specs.Sets.{Set}
use Rattle.meaning.specs.Executions.{Event, Execution, IsEvent}
use Rattle.meaning.specs.Cat.{Meaning, ASet, ARelation, Nothing, Names, HasPair, meaning_of, names_after}
use Rattle.meaning_items.specs.Behind.{bound_behind, outer_bound}
use Rattle.meaning_items.specs.Slots.{candidate_value}
use Rattle.meaning_executions.specs.Names.{AreNamesMeant}
use Rattle.meaning_executions.specs.Events.{IsNumbered, named_events}
use Rattle.meaning_executions.proofs.Lists.{as_long, member}
use Rattle.meaning_answers.specs.Told.{IsPair, names_seen}
use Rattle.meaning_answers.proofs.Carried.{event_at, event_is, term_pair, term_pair_back, pair_there}
use Rattle.meaning_answers.proofs.Checks.{IsMeantAt, code_meant, from_map}
use Rattle.meaning_answers.proofs.Coded.{IsMeantBy, pair_below, column_pairs}
use Rattle.meaning_answers.specs.Graphs.{ShownPairs}

-- ---- definitions alone

bound_alone : {E : Type 0} (all : Set E) (N : Names E) (cs : List Clause)
    → bound_behind all N (filter is_binding cs) ≡ bound_behind all N cs
bound_alone all N [] = refl
bound_alone all N (Binding true group ∷ cs) =
    bound_alone all (names_after all N (Binding true group)) cs
bound_alone all N (Binding false group ∷ cs) =
    bound_alone all (names_after all N (Binding false group)) cs
bound_alone all N (Function name ps body ∷ cs) =
    bound_alone all (names_after all N (Function name ps body)) cs
bound_alone all N (Checking check label ∷ cs) = bound_alone all N cs
bound_alone all N (Flagging check label ∷ cs) = bound_alone all N cs
bound_alone all N (Showing hidden list ∷ cs) = bound_alone all N cs
bound_alone all N (Including path ∷ cs) = bound_alone all N cs

last_there : {X : Type 0} (xs : List X) (x : X) → slice_get (xs ++ x ∷ []) (length xs) ≡ Some x
last_there [] x = refl
last_there (y ∷ xs) x = last_there xs x

before_last : {X : Type 0} (xs : List X) (x : X) → take (length xs) (xs ++ x ∷ []) ≡ xs
before_last [] x = refl
before_last {X} (y ∷ xs) x = ap (λ (ys : List X). y ∷ ys) (before_last xs x)

-- the item is that check
check_item : (x : Item) (body : Term) → clause_of x ≡ check_on body
    → (c : code_check.Check) × (label : Option (List ℕ)) × (x ≡ items.Check c label)
    × (term_of c.body ≡ body)
check_item (items.Let recursive group) body e = absurd cc
check_item (items.Function name ps b) body e = absurd cc
check_item (items.Check c label) body e = (c, label, refl, one_body (check_of c) label e)
  where
    one_body : (check : Checked) (o : Option (List ℕ)) → Checking check o ≡ check_on body
        → check.body ≡ body
    one_body check o h = cc
check_item (items.Flag c label) body e = absurd cc
check_item (items.Show hidden list) body e = absurd cc
check_item (items.Include path) body e = absurd cc

module _ (t : Content) (space : Space) (k : ℕ) (y : Execution) (one : Candidate)
    (there : slice_get (candidates_in space.combinations.items) k ≡ Some one)
    (named : AreNamesMeant t y one) (clauses : List Clause) where
  abbrev Below : Set ℕ
  Below a = a < events_of one

  abbrev names_before : ℕ → Names ℕ
  names_before i = bound_behind Below (outer_bound (candidate_value one)) (take i clauses)

  -- the last check of a text means its expression there
  module _ (x : ShownName) (body : Term) (text : ModelText)
      (is : clauses_of text.items.items ≡ clauses_for clauses x body) (column : Column)
      (h : IsLastValue space text column) where
    abbrev defs : List Clause
    defs = filter is_binding (take x.item clauses)

    long : length h.resolved ≡ suc (length defs)
    long =
        sym (as_long IsLabelledAs text.items.items h.resolved h.resolves.1)
        ∙ (sym (length-map text.items.items clause_of)
        ∙ (ap length is
        ∙ (let e : length (defs ++ check_on body ∷ []) ≡ length defs + 1 =
        length-append defs (check_on body ∷ []) in
        let f : length (defs ++ check_on body ∷ []) ≡ suc (length defs) = omega (arith, e) in f)))

    stands : slice_get h.resolved (length defs) ≡ Some h.item
    stands =
        let e : length h.resolved - 1 ≡ length defs = omega (arith, long) in
        subst (λ (i : ℕ). slice_get h.resolved i ≡ Some h.item) e h.last

    at_last : (i : Item) × (slice_get text.items.items (length defs) ≡ Some i)
        × (clause_of i ≡ check_on body)
    at_last =
        from_map clause_of text.items.items (length defs) (check_on body)
        (ap (λ (cs : List Clause). slice_get cs (length defs)) is
        ∙ last_there defs (check_on body))

    abbrev last_check : (c : code_check.Check) × (label : Option (List ℕ))
        × (at_last.0 ≡ items.Check c label) × (term_of c.body ≡ body)
    last_check = check_item at_last.0 body at_last.2

    meant : IsMeantAt space text.items.items h.resolved h.faultless h.resolves.0 h.resolves.1
        h.answers h.valued (sound_items text h.resolved h.faultless h.resolves).0 k one there
        (length defs) h.value.check h.value.inputs last_check.0
    meant =
        code_meant space text.items.items h.resolved h.faultless h.resolves.0 h.resolves.1 h.answers
        h.valued (sound_items text h.resolved h.faultless h.resolves).0 k one there (length defs)
        h.item stands h.value.check h.value.role h.value.inputs h.value.found last_check.0
        last_check.1 (at_last.1 ∙ ap (λ (i : Item). Some i) last_check.2)

    same_meaning : meaning_of Below
        (bound_behind Below (outer_bound (candidate_value one))
        (take (length defs) (clauses_of text.items.items))) (term_of last_check.0.body)
        ≡ meaning_of Below (names_before x.item) body
    same_meaning =
        ap
        (λ (cs : List Clause). meaning_of Below
        (bound_behind Below (outer_bound (candidate_value one)) cs) (term_of last_check.0.body))
        (ap (λ (cs : List Clause). take (length defs) cs) is ∙ before_last defs (check_on body))
        ∙ (ap (λ (N : Names ℕ). meaning_of Below N (term_of last_check.0.body))
        (bound_alone Below (outer_bound (candidate_value one)) (take x.item clauses))
        ∙ ap (λ (e : Term). meaning_of Below (names_before x.item) e) last_check.3)

    value_there : (s : Events) × (r : Relation) × HasColumnValue column k s r
        × IsMeaning h.value.check.code.kind h.value.check.code.steps.items (events_of one)
        (EventsAt (events_of one) one h.value.inputs k) (PairsAt (events_of one) one h.value.inputs k)
        s r
    value_there = h.value.values.values k one there

    body_meant : IsMeantBy (events_of one) (EventsAt (events_of one) one h.value.inputs k)
        (PairsAt (events_of one) one h.value.inputs k) meant.set meant.relation
        h.value.check.code.kind h.value.check.code.steps.items
        (meaning_of Below (names_before x.item) body)
    body_meant =
        subst
        (λ (m : Meaning ℕ). IsMeantBy (events_of one) (EventsAt (events_of one) one h.value.inputs k)
        (PairsAt (events_of one) one h.value.inputs k) meant.set meant.relation
        h.value.check.code.kind h.value.check.code.steps.items m) same_meaning meant.meant

    pub by_number : (a b : ℕ)
        → program.HasPair column k a b ↔ HasPair (meaning_of Below (names_before x.item) body) a b
    by_number =
        column_pairs (events_of one) (EventsAt (events_of one) one h.value.inputs k)
        (PairsAt (events_of one) one h.value.inputs k) meant.set meant.relation
        h.value.check.code.kind h.value.check.code.steps.items _ body_meant column
        h.value.values.suited k value_there.0 value_there.1 value_there.2 value_there.3

    pub within : (a b : ℕ) → HasPair (meaning_of Below (names_before x.item) body) a b
        → (a < events_of one) × (b < events_of one)
    within a b p =
        pair_below (events_of one) (EventsAt (events_of one) one h.value.inputs k)
        (PairsAt (events_of one) one h.value.inputs k) meant.set meant.relation
        h.value.check.code.kind h.value.check.code.steps.items _ body_meant value_there.0
        value_there.1 value_there.3 a b p

  alike : (x : ShownName) (v : ShownValues) (body : Term) (text : ModelText)
      → body_of clauses x ≡ Some body → clauses_of text.items.items ≡ clauses_for clauses x body
      → IsLastValue space text v.values → (a b : ℕ)
      → program.HasPair v.values k a b ↔ IsPair t y (ShownPairs t y clauses x) a b
  alike x v body text is_body text_is value a b = (
    λ p.
        let q = (by_number x body text text_is v.values value a b).0 p in
        let in_range = within x body text text_is v.values value a b q in
        pair_there t y one named (ShownPairs t y clauses x) a b in_range.0 in_range.1
        (body, is_body, term_pair t y one named clauses x.item body a b q),
    λ (first, second, at, also, (other, is_other, q)).
        (by_number x body text text_is v.values value a b).1
        (term_pair_back t y one named clauses x.item body a b
        (subst
        (λ (e : Event). HasPair (meaning_of (IsEvent t y) (names_seen t y clauses x.item) body) (event_at t y one named a) e)
        (sym (event_is t y one named b second also))
        (subst
        (λ (e : Event). HasPair (meaning_of (IsEvent t y) (names_seen t y clauses x.item) body) e second)
        (sym (event_is t y one named a first at))
        (subst
        (λ (e : Term). HasPair (meaning_of (IsEvent t y) (names_seen t y clauses x.item) e) first second)
        (same_Some _ _ (sym is_other ∙ is_body)) q)))),
  )

  -- the values of a shown name are its pairs
  pub shown_alike : (x : ShownName) (v : ShownValues) → IsShownValue clauses space x v → (a b : ℕ)
      → program.HasPair v.values k a b ↔ IsPair t y (ShownPairs t y clauses x) a b
  shown_alike x v h a b =
      alike x v h.is.0 h.text h.is.1 h.is.2 h.value a b

-- ---- all names that are shown

pub record AreNamed (space : Space) (clauses : List Clause) (xs : List ShownName)
    (vs : List ShownValues) : Type 0 where
  pub names : List ShownName
  pub among : All (Contains xs) names
  pub values : AllZip (IsShownValue clauses space) names vs

pub all_named : (space : Space) (clauses : List Clause) (xs : List ShownName) (n : ℕ)
    (vs : List ShownValues) → AreValuesBefore space clauses xs n vs
    → AreNamed space clauses xs vs
all_named space clauses xs n vs NoName = record {
  names = [];
  among = All-nil (Contains xs);
  values = tt;
}
all_named space clauses xs n vs (OneShown i before x v h at is) =
    let rest : AreNamed space clauses xs before = all_named space clauses xs i before h in
    record {
      names = rest.names ++ x ∷ [];
      among =
          All-append (Contains xs) rest.names (x ∷ []) rest.among
          (All-cons (Contains xs) x [] (member xs i x at) (All-nil (Contains xs)));
      values = zip_push (IsShownValue clauses space) rest.names before x v rest.values is;
    }
all_named space clauses xs n vs (OneLeft i before x h at none) =
    all_named space clauses xs i before h
