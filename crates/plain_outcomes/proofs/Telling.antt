-- What a model means of the indexes of events it means of the events.
use Rattle.std.proofs.Common.{◌≡◌, ◌<◌, ◌↔◌, ℕ, List, [], ◌∷◌, length, map, get_or, Bool, Some, slice_get, sym, subst, arith}
use Rattle.std.specs.List.{AllZip}
use Rattle.std.proofs.lemmas.List.{length-map}
use Rattle.std.proofs.lemmas.Option.{slice_get-get_or, slice_get_within}
use Rattle.text_values.specs.declared.model.Item.{Item}
use Rattle.predefined_names.specs.declared.predefined.Predefined.{Predefined}
use Rattle.predefined_names.specs.PredefinedNames.{spelling, is_set}
use Rattle.text_values.specs.ModelValues.{clauses_of}
use Rattle.text_values.specs.TestValue.{Content}
use Rattle.meaning.specs.Sets as sets
use Rattle.meaning.specs.Names.{Name}
use Rattle.meaning.specs.Executions.{Event, Initial, Execution, IsEvent, IsExecution}
use Rattle.meaning.specs.Predefined.{EventsOf, PairsOf, predefined_names}
use Rattle.meaning.specs.Cat as cat
use Rattle.meaning.specs.Cat.{ASet, ARelation, Names, choice_of}
use Rattle.meaning.specs.Evaluates.{predefined_bound, outermost}
use Rattle.meaning_laws.proofs.Operators as carried
use Rattle.meaning_laws.proofs.Operators.{Same}
use Rattle.meaning_laws.proofs.Expressions.{SameBound, meanings, SameNames, no_name, one_more}
use Rattle.meaning_laws.proofs.Extending.{Numbering, numbering, set_along, relation_along}
use Rattle.meaning_laws.proofs.Items.{all_met_same, flags_same}
use Rattle.meaning_plain.specs.Lists.{SetOf, RelationOf, HasMembers}
use Rattle.plain_runs.proofs.Listing.{listed_as}
use Rattle.plain_models.specs.declared.value.Value.{Value}
use Rattle.plain_models.specs.declared.value.Value.TheVariants as values
use Rattle.plain_models.specs.declared.scope.Bound.{Bound}
use Rattle.plain_models.specs.declared.scope.Bound.TheVariants as bounds
use Rattle.plain_models.specs.declared.scope.Named.{Named}
use Rattle.plain_models.specs.Values.{meaning_as}
use Rattle.plain_models.specs.Scopes.{bound_as, with_named}
use Rattle.plain_models.specs.declared.model.Answers.{Answers}
use Rattle.plain_models.specs.Answers.{AreModelAnswers, IsOfValue, AreValuesOf, ArePredefined}
use Rattle.plain_events.specs.Events.{of_runs, event_as}
use Rattle.plain_events.proofs.Doing.{same_action}
use Rattle.plain_executions.proofs.Indexing.{index_of, stands, one_index}
use Rattle.plain_names.specs.declared.seen.Seen.{Seen}
use Rattle.plain_names.specs.Seen.{seen_event, seen_events, IsSeenAs, AreSeen}
use Rattle.plain_names.specs.Named.{IsValueOf, IsBoundTo, ArePredefinedNames}
use Rattle.plain_outcomes.specs.Answered.{AreAnswersOf}
use Rattle.plain_outcomes.proofs.Among.{events_among, pairs_among}

-- ---- names that are bound to values

are_values : (t : Content) (x : Execution) (es : List Event) (ps : List Predefined)
    (bs : List Named) → AllZip (λ p b. (b.name ≡ spelling p) × IsBoundTo t x es p b.bound) ps bs
    → AreValuesOf (map spelling ps) bs
are_values t x es [] [] are = tt
are_values t x es [] (b ∷ bs) are = absurd are
are_values t x es (p ∷ ps) [] are = absurd are
are_values t x es (p ∷ ps) (b ∷ bs) are =
    (are.0.0, of_value b.bound are.0.1, are_values t x es ps bs are.1)
  where
    of_value : (c : Bound) → IsBoundTo t x es p c → IsOfValue c
    of_value (bounds.Value v) is = tt
    of_value (bounds.Function i) is = absurd is

pub are_predefined : (t : Content) (x : Execution) (es : List Event) (bs : List Named)
    → ArePredefinedNames t x es bs → ArePredefined bs
are_predefined t x es bs are = are_values t x es predefined_names bs are

-- ---- what is seen depends on the runs alone

pub seen_in : (t : Content) (x : Execution) (seen : List Seen) → AreSeen t (of_runs x.runs) seen
    → AreSeen t x seen
seen_in t x seen are = record {
  listed = listed_as (IsEvent t (of_runs x.runs)) (IsEvent t x) (seen_events seen)
      (λ e. ((λ h. (h.0, (same_action t x e h.0).0 h.1)), λ h. (h.0, (same_action t x e h.0).1 h.1)))
      are.listed;
  actions = λ k d lt. one (get_or seen k d) (are.actions k d lt);
}
  where
    one : (s : Seen) → IsSeenAs t (of_runs x.runs) s → IsSeenAs t x s
    one s does a = (
      (λ same. (same_action t x (event_as s.event) a).0 ((does a).0 same)),
      λ has. (does a).1 ((same_action t x (event_as s.event) a).1 has),
    )

-- ---- along a numbering of the events

-- names put before others, one by one
abbrev onto : Names Event → Names Event → Names Event
onto [] cs = cs
onto (c ∷ more) cs = onto more (c ∷ cs)

module _ (t : Content) (x : Execution) (is : IsExecution t x) (seen : List Seen)
    (are : AreSeen t x seen) where
  abbrev es : List Event
  es = seen_events seen

  N : Numbering es (length es)
  N =
      numbering es (λ m n e first second. one_index es m n e are.listed.once first second) (length es)

  numbered : (e : Event) → IsEvent t x e → (n : ℕ) × (slice_get es n ≡ Some e)
  numbered e event = index_of es e ((are.listed.exact e).1 event)

  event_there : (n : ℕ) → n < length seen
      → (e : Event) × (slice_get es n ≡ Some e) × IsEvent t x e
  event_there n lt =
      let first : length (map seen_event seen) ≡ length seen = length-map seen seen_event in
      let long : length es ≡ length (map seen_event seen) = length-map (map seen_event seen) event_as in
      let at : slice_get es n ≡ Some (get_or es n (Initial [])) =
      slice_get-get_or es n (Initial []) (omega (arith, first, long, lt)) in (
        get_or es n (Initial []),
        at,
        (are.listed.exact (get_or es n (Initial []))).0 (stands es n (get_or es n (Initial [])) at),
      )

  value_same : (p : Predefined) (v : Value) → IsValueOf t x es p v
      → Same N.to (meaning_as v)
      (choice_of (is_set p) (ASet (EventsOf t x p)) (ARelation (PairsOf t x p)))
  value_same p (values.Set ns) (set, members) =
      subst
      (λ (b : Bool). Same N.to (ASet (SetOf ns.items))
      (choice_of b (ASet (EventsOf t x p)) (ARelation (PairsOf t x p))))
      (sym set)
      (carried.sets (SetOf ns.items) (EventsOf t x p)
      (set_along es N (SetOf ns.items) (EventsOf t x p) (λ n there. (members n).0 there) there))
    where
      there : (e : Event) → EventsOf t x p e
          → (n : ℕ) × (slice_get es n ≡ Some e) × SetOf ns.items n
      there e is_member =
          let at : _ = numbered e (events_among t x p e is_member) in
          (at.0, at.1, (members at.0).1 (e, at.1, is_member))
  value_same p (values.Relation ps) (set, pairs) =
      subst
      (λ (b : Bool). Same N.to (ARelation (RelationOf ps.items))
      (choice_of b (ASet (EventsOf t x p)) (ARelation (PairsOf t x p))))
      (sym set)
      (carried.relations (RelationOf ps.items) (PairsOf t x p)
      (relation_along es N (RelationOf ps.items) (PairsOf t x p)
      (λ m n there. (pairs m n).0 there) there))
    where
      there : (a b : Event) → PairsOf t x p a b
          → (m : ℕ) × (n : ℕ) × (slice_get es m ≡ Some a) × (slice_get es n ≡ Some b)
          × RelationOf ps.items m n
      there a b related =
          let both : IsEvent t x a × IsEvent t x b = pairs_among t x is p a b related in
          let first : _ = numbered a both.0 in
          let second : _ = numbered b both.1 in
          (first.0, second.0, first.1, second.1, (pairs first.0 second.0).1 (a, b, first.1, second.1, related))
  value_same p values.Nothing never = absurd never

  named_same : (all : sets.Set ℕ) (items : List Item) (ps : List Predefined) (bs : List Named)
      → AllZip (λ p b. (b.name ≡ spelling p) × IsBoundTo t x es p b.bound) ps bs
      → (ns : Names ℕ) (cs : Names Event) → SameNames N.to ns cs
      → SameNames N.to (with_named all items bs ns)
      (onto (map (λ p. (spelling p, predefined_bound t x p)) ps) cs)
  named_same all items [] [] bound ns cs h = h
  named_same all items [] (b ∷ bs) bound ns cs h = absurd bound
  named_same all items (p ∷ ps) [] bound ns cs h = absurd bound
  named_same all items (p ∷ ps) (b ∷ bs) bound ns cs h =
      named_same all items ps bs bound.1 ((b.name, bound_as all items ns b.bound) ∷ ns)
      ((spelling p, predefined_bound t x p) ∷ cs)
      (subst
      (λ (n : Name). SameNames N.to ((n, bound_as all items ns b.bound) ∷ ns)
      ((spelling p, predefined_bound t x p) ∷ cs))
      (sym bound.0.0)
      (one_more (spelling p) (bound_as all items ns b.bound) (predefined_bound t x p) ns cs
      (bound_same b.bound bound.0.1) h))
    where
      bound_same : (c : Bound) → IsBoundTo t x es p c
          → SameBound N.to (bound_as all items ns c) (predefined_bound t x p)
      bound_same (bounds.Value v) value = meanings (meaning_as v) _ (value_same p v value)
      bound_same (bounds.Function i) value = absurd value

  pub told : (all : List ℕ) (items : List Item) (bs : List Named) (a : Answers)
      → HasMembers (λ n. n < length seen) all → ArePredefinedNames t x es bs
      → AreModelAnswers (SetOf all) (with_named (SetOf all) items bs []) (clauses_of items) a
      → AreAnswersOf t (clauses_of items) x a
  told all items bs a members bound answers = record {
    kept = (λ b. (is, checks.0 (answers.kept.0 b)), λ kept. answers.kept.1 (checks.1 kept.1));
    flags = λ i. (
      (λ there. (flags i).0 ((answers.flags i).0 there)),
      λ met. (answers.flags i).1 ((flags i).1 met),
    );
  }
    where
      below : (n : ℕ) (e : Event) → slice_get es n ≡ Some e → n < length seen
      below n e at =
          let first : length (map seen_event seen) ≡ length seen = length-map seen seen_event in
          let long : length es ≡ length (map seen_event seen) = length-map (map seen_event seen) event_as in
          let lt : n < length es = slice_get_within es n e at in
          omega (arith, first, long, lt)

      event_index : (e : Event) → IsEvent t x e
          → (n : ℕ) × (slice_get es n ≡ Some e) × SetOf all n
      event_index e event =
          let at : _ = numbered e event in
          (at.0, at.1, (members at.0).1 (below at.0 e at.1))

      whole : (n : ℕ) → SetOf all n ↔ IsEvent t x (N.to n)
      whole =
          set_along es N (SetOf all) (IsEvent t x)
          (λ n there. event_there n ((members n).0 there)) event_index

      same : SameNames N.to (with_named (SetOf all) items bs []) (outermost t x)
      same = named_same (SetOf all) items predefined_names bs bound [] [] no_name

      checks : cat.AreMet (SetOf all) (with_named (SetOf all) items bs []) (clauses_of items)
          ↔ cat.AreMet (IsEvent t x) (outermost t x) (clauses_of items)
      checks =
          all_met_same N.to N.from N.there N.back (SetOf all) (IsEvent t x) whole (clauses_of items)
          (with_named (SetOf all) items bs []) (outermost t x) same

      flags : (i : ℕ)
          → cat.IsFlagMet (SetOf all) (with_named (SetOf all) items bs []) (clauses_of items) i
          ↔ cat.IsFlagMet (IsEvent t x) (outermost t x) (clauses_of items) i
      flags i =
          flags_same N.to N.from N.there N.back (SetOf all) (IsEvent t x) whole (clauses_of items) i
          (with_named (SetOf all) items bs []) (outermost t x) same
