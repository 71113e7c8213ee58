-- The label of a step names relations that relate its events.
use Rattle.std.proofs.Common.{ℕ, zero, suc, ◌≡◌, ◌<◌, ◌+◌, ◌⊎◌, inl, inr, List, [], ◌∷◌, ◌++◌, length, map, reverse, take, get_or, Bool, true, false, All, Contains, Option, Some, None, option_map, refl, sym, ap, subst, ◌∙◌, arith, true≢false}
use Rattle.std.specs.Prelude.{slice_get, slice_index_or, option_and_then, Vec}
use Rattle.std.specs.declared.alloc.Global.{Global}
use Rattle.std.specs.List.{AllByRecursion, Any, filter_map, cons_option}
use Rattle.std.proofs.lemmas.Bool.{ltb-true}
use Rattle.std.proofs.lemmas.List.{append-nil}
use Rattle.std.proofs.lemmas.Option.{same_Some, none-some, slice_get_within, get_or_from_slice_get}
use denote.Ref.{Bor}
use Rattle.text_values.specs.declared.model.Item.{Item}
use Rattle.predefined_names.specs.declared.predefined.Predefined.{Predefined}
use Rattle.predefined_names.specs.PredefinedNames.{spelling}
use Rattle.text_values.specs.ModelValue.{Clause}
use Rattle.text_values.specs.ModelValues.{clause_of, clauses_of}
use Rattle.text_values.specs.TestValue.{Content}
use Rattle.binding_kinds.specs.declared.kinds.Kind.{Kind}
use Rattle.binding_kinds.specs.declared.kinds.Kind.TheVariants as kinds
use Rattle.binding_kinds.specs.declared.scope.Input.{Input}
use Rattle.binding_kinds.specs.Outermost.{outermost_names}
use Rattle.binding_kinds.specs.Value.{bare_item}
use Rattle.binding_graph.specs.declared.resolved.Body.{Body}
use Rattle.binding_graph.specs.declared.resolved.Code.{Code}
use Rattle.binding_graph.specs.declared.resolved.ResolvedItem.{ResolvedItem}
use Rattle.binding_graph.specs.declared.resolved.Role.{Role}
use Rattle.binding_graph.specs.declared.resolved.Role.TheVariants as roles
use Rattle.binding_graph.specs.declared.resolved.Source.{Source}
use Rattle.binding_graph.specs.declared.resolved.Source.TheVariants as sources
use Rattle.binding_graph.specs.Reach.{ItemUses, IsReached}
use Rattle.binding_kinds.specs.Faults.{names_after}
use Rattle.binding_graph.specs.Resolved.{AreResolved, IsResolvedIn, IsLabelledAs, AreLabelledAs}
use Rattle.binding_graph.specs.Trees.{SetTree, NoEvent, RelTree, RelName}
use Rattle.candidate_spaces.specs.declared.candidate.Space.{Space}
use Rattle.candidate_spaces.specs.Space.{Candidate, candidates_in}
use Rattle.base_names.specs.Candidate.{RelationIn}
use Rattle.cat_machine.specs.declared.column.Column.{Column}
use Rattle.cat_machine.specs.Executions.{events_of, EventsAt, PairsAt}
use Rattle.cat_machine.specs.Columns.{ColumnsOf}
use Rattle.cat_machine.specs.Values.{IsFor, IsMeaning}
use Rattle.from_scratch.specs.declared.cell.ItemAnswers.{ItemAnswers}
use Rattle.from_scratch.specs.Answers.{AreItemColumns, AreOrdered, HasColumns}
use Rattle.from_scratch.specs.Known.{HasAllColumns}
use Rattle.from_scratch.proofs.Knowing.{item_at}
use Rattle.why_witness.specs.Pairs as program
use Rattle.why_labels.specs.declared.label.EventPair.{EventPair}
use Rattle.why_labels.specs.declared.label.NameValues.{NameValues}
use Rattle.why_labels.specs.declared.label.PredefinedValue.{PredefinedValue}
use Rattle.why_labels.specs.declared.unions.ModelName.{ModelName}
use Rattle.why_labels.specs.declared.unions.ModelName.TheVariants as names
use Rattle.why_labels.specs.Inside.{body_at, names_in, names_in_body, names_in_item, names_inside, relation_in}
use Rattle.why_labels.specs.Labels as labels
use Rattle.why_labels.specs.Labels.{IsInnermost, NoName, Itself, Inside, RelatesIn}
use Rattle.why_labels.specs.Operands.{AreOperands, AreOperandsIn, AreOperandsOf, AreOperandsOfBody, body_in, earlier_name, is_earlier, kept_if, name_of}
use Rattle.why_forbidden.specs.Labels.{Judgement, IsBehind, IsInner, IsLabelOf, IsNamed, IsStepLabel, inner_text, item_inputs_of, names_inside_name, spelled, spelled_body, spelled_in}
use Rattle.why_forbidden.specs.Language.{IsOfLanguage}
use Rattle.why_forbidden.specs.Steps.{StepLeg, pair_of}
use Rattle.meaning.specs.Cat.{ARelation}
use Rattle.meaning.specs.Executions.{Event, Execution}
use Rattle.meaning_items.specs.Behind.{outer_bound}
use Rattle.meaning_items.specs.FunctionLaws.{AreFaultless}
use Rattle.meaning_items.specs.Slots.{candidate_value}
use Rattle.meaning_items.proofs.Growing.{columns_below}
use Rattle.meaning_executions.specs.Names.{AreNamesMeant}
use Rattle.meaning_executions.proofs.Lists.{at_right, member}
use Rattle.meaning_answers.specs.Told as told
use Rattle.meaning_answers.specs.Told.{BindsPair, NameRelates, ByLanguage, ByItem, IsLabel, OneName, TwoNames, names_seen}
use Rattle.meaning_answers.proofs.At.{IsAt, at_model}
use Rattle.meaning_answers.proofs.Carried.{event_at, language_same, binds_by_name, numbered_names}
use Rattle.meaning_answers.proofs.Checks.{map_at}
use Rattle.meaning_answers.proofs.Coded.{IsMeantBy, column_pairs}
use Rattle.meaning_answers.proofs.Inputs.{columns_at, long_before, reached_more}
use Rattle.meaning_answers.proofs.Named.{item_binds}
use Rattle.meaning_answers.proofs.Steps.{LabelsAreSaid}

recursion_at : {X : Type 0} (P : X → Type 0) (xs : List X) → AllByRecursion P xs → (i : ℕ) (d : X)
    → i < length xs → P (slice_index_or xs i d)
recursion_at P [] h i d lt = absurd (omega (arith, lt))
recursion_at P (x ∷ xs) h zero d lt = h.0
recursion_at P (x ∷ xs) h (suc i) d lt = recursion_at P xs h.1 i d (omega (arith, lt))

filtered : {X Y : Type 0} (f : X → Option Y) (P : Y → Type 0)
    → ((x : X) (y : Y) → f x ≡ Some y → P y) → (xs : List X) → AllByRecursion P (filter_map f xs)
filtered f P to [] = tt
filtered {X} {Y} f P to (x ∷ xs) = by (f x) refl (filtered f P to xs)
  where
    by : (o : Option Y) → f x ≡ o → AllByRecursion P (filter_map f xs)
        → AllByRecursion P (cons_option o (filter_map f xs))
    by None e rest = rest
    by (Some y) e rest = (to x y e, rest)

-- ---- which names are looked at

module _ (resolved : List ResolvedItem) where
  -- a name of the language, or of an item that checks reach
  abbrev pub IsSeen : ModelName → Type 0
  IsSeen (names.Predefined name) = Unit {0}
  IsSeen (names.Bound input) = (input.item < length resolved) × IsReached resolved input.item

  abbrev pub AreSeen : List ModelName → Type 0
  AreSeen operands = AllByRecursion IsSeen operands

  module _ (item : ℕ) (r : ResolvedItem) (stands : slice_get resolved item ≡ Some r)
      (reached : IsReached resolved item) where
    seen_kept : (name : ModelName) → ((is_earlier item name ≡ true) → IsSeen name) → (found : ModelName)
        → kept_if (is_earlier item name) name ≡ Some found → IsSeen found
    seen_kept name to found = by (is_earlier item name) refl
      where
        by : (b : Bool) → is_earlier item name ≡ b → kept_if b name ≡ Some found → IsSeen found
        by true e h = subst IsSeen (same_Some _ _ h) (to e)
        by false e h = absurd (none-some found h)

    used : (index : ℕ) (input : Input) → slice_get r.inputs.items index ≡ Some input
        → ItemUses resolved item input.item
    used index input e = (
      r,
      stands,
      inl (member (map (λ i. i.item) r.inputs.items) index input.item
          (map_at (λ (i : Input). i.item) r.inputs.items index input e)),
    )

    seen_source : (source : Source) (found : ModelName)
        → earlier_name item r.inputs.items source ≡ Some found → IsSeen found
    seen_source (sources.Predefined name) found e =
        seen_kept (names.Predefined name) (λ h. tt) found e
    seen_source (sources.Own position) found e =
        seen_kept (names.Bound (record { item = item; position = position }))
        (λ h. (slice_get_within resolved item r stands, reached)) found e
    seen_source (sources.Input index) found e = by (slice_get r.inputs.items index) refl e
      where
        by : (o : Option Input) → slice_get r.inputs.items index ≡ o
            → option_and_then (λ name. kept_if (is_earlier item name) name) (option_map names.Bound o)
            ≡ Some found → IsSeen found
        by None at h = absurd (none-some found h)
        by (Some input) at h =
            seen_kept (names.Bound input)
            (λ before.
            let lt : input.item < item = ltb-true input.item item before in
            let within = slice_get_within resolved item r stands in
            (omega (arith, lt, within), reached_more resolved item input.item reached (used index input at)))
            found h

    pub sources_seen : (ss : List Source)
        → AreSeen (filter_map (earlier_name item r.inputs.items) ss)
    sources_seen ss = filtered (earlier_name item r.inputs.items) IsSeen seen_source ss

    pub operands_seen : (code : Code) (operands : List ModelName)
        → AreOperands item r.inputs.items code operands → AreSeen operands
    operands_seen code operands h = subst AreSeen (sym h.2) (sources_seen h.0)

  -- those that a name is a union of
  inside_seen : (name : ModelName) → IsSeen name → (operands : List ModelName)
      → AreOperandsOf resolved name operands → AreSeen operands
  inside_seen (names.Predefined name) seen operands h = subst AreSeen (sym h) tt
  inside_seen (names.Bound input) seen operands h = by (slice_get resolved input.item) refl h
    where
      body : (r : ResolvedItem) → slice_get resolved input.item ≡ Some r → (o : Option Body)
          → AreOperandsOfBody input.item r.inputs.items o operands → AreSeen operands
      body r at None e = subst AreSeen (sym e) tt
      body r at (Some b) e = operands_seen input.item r at seen.1 b.code operands e

      by : (o : Option ResolvedItem) → slice_get resolved input.item ≡ o
          → AreOperandsIn input.item input.position o operands → AreSeen operands
      by None at e = subst AreSeen (sym e) tt
      by (Some r) at e = body r at (body_in r.role input.position) e

  -- those that stand in what a name is bound to
  pub names_seen_inside : (name : ModelName) → IsSeen name → AreSeen (names_inside_name resolved name)
  names_seen_inside (names.Predefined name) seen = tt
  names_seen_inside (names.Bound input) seen = by (slice_get resolved input.item) refl
    where
      body : (r : ResolvedItem) → slice_get resolved input.item ≡ Some r → (o : Option Body)
          → AreSeen (names_in_body input.item r.inputs.items o)
      body r at None = tt
      body r at (Some b) =
          sources_seen input.item r at seen.1 (filter_map relation_in b.code.steps.items)

      by : (o : Option ResolvedItem) → slice_get resolved input.item ≡ o
          → AreSeen (names_in_item input o)
      by None at = tt
      by (Some r) at = body r at (body_at r.role input.position)

  pub innermost_seen : (P : ModelName → Type 0) (operands : List ModelName)
      (found : Option ModelName) → IsInnermost resolved P operands found → AreSeen operands
      → (name : ModelName) → found ≡ Some name → IsSeen name × P name
  innermost_seen P operands found (NoName ops none) seen name e = absurd (none-some name e)
  innermost_seen P operands found (Itself ops inside n first of rest) seen name e =
      subst (λ (x : ModelName). IsSeen x × P x) (same_Some _ _ e) (
        subst IsSeen (first.is n) (recursion_at IsSeen ops seen first.index n first.within),
        first.holds,
      )
  innermost_seen P operands found (Inside ops inside n inner first of rest) seen name e =
      innermost_seen P inside (Some inner) rest
      (inside_seen n
      (subst IsSeen (first.is n) (recursion_at IsSeen ops seen first.index n first.within)) inside of)
      name e

-- ---- what they relate

module _ (t : Content) (space : Space) (is : List Item) (resolved : List ResolvedItem)
    (faultless : AreFaultless is)
    (made : AreResolved [] [] outermost_names 0 (map bare_item is) resolved)
    (labelled : AreLabelledAs is resolved) (answers : ItemAnswers)
    (known : HasAllColumns space resolved answers) (k : ℕ) (y : Execution) (one : Candidate)
    (there : slice_get (candidates_in space.combinations.items) k ≡ Some one)
    (named : AreNamesMeant t y one) (j : Judgement) (items_are : j.items ≡ resolved)
    (bound_are : j.values.bound.now ≡ answers.columns.items)
    (language : All (IsOfLanguage space) j.values.predefined.now) where
  abbrev clauses : List Clause
  clauses = clauses_of is

  abbrev at : ℕ → Event
  at n = event_at t y one named n

  -- a name of the language
  language_pair : (v : PredefinedValue) → IsOfLanguage space v → (a b : ℕ)
      → program.HasPair v.column k a b
      → RelationIn v.name (events_of one) one.0 one.1.0 one.1.1 a b
  language_pair v h a b p =
      let value = h.values.values k one there in
      let meant : IsMeantBy (events_of one) (EventsAt (events_of one) one [] k) (PairsAt (events_of one) one [] k) NoEvent (RelName (sources.Predefined v.name)) kinds.OfRelation h.code.steps.items (ARelation (RelationIn v.name (events_of one) one.0 one.1.0 one.1.1)) =
      record { known = tt; made = h.steps; like = λ c d. (λ q. q, λ q. q) } in
      (column_pairs (events_of one) (EventsAt (events_of one) one [] k)
      (PairsAt (events_of one) one [] k) NoEvent (RelName (sources.Predefined v.name)) kinds.OfRelation
      h.code.steps.items (ARelation (RelationIn v.name (events_of one) one.0 one.1.0 one.1.1)) meant
      v.column (subst (λ (q : Kind). IsFor q v.column) h.kind h.values.suited) k value.0 value.1 value.2
      (subst
      (λ (q : Kind). IsMeaning q h.code.steps.items (events_of one)
      (EventsAt (events_of one) one [] k) (PairsAt (events_of one) one [] k) value.0 value.1) h.kind
      value.3) a b).0 p

  by_language : (name : Predefined) (pair : EventPair) → pair.candidate ≡ k
      → Any (labels.RelatesAs name pair) j.values.predefined.now
      → NameRelates t y clauses (spelling name) (at pair.from) (at pair.to)
  by_language name pair number (q, v, lt, is_v, (same, p)) =
      let h : IsOfLanguage space v = subst (IsOfLanguage space) is_v (language q v lt) in
      ByLanguage name refl
      ((language_same t y one named name pair.from pair.to).0
      (subst
      (λ (n : Predefined). RelationIn n (events_of one) one.0 one.1.0 one.1.1 pair.from pair.to) same
      (language_pair v h pair.from pair.to
      (subst (λ (i : ℕ). program.HasPair v.column i pair.from pair.to) number p))))

  -- a column of an item is that of a body
  body_of_column : (role : Role) (inputs : List (Bor Column)) (cs : List Column)
      → ColumnsOf role inputs space cs → (i : ℕ) (c : Column) → slice_get cs i ≡ Some c
      → (body : Body) × (body_at role i ≡ Some body)
  body_of_column (roles.Group recursive bodies) inputs cs h i c e =
      let within = slice_get_within cs i c e in
      let as_many : length cs ≡ length bodies.items = h.as_many in
      item_at bodies.items i (omega (arith, within, as_many))
  body_of_column (roles.Check check) inputs cs h i c e =
      absurd (none-some c (ap (λ (xs : List Column). slice_get xs i) (sym h) ∙ e))
  body_of_column roles.Silent inputs cs h i c e =
      absurd (none-some c (ap (λ (xs : List Column). slice_get xs i) (sym h) ∙ e))

  -- a name that an item binds
  item_pair : (input : Input) (r : ResolvedItem) → slice_get resolved input.item ≡ Some r
      → IsReached resolved input.item → (column : Column) → (v : _)
      → slice_get answers.columns.items input.item ≡ Some v
      → slice_get v.items input.position ≡ Some column → (a b : ℕ)
      → program.HasPair column k a b
      → NameRelates t y clauses (spelled_body (body_at r.role input.position)) (at a) (at b)
  item_pair input r stands reached column v at_item at_place a b p =
      let within : input.item < length resolved = slice_get_within resolved input.item r stands in
      let whole : AreItemColumns space (reverse resolved) input.item v.items =
      subst (λ w. AreItemColumns space (reverse resolved) input.item w.items)
      (get_or_from_slice_get answers.columns.items input.item v v at_item)
      (known input.item within reached v) in
      let long : length (reverse (take input.item resolved)) ≡ input.item =
      long_before resolved input.item (omega (arith, within)) in
      let x = at_right IsLabelledAs is resolved labelled input.item r stands in
      let state : IsAt space k one (outer_bound (candidate_value one)) [] is resolved input.item x.0 =
      at_model space k one there is resolved faultless made labelled input.item x.0 x.1 in
      let same : state.item ≡ r = same_Some _ _ (sym state.there ∙ stands) in
      let has : HasColumns space (λ i ds. AreItemColumns space (reverse (take input.item resolved)) i ds) r v.items =
      own_columns (columns_at space resolved input.item r stands v.items whole) long in
      let body = body_of_column r.role has.0 v.items has.2 input.position column at_place in
      subst (λ (o : Option Body). NameRelates t y clauses (spelled_body o) (at a) (at b)) (sym body.1)
      (ByItem input.item (clause_of x.0) (map_at clause_of is input.item x.0 x.1)
      (binds_by_name t y one named clauses input.item (clause_of x.0) body.0.name a b
      (item_binds space k one there state.senses state.usages state.names
      (numbered_names t y one named clauses input.item) (reverse (take input.item resolved) ++ [])
      state.state state.number x.0 r
      state.none
      (subst
      (λ (z : ResolvedItem). IsResolvedIn state.senses state.usages state.names
      (names_after state.senses state.names state.number (bare_item x.0)) (length state.names)
      (bare_item x.0) z) same state.made)
      x.2 v.items
      (subst
      (λ (rs : List ResolvedItem). HasColumns space (λ i ds. AreItemColumns space rs i ds) r v.items)
      (sym (append-nil (reverse (take input.item resolved)))) has)
      input.position column at_place body.0 body.1 a b p)))
    where
      own_columns : AreItemColumns space (r ∷ reverse (take input.item resolved)) input.item v.items
          → length (reverse (take input.item resolved)) ≡ input.item
          → HasColumns space (λ i ds. AreItemColumns space (reverse (take input.item resolved)) i ds)
          r v.items
      own_columns (inl h) long = h.1
      own_columns (inr h) long =
          absurd
          (let lt = columns_below space (reverse (take input.item resolved)) input.item v.items h in
          omega (arith, lt, long))

  bound_pair : (input : Input) → IsSeen resolved (names.Bound input) → (pair : EventPair)
      → pair.candidate ≡ k → RelatesIn (labels.bound_value j.values input) pair
      → NameRelates t y clauses (spelled resolved (names.Bound input)) (at pair.from) (at pair.to)
  bound_pair input seen pair number p =
      let r = item_at resolved input.item seen.0 in
      subst
      (λ (o : Option ResolvedItem). NameRelates t y clauses (spelled_in input.position o) (at pair.from) (at pair.to))
      (sym r.1) (by r.0 r.1 (slice_get j.values.bound.now input.item) refl p)
    where
      of : (r : ResolvedItem) → slice_get resolved input.item ≡ Some r → (v : Vec Column Global)
          → slice_get j.values.bound.now input.item ≡ Some v → (o : Option Column)
          → slice_get v.items input.position ≡ o → RelatesIn o pair
          → NameRelates t y clauses (spelled_body (body_at r.role input.position)) (at pair.from)
          (at pair.to)
      of r stands v at_item None at_place q = absurd q
      of r stands v at_item (Some column) at_place q =
          item_pair input r stands seen.1 column v
          (subst (λ (cs : List (Vec Column Global)). slice_get cs input.item ≡ Some v) bound_are at_item)
          at_place pair.from pair.to
          (subst (λ (i : ℕ). program.HasPair column i pair.from pair.to) number q)

      by : (r : ResolvedItem) → slice_get resolved input.item ≡ Some r
          → (o : Option (Vec Column Global)) → slice_get j.values.bound.now input.item ≡ o
          → RelatesIn (option_and_then (λ columns. slice_get columns.items input.position) o) pair
          → NameRelates t y clauses (spelled_body (body_at r.role input.position)) (at pair.from)
          (at pair.to)
      by r stands None at_item q = absurd q
      by r stands (Some v) at_item q =
          of r stands v at_item (slice_get v.items input.position) refl q

  name_said : (name : ModelName) → IsSeen resolved name → (pair : EventPair) → pair.candidate ≡ k
      → labels.Relates j.values pair name
      → NameRelates t y clauses (spelled resolved name) (at pair.from) (at pair.to)
  name_said (names.Predefined name) seen pair number p = by_language name pair number p
  name_said (names.Bound input) seen pair number p = bound_pair input seen pair number p

  -- ---- labels

  module _ (item : ℕ) (r : ResolvedItem) (stands : slice_get resolved item ≡ Some r)
      (reached : IsReached resolved item) (leg : StepLeg) where
    abbrev Says : List ℕ → Type 0
    Says text = IsLabel t y clauses (at leg.from) (at leg.to) text

    plain_said : (name : ModelName) → IsSeen resolved name
        → labels.Relates j.values (pair_of k leg) name → (behind : List ℕ) → behind ≡ []
        → Says (spelled resolved name ++ behind)
    plain_said name seen p behind none =
        subst (λ (xs : List ℕ). Says (spelled resolved name ++ xs)) (sym none)
        (subst Says (sym (append-nil (spelled resolved name)))
        (OneName (spelled resolved name) (name_said name seen (pair_of k leg) refl p)))

    behind_said : (deep : Bool) (name : ModelName) → IsSeen resolved name
        → labels.Relates j.values (pair_of k leg) name → (behind : List ℕ)
        → IsBehind deep resolved j.values (pair_of k leg) name behind
        → Says (spelled resolved name ++ behind)
    behind_said false name seen p behind none = plain_said name seen p behind none
    behind_said true name seen p behind h = by h.found h.innermost h.told
      where
        by : (o : Option ModelName)
            → IsInnermost resolved (labels.Relates j.values (pair_of k leg)) (names_inside_name resolved name) o
            → behind ≡ inner_text resolved o → Says (spelled resolved name ++ behind)
        by None innermost text = plain_said name seen p behind text
        by (Some inner) innermost text =
            let q = innermost_seen resolved (labels.Relates j.values (pair_of k leg)) (names_inside_name resolved name) (Some inner) innermost (names_seen_inside resolved name seen) inner refl in
            subst (λ (xs : List ℕ). Says (spelled resolved name ++ xs)) (sym text)
            (TwoNames (spelled resolved name) (spelled resolved inner)
            (name_said name seen (pair_of k leg) refl p)
            (name_said inner q.0 (pair_of k leg) refl q.1))

    found_said : (operands : List ModelName) → AreSeen resolved operands → (o : Option ModelName)
        → IsInnermost resolved (labels.Relates j.values (pair_of k leg)) operands o
        → (text : List ℕ) → IsLabelOf (record j { items = resolved }) (pair_of k leg) o text
        → Says text
    found_said operands seen None innermost text none = subst Says (sym none) told.NoName
    found_said operands seen (Some name) innermost text h =
        let q = innermost_seen resolved (labels.Relates j.values (pair_of k leg)) operands (Some name) innermost seen name refl in
        subst Says (sym h.whole) (behind_said j.is_deep name q.0 q.1 h.behind h.told)

  pub label_said : (item : ℕ) (r : ResolvedItem) → slice_get resolved item ≡ Some r
      → IsReached resolved item → LabelsAreSaid t y one named clauses j item k
  label_said item r stands reached leg text first second h =
      let own : IsStepLabel (record j { items = resolved }) item leg.code (pair_of k leg) text =
      subst
      (λ (xs : List ResolvedItem). IsStepLabel (record j { items = xs }) item leg.code (pair_of k leg) text)
      items_are h in
      let operands : AreOperands item r.inputs.items leg.code own.operands =
      subst
      (λ (o : Option ResolvedItem). AreOperands item (item_inputs_of o) leg.code own.operands) stands
      own.united in
      found_said item r stands reached leg own.operands
      (operands_seen resolved item r stands reached leg.code own.operands operands) own.found
      own.innermost text own.told
