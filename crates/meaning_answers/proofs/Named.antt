-- What the names of an item stand for: where a column of it relates two events, the item binds the
-- name to a relation that does.
use Rattle.std.proofs.Common.{ℕ, zero, suc, ◌≡◌, ◌<◌, ◌+◌, ◌↔◌, ◌⊎◌, inl, inr, List, [], ◌∷◌, length, map, Bool, true, false, Contains, Option, Some, None, refl, sym, ap, subst, ◌∙◌, arith}
use Rattle.std.specs.Prelude.{slice_get, slice_index_or}
use Rattle.std.proofs.lemmas.Option.{same_Some, none-some}
use denote.Ref.{Bor}
use Rattle.text_values.specs.declared.model.Binding as code_binding
use Rattle.text_values.specs.declared.model.Item.{Item}
use Rattle.text_values.specs.declared.model.Item.TheVariants as items
use Rattle.text_values.specs.ModelValue.{Term, Clause, Binding}
use Rattle.text_values.specs.ModelValues.{term_of, binding_of, clause_of}
use Rattle.bit_rows.specs.Relation.{Relation, Events, Has, no_slot}
use Rattle.binding_kinds.specs.declared.kinds.Kind.{Kind}
use Rattle.binding_kinds.specs.declared.kinds.Kind.TheVariants as kinds
use Rattle.binding_kinds.specs.declared.scope.Input.{Input}
use Rattle.binding_kinds.specs.declared.scope.Used.{Used}
use Rattle.binding_kinds.specs.Value.{Naming, Group, bound_value_of, bare_item}
use Rattle.binding_kinds.specs.Faults.{with_own, names_after}
use Rattle.binding_kinds.specs.First.{first_of_item, first_in, let_fault}
use Rattle.binding_kinds.specs.Fits.{IsKnown}
use Rattle.binding_kinds.specs.Functions.{formula_in}
use Rattle.binding_kinds.specs.Senses.{Sense, kind_in, term_fault}
use Rattle.binding_kinds.specs.Verdict.{is_of_set}
use Rattle.binding_kinds.proofs.Fitted.{fit, fit_known, known_own}
use Rattle.binding_graph.specs.declared.resolved.Body.{Body}
use Rattle.binding_graph.specs.declared.resolved.ResolvedItem.{ResolvedItem}
use Rattle.binding_graph.specs.declared.resolved.Role.{Role}
use Rattle.binding_graph.specs.declared.resolved.Role.TheVariants as roles
use Rattle.binding_graph.specs.Inputs.{inputs_of}
use Rattle.binding_graph.specs.Meaning.{set_tree, rel_tree}
use Rattle.binding_graph.specs.Resolved.{AreBodies, IsGroupRole, IsResolvedIn, IsLabelled, IsLabelledAs}
use Rattle.binding_graph.specs.Trees.{RelTree}
use Rattle.binding_graph.specs.Usages.{Usage, with_values, with_all_values}
use Rattle.candidate_spaces.specs.declared.candidate.Space.{Space}
use Rattle.candidate_spaces.specs.Space.{Candidate, candidates_in}
use Rattle.cat_machine.specs.declared.column.Column.{Column}
use Rattle.cat_machine.specs.declared.column.Column.TheVariants as columns
use Rattle.cat_machine.specs.Columns.{HasColumnValue, AreGroupColumns, ColumnsOf}
use Rattle.cat_machine.specs.Executions.{events_of, EventsAt, PairsAt}
use Rattle.cat_machine.specs.Named.{ColumnEvents, ColumnPairs, PairsFound}
use Rattle.cat_machine.specs.Rising.{AreCodes}
use Rattle.cat_machine.specs.Values.{IsFor, IsMeaning}
use Rattle.from_scratch.specs.Answers.{AreItemColumns, HasColumns, AreLeast, LeastOf, AreNamed}
use Rattle.why_witness.specs.Pairs as program
use Rattle.why_labels.specs.Inside.{body_at}
use Rattle.meaning.specs.Names.{Name}
use Rattle.meaning.specs.Sets.{Set}
use Rattle.meaning.specs.Cat.{Meaning, ASet, ARelation, Nothing, Names, Least, HasPair, meaning_of}
use Rattle.meaning_items.proofs.Applying.{none_first}
use Rattle.meaning_items.specs.Alike.{IsAs}
use Rattle.meaning_items.specs.Groups.{name_at, term_at}
use Rattle.meaning_items.proofs.Own.{AreFaultless, faultless_group}
use Rattle.meaning_items.proofs.Growing.{Grows, usages_grown}
use Rattle.meaning_items.proofs.Naming.{AreUsedNames, AreNamedUsages, values_named}
use Rattle.meaning_items.proofs.Bodies.{used_at, at_extends, at_covered, code_at, as_many_bodies, column_at, used_as, known_kind}
use Rattle.meaning_items.proofs.Recursive.{own_grows, own_column}
use Rattle.meaning_items.proofs.State.{IsState}
use Rattle.meaning_answers.specs.Told.{BindsPair}
use Rattle.meaning_answers.proofs.Coded.{IsMeantBy, column_pairs}

-- ---- groups

-- the names that the bodies of a group use
group_named : (us : List Usage) (names : List Naming) (from : ℕ) → AreNamedUsages names us
    → (bs : List code_binding.Binding) (vs : List Used) → AreUsedNames names vs
    → AreUsedNames names (with_all_values us names from (map bound_value_of bs) vs)
group_named us names from closed [] vs h = h
group_named us names from closed (b ∷ bs) vs h =
    group_named us names from closed bs (with_values us names [] from (term_of b.body) vs)
    (values_named us names [] from closed (term_of b.body) vs h)

-- the bodies of a group that is not recursive have no fault
bodies_fine : (ss : List Sense) (names : List Naming) (from : ℕ) (earlier : List Name)
    (bs : List code_binding.Binding)
    → first_in ss names from false earlier (map bound_value_of bs) ≡ None → (j : ℕ) → j < length bs
    → term_fault ss names from false (term_at (map binding_of bs) j) ≡ None
bodies_fine ss names from earlier [] none j lt = absurd (omega (arith, lt))
bodies_fine ss names from earlier (b ∷ bs) none zero lt =
    let one = none_first (let_fault ss names false earlier (bound_value_of b)) _ none in
    (none_first (term_fault ss names from false (term_of b.body)) _ one.1).0
bodies_fine ss names from earlier (b ∷ bs) none (suc j) lt =
    let one = none_first (let_fault ss names false earlier (bound_value_of b)) _ none in
    let two = none_first (term_fault ss names from false (term_of b.body)) _ one.1 in
    bodies_fine ss names from (b.name ∷ earlier) bs two.1 j (omega (arith, lt))

known_relation : (q : Kind) → IsKnown q → is_of_set q ≡ false → q ≡ kinds.OfRelation
known_relation kinds.OfSet known off = absurd (let f : true ≡ false = off in cc)
known_relation kinds.OfRelation known off = refl
known_relation kinds.OfAny known off = absurd known

binding_there : (bs : List code_binding.Binding) (j : ℕ) → j < length bs
    → Contains (map binding_of bs) (name_at (map binding_of bs) j, term_at (map binding_of bs) j)
binding_there [] j lt = absurd (omega (arith, lt))
binding_there (b ∷ bs) zero lt = (0, omega arith, refl)
binding_there (b ∷ bs) (suc j) lt =
    let rest = binding_there bs j (omega (arith, lt)) in
    let less = rest.1 in (suc rest.0, omega (arith, less), rest.2)

-- the body at a position has the name of the binding there
bodies_named : (ss : List Sense) (us : List Usage) (names : List Naming) (from : ℕ)
    (bs : List code_binding.Binding) (vs : List Used) (bodies : List Body)
    → AreBodies ss us names from vs (map bound_value_of bs) bodies → (j : ℕ) (b : Body)
    → slice_get bodies j ≡ Some b → (j < length bs) × (b.name ≡ name_at (map binding_of bs) j)
bodies_named ss us names from [] vs [] h j b e = absurd (let f : None ≡ Some b = e in cc)
bodies_named ss us names from [] vs (r ∷ rs) h j b e = absurd h
bodies_named ss us names from (x ∷ bs) vs [] h j b e = absurd h
bodies_named ss us names from (x ∷ bs) vs (r ∷ rs) h zero b e =
    (omega arith, ap (λ (y : Body). y.name) (sym (same_Some _ _ e)) ∙ h.0)
bodies_named ss us names from (x ∷ bs) vs (r ∷ rs) h (suc j) b e =
    let rest = bodies_named ss us names from bs (with_values us names [] from (term_of x.body) vs) rs h.2 j b e in
    let lt = rest.0 in (omega (arith, lt), rest.1)

-- the pairs of a column, by the relation that it has
found_pair : (m : Meaning ℕ) (column : Column) (k n : ℕ) (s : Events) (r : Relation)
    → IsFor kinds.OfRelation column → HasColumnValue column k s r → r.count ≡ n
    → IsAs kinds.OfRelation m (ColumnEvents column k n) (ColumnPairs column k n) → (a b : ℕ)
    → program.HasPair column k a b → HasPair m a b
found_pair m (columns.Sets values) k n s r suits at count like a b p = absurd p
found_pair (ARelation Q) (columns.Relations values) k n s r suits at count like a b (x, there, has) =
    let same : x ≡ r = same_Some _ _ (sym there ∙ at) in
    (like a b).1
    (subst (λ (o : Option Relation). PairsFound o n a b) (sym there)
    (ap (λ (y : Relation). y.count) same ∙ count, has))
found_pair (ASet S) (columns.Relations values) k n s r suits at count like a b p = absurd like
found_pair Nothing (columns.Relations values) k n s r suits at count like a b p = absurd like

no_body_silent : (role : Role) → role ≡ roles.Silent → (i : ℕ) (x : Body) → body_at role i ≡ Some x
    → ⊥
no_body_silent (roles.Group recursive bodies) e i x h = cc
no_body_silent (roles.Check check) e i x h = cc
no_body_silent roles.Silent e i x h = none-some x h

no_body_check : (negated : Bool) (flag : Option (List ℕ)) (role : Role)
    → IsLabelled negated flag role → (i : ℕ) (x : Body) → body_at role i ≡ Some x → ⊥
no_body_check negated flag (roles.Group recursive bodies) h i x e = h
no_body_check negated flag (roles.Check check) h i x e = none-some x e
no_body_check negated flag roles.Silent h i x e = h

body_there : (ss : List Sense) (usages : List Usage) (names : List Naming) (from : ℕ) (q : Bool)
    (bs : List code_binding.Binding) (role : Role)
    → IsGroupRole ss usages names from q (map bound_value_of bs) role → (i : ℕ) (x : Body)
    → body_at role i ≡ Some x → (i < length bs) × (x.name ≡ name_at (map binding_of bs) i)
body_there ss usages names from q bs (roles.Group recursive bodies) h i x e =
    bodies_named ss usages names from bs [] bodies.items h.1 i x e
body_there ss usages names from q bs (roles.Check check) h i x e = absurd h
body_there ss usages names from q bs roles.Silent h i x e = absurd h

codes_long : (trees : List RelTree) (bodies : List Body) → AreCodes trees bodies
    → length trees ≡ length bodies
codes_long [] [] h = refl
codes_long [] (b ∷ bs) h = absurd h
codes_long (t ∷ ts) [] h = absurd h
codes_long (t ∷ ts) (b ∷ bs) h = ap suc (codes_long ts bs h.1)

module _ (space : Space) (k : ℕ) (one : Candidate)
    (there : slice_get (candidates_in space.combinations.items) k ≡ Some one) (ss : List Sense)
    (usages : List Usage) (names : List Naming) (N : Names ℕ) (rs : List ResolvedItem)
    (state : IsState space k one ss usages names N rs) where
  abbrev Below : Set ℕ
  Below a = a < events_of one

  abbrev Before : ℕ → List Column → Type 0
  Before i ds = AreItemColumns space rs i ds

  -- a name of a group that is not recursive
  plain_pair : (bs : List code_binding.Binding)
      → first_in ss names (length names) false [] (map bound_value_of bs) ≡ None → (role : Role)
      → IsGroupRole ss usages names (length names) false (map bound_value_of bs) role
      → (inputs : List (Bor Column))
      → AreNamed Before (inputs_of (with_all_values usages names (length names) (map bound_value_of bs) []))
      inputs → (cs : List Column) → ColumnsOf role inputs space cs → (j : ℕ) → j < length bs
      → (c : Column) → slice_get cs j ≡ Some c → (a b : ℕ) → program.HasPair c k a b
      → HasPair (meaning_of Below N (term_at (map binding_of bs) j)) a b
  plain_pair bs none (roles.Check check) made inputs given cs columns j lt c at a b p = absurd made
  plain_pair bs none roles.Silent made inputs given cs columns j lt c at a b p = absurd made
  plain_pair bs none (roles.Group recursive bodies) made inputs given cs columns j lt c at a b p =
      let group : AreGroupColumns false bodies.items inputs (candidates_in space.combinations.items) cs =
      subst
      (λ (q : Bool). AreGroupColumns q bodies.items inputs (candidates_in space.combinations.items) cs)
      made.0 columns in
      let t : Term = term_at (map binding_of bs) j in
      let us : List Used = with_all_values usages names (length names) (map bound_value_of bs) [] in
      let used : List Used = used_at usages names (length names) [] bs j in
      let named : AreUsedNames names us = group_named usages names (length names) state.named bs [] tt in
      let code = code_at ss usages names (length names) bs [] bodies.items made.1 j lt in
      let many = as_many_bodies ss usages names (length names) bs [] bodies.items made.1 in
      let fine = bodies_fine ss names (length names) [] bs none j lt in
      let value = group.values k one there j (omega (arith, lt, many)) c code.0 in
      let seen = at_covered usages ss names (length names) state.covers bs [] j lt in
      let S = set_tree used (length names) (formula_in ss names [] t) in
      let R = rel_tree used (length names) (formula_in ss names [] t) in
      let sets = EventsAt (events_of one) one inputs k in
      let outer = PairsAt (events_of one) one inputs k in
      let meant : IsMeantBy (events_of one) sets outer S R (kind_in ss names t) code.0.code.steps.items (meaning_of Below N t) =
      record {
        known =
            known_kind space rs k one ss usages names N state.sound state.senses state.covers
            state.meant us named inputs given t fine;
        made = code.2.1;
        like =
            used_as space rs k one ss usages names N state.sound state.senses state.covers state.meant
            us named inputs given t fine used seen.0 seen.1
            (at_extends usages names (length names) bs [] j lt);
      } in
      let suits : IsFor (kind_in ss names t) c =
      subst (λ (q : Kind). IsFor q c) code.2.0
      (subst (λ (x : Body). IsFor x.code.kind c) (code.1 code.0)
      (subst (λ (d : Column). IsFor (slice_index_or bodies.items j code.0).code.kind d)
      (column_at cs j c at) (group.suited j (omega (arith, lt, many)) code.0 c))) in
      let means : IsMeaning (kind_in ss names t) code.0.code.steps.items (events_of one) sets outer value.0 value.1 =
      subst
      (λ (q : Kind). IsMeaning q code.0.code.steps.items (events_of one) sets outer value.0 value.1)
      code.2.0
      (subst
      (λ (x : Body). IsMeaning x.code.kind x.code.steps.items (events_of one) sets outer value.0 value.1)
      (code.1 code.0) value.3) in
      (column_pairs (events_of one) sets outer S R (kind_in ss names t) code.0.code.steps.items
      (meaning_of Below N t) meant c suits k value.0 value.1
      (subst (λ (d : Column). HasColumnValue d k value.0 value.1) (column_at cs j c at) value.2) means a
      b).0 p

  -- a name of a recursive group
  own_pair : (number : ℕ) (bs : List code_binding.Binding)
      → first_of_item ss names number (Group true (map bound_value_of bs)) ≡ None → (role : Role)
      → IsGroupRole ss usages (with_own names number 0 (map bound_value_of bs)) (length names) true
      (map bound_value_of bs) role → (inputs : List (Bor Column))
      → AreNamed Before
      (inputs_of (with_all_values usages (with_own names number 0 (map bound_value_of bs)) (length names)
      (map bound_value_of bs) [])) inputs → (cs : List Column) → ColumnsOf role inputs space cs
      → LeastOf role inputs space cs → (j : ℕ) → j < length bs → (c : Column)
      → slice_get cs j ≡ Some c → (a b : ℕ) → program.HasPair c k a b
      → Least Below N (map binding_of bs) (name_at (map binding_of bs) j) a b
  own_pair number bs none (roles.Check check) made inputs given cs columns least j lt c at a b p =
      absurd made
  own_pair number bs none roles.Silent made inputs given cs columns least j lt c at a b p =
      absurd made
  own_pair number bs none (roles.Group recursive bodies) made inputs given cs columns least j lt c at a b p =
      let own : List Naming = with_own names number 0 (map bound_value_of bs) in
      let group : AreGroupColumns true bodies.items inputs (candidates_in space.combinations.items) cs =
      subst
      (λ (q : Bool). AreGroupColumns q bodies.items inputs (candidates_in space.combinations.items) cs)
      made.0 columns in
      let solved : AreLeast true bodies.items inputs (candidates_in space.combinations.items) cs =
      subst
      (λ (q : Bool). AreLeast q bodies.items inputs (candidates_in space.combinations.items) cs)
      made.0 least in
      let values = solved.2 k one there in
      let fine : AreFaultless ss own (length names) [] bs =
      faultless_group ss own (length names) [] bs none in
      let kind : (i : ℕ) → i < length bs → kind_in ss own (term_at (map binding_of bs) i) ≡ kinds.OfRelation =
      λ i below. known_relation (kind_in ss own (term_at (map binding_of bs) i))
      (fit_known ss own (term_at (map binding_of bs) i) state.sound.sound
      (fit ss own (length names) false (term_at (map binding_of bs) i)
      (known_own names number 0 (map bound_value_of bs) state.sound.known) (fine.no_fault i below)))
      (fine.no_set i below) in
      let like = own_column space rs k one ss usages names N state.sound state.senses state.covers state.meant
      number bs none (with_all_values usages own (length names) (map bound_value_of bs) [])
      (group_named usages own (length names)
      (usages_grown names own (own_grows number 0 (map bound_value_of bs) names) usages state.named) bs [] tt)
      inputs given refl bodies.items made.1 kind solved.0 solved.1 cs group.suited values.0 values.1
      values.2 j lt c at in
      let code = code_at ss usages own (length names) bs [] bodies.items made.1 j lt in
      let many = as_many_bodies ss usages own (length names) bs [] bodies.items made.1 in
      let trees_long : length solved.0 ≡ length bodies.items = codes_long solved.0 bodies.items solved.1 in
      let as_long = values.1.as_many in
      let suits : IsFor kinds.OfRelation c =
      subst (λ (q : Kind). IsFor q c) (code.2.0 ∙ kind j lt)
      (subst (λ (x : Body). IsFor x.code.kind c) (code.1 code.0)
      (subst (λ (d : Column). IsFor (slice_index_or bodies.items j code.0).code.kind d)
      (column_at cs j c at) (group.suited j (omega (arith, lt, many)) code.0 c))) in
      let value = values.2 j (omega (arith, lt, many)) c in
      found_pair
      (ARelation (Least Below N (map binding_of bs) (name_at (map binding_of bs) j))) c k (events_of one)
      value.0 (slice_index_or values.0 j no_slot) suits
      (subst (λ (d : Column). HasColumnValue d k value.0 (slice_index_or values.0 j no_slot))
      (column_at cs j c at) value.1)
      (values.1.on j (omega (arith, lt, many, trees_long, as_long))).0 like a b p

  -- the item binds the name of each of its columns
  pub item_binds : (number : ℕ) (x : Item) (r : ResolvedItem)
      → first_of_item ss names number (bare_item x) ≡ None
      → IsResolvedIn ss usages names (names_after ss names number (bare_item x)) (length names)
      (bare_item x) r → IsLabelledAs x r → (cs : List Column) → HasColumns space Before r cs
      → (j : ℕ) (c : Column) → slice_get cs j ≡ Some c → (body : Body)
      → body_at r.role j ≡ Some body → (a b : ℕ) → program.HasPair c k a b
      → BindsPair Below N (clause_of x) body.name a b
  item_binds number (items.Let true group) r none made labelled cs has j c at body is a b p =
      let bs : List code_binding.Binding = group.items in
      let own : List Naming = with_own names number 0 (map bound_value_of bs) in
      let given = subst (λ (ns : List Input). AreNamed Before ns has.0) made.1.inputs has.1 in
      let here = body_there ss usages own (length names) true bs r.role made.0 j body is in
      subst (λ (n : Name). BindsPair Below N (clause_of (items.Let true group)) n a b) (sym here.1) (
        term_at (map binding_of bs) j,
        binding_there bs j here.0,
        own_pair number bs none r.role made.0 has.0 given cs has.2 has.3 j here.0 c at a b p,
      )
  item_binds number (items.Let false group) r none made labelled cs has j c at body is a b p =
      let bs : List code_binding.Binding = group.items in
      let given = subst (λ (ns : List Input). AreNamed Before ns has.0) made.1.inputs has.1 in
      let here = body_there ss usages names (length names) false bs r.role made.0 j body is in
      subst (λ (n : Name). BindsPair Below N (clause_of (items.Let false group)) n a b) (sym here.1) (
        term_at (map binding_of bs) j,
        binding_there bs j here.0,
        plain_pair bs none r.role made.0 has.0 given cs has.2 j here.0 c at a b p,
      )
  item_binds number (items.Function f ps t) r none made labelled cs has j c at body is a b p =
      absurd (no_body_silent r.role made.0 j body is)
  item_binds number (items.Check check label) r none made labelled cs has j c at body is a b p =
      absurd (no_body_check check.negated None r.role labelled j body is)
  item_binds number (items.Flag check label) r none made labelled cs has j c at body is a b p =
      absurd (no_body_check check.negated (Some label) r.role labelled j body is)
  item_binds number (items.Show hidden list) r none made labelled cs has j c at body is a b p =
      absurd (no_body_silent r.role made.0 j body is)
  item_binds number (items.Include path) r none made labelled cs has j c at body is a b p =
      absurd (no_body_silent r.role made.0 j body is)
