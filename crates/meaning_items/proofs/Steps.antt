-- One item without fault keeps what is known.
use Rattle.std.proofs.Common.{ℕ, zero, suc, ◌≡◌, ◌<◌, ◌+◌, ◌⊎◌, inl, inr, List, [], ◌∷◌, ◌++◌, length, map, Bool, true, false, Some, None, refl, ap, sym, ◌∙◌, subst, arith}
use Rattle.std.specs.Prelude.{slice_get}
use denote.Ref.{Bor}
use Rattle.text_values.specs.declared.model.Binding as code_binding
use Rattle.text_values.specs.declared.model.Item.{Item}
use Rattle.text_values.specs.declared.model.Item.TheVariants as items
use Rattle.text_values.specs.ModelValue.{Term}
use Rattle.text_values.specs.ModelValues.{term_of, binding_of, clause_of}
use Rattle.binding_kinds.specs.declared.kinds.Kind.{Kind}
use Rattle.binding_kinds.specs.declared.kinds.Kind.TheVariants as kinds
use Rattle.binding_kinds.specs.declared.scope.Binder.TheVariants as binders
use Rattle.binding_kinds.specs.declared.scope.Input.{Input}
use Rattle.binding_kinds.specs.declared.scope.Used.{Used}
use Rattle.binding_kinds.specs.Value.{Naming, Group, bound_value_of, bare_item}
use Rattle.binding_kinds.specs.Faults.{with_own, with_all, names_after, senses_after}
use Rattle.binding_kinds.specs.First.{first_of_item, first_in, let_fault}
use Rattle.binding_kinds.specs.Verdict.{is_of_set}
use Rattle.binding_kinds.specs.Fits.{IsKnown}
use Rattle.binding_kinds.specs.Senses.{Sense, kind_in, term_fault}
use Rattle.binding_kinds.proofs.Fitted.{fit, fit_known, known_own}
use Rattle.binding_graph.specs.declared.resolved.ResolvedItem.{ResolvedItem}
use Rattle.binding_graph.specs.declared.resolved.Role.{Role}
use Rattle.binding_graph.specs.declared.resolved.Role.TheVariants as roles
use Rattle.binding_graph.specs.Inputs.{inputs_of}
use Rattle.binding_graph.specs.Resolved.{IsGroupRole, IsResolvedIn}
use Rattle.binding_graph.specs.Usages.{Usage, with_values, with_all_values, usages_after}
use Rattle.candidate_spaces.specs.declared.candidate.Space.{Space}
use Rattle.candidate_spaces.specs.Space.{Candidate, candidates_in}
use Rattle.cat_machine.specs.declared.column.Column.{Column}
use Rattle.cat_machine.specs.Columns.{ColumnsOf, AreGroupColumns}
use Rattle.cat_machine.specs.Executions.{events_of}
use Rattle.cat_machine.specs.Named.{ColumnEvents, ColumnPairs}
use Rattle.from_scratch.specs.Answers.{AreItemColumns, HasColumns, LeastOf, AreLeast, AreNamed as AreNamedColumns}
use Rattle.meaning.specs.Names.{Name}
use Rattle.meaning.specs.Cat as cat
use Rattle.meaning.specs.Cat.{Meaning, ARelation, Bound, ToFunction, Names, Least, meaning_of, with_arguments}
use Rattle.meaning_items.proofs.Applying.{none_first}
use Rattle.meaning_items.proofs.Items.{item_sound}
use Rattle.meaning_items.specs.Alike.{IsAs}
use Rattle.meaning_items.specs.Groups.{name_at, term_at}
use Rattle.meaning_items.proofs.Own.{AreFaultless, faultless_group}
use Rattle.meaning_items.specs.Slots.{IsSlotMeant}
use Rattle.meaning_items.proofs.Bodies.{plain_column}
use Rattle.meaning_items.proofs.Growing.{Grows, senses_grown, usages_grown, columns_below, slots_later, slots_more}
use Rattle.meaning_items.proofs.Naming.{AreUsedNames, AreNamedUsages, values_named}
use Rattle.meaning_items.proofs.Recursive.{own_grows, own_column}
use Rattle.meaning_items.proofs.State.{IsState, all_grow, group_meant, bodies_meant, all_cover, senses_named, usages_named, one_longer}

-- the names that the bodies of a group use
group_named : (us : List Usage) (names : List Naming) (from : ℕ) → AreNamedUsages names us
    → (bs : List code_binding.Binding) (vs : List Used) → AreUsedNames names vs
    → AreUsedNames names (with_all_values us names from (map bound_value_of bs) vs)
group_named us names from closed [] vs h = h
group_named us names from closed (b ∷ bs) vs h =
    group_named us names from closed bs (with_values us names [] from (term_of b.body) vs)
    (values_named us names [] from closed (term_of b.body) vs h)

-- the bodies of a group that is not recursive have no fault
bodies_fine : (ss : List Sense) (names : List Naming) (from : ℕ) (earlier : List Name)
    (bs : List code_binding.Binding)
    → first_in ss names from false earlier (map bound_value_of bs) ≡ None → (j : ℕ) → j < length bs
    → term_fault ss names from false (term_at (map binding_of bs) j) ≡ None
bodies_fine ss names from earlier [] none j lt = absurd (omega (arith, lt))
bodies_fine ss names from earlier (b ∷ bs) none zero lt =
    let one = none_first (let_fault ss names false earlier (bound_value_of b)) _ none in
    (none_first (term_fault ss names from false (term_of b.body)) _ one.1).0
bodies_fine ss names from earlier (b ∷ bs) none (suc j) lt =
    let one = none_first (let_fault ss names false earlier (bound_value_of b)) _ none in
    let two = none_first (term_fault ss names from false (term_of b.body)) _ one.1 in
    bodies_fine ss names from (b.name ∷ earlier) bs two.1 j (omega (arith, lt))

known_relation : (q : Kind) → IsKnown q → is_of_set q ≡ false → q ≡ kinds.OfRelation
known_relation kinds.OfSet known off = absurd (let f : true ≡ false = off in cc)
known_relation kinds.OfRelation known off = refl
known_relation kinds.OfAny known off = absurd known

module _ (space : Space) (k : ℕ) (one : Candidate)
    (there : slice_get (candidates_in space.combinations.items) k ≡ Some one) (ss : List Sense)
    (usages : List Usage) (names : List Naming) (N : Names ℕ) (rs : List ResolvedItem)
    (state : IsState space k one ss usages names N rs) (item : ℕ) (counted : item ≡ length rs)
    (r : ResolvedItem) where
  -- what is so of the columns of the item is so of each column of its names
  new_slot : (K : Kind) (m : Meaning ℕ) (j : ℕ)
      → ((cs : List Column) (c : Column)
      → HasColumns space (λ i ds. AreItemColumns space rs i ds) r cs → slice_get cs j ≡ Some c
      → IsAs K m (ColumnEvents c k (events_of one)) (ColumnPairs c k (events_of one)))
      → IsSlotMeant space (r ∷ rs) k one K m
      (binders.Bound (record { item = item; position = 0 + j }))
  new_slot K m j h = (omega (arith, counted), λ cs c has at. at_item cs c has at)
    where
      at_item : (cs : List Column) (c : Column) → AreItemColumns space (r ∷ rs) item cs
          → slice_get cs (0 + j) ≡ Some c
          → IsAs K m (ColumnEvents c k (events_of one)) (ColumnPairs c k (events_of one))
      at_item cs c (inl new) at =
          let here : 0 + j ≡ j = omega arith in
          h cs c new.1 (subst (λ (p : ℕ). slice_get cs p ≡ Some c) here at)
      at_item cs c (inr old) at =
          absurd (let lt = columns_below space rs item cs old in omega (arith, lt, counted))

  -- the columns of a group that is not recursive
  plain_role : (bs : List code_binding.Binding)
      → first_in ss names (length names) false [] (map bound_value_of bs) ≡ None → (role : Role)
      → IsGroupRole ss usages names (length names) false (map bound_value_of bs) role
      → (inputs : List (Bor Column))
      → AreNamedColumns (λ i ds. AreItemColumns space rs i ds)
      (inputs_of (with_all_values usages names (length names) (map bound_value_of bs) [])) inputs
      → (cs : List Column) → ColumnsOf role inputs space cs → (j : ℕ) → j < length bs
      → (c : Column) → slice_get cs j ≡ Some c
      → IsAs (kind_in ss names (term_at (map binding_of bs) j))
      (meaning_of (λ a. a < events_of one) N (term_at (map binding_of bs) j))
      (ColumnEvents c k (events_of one)) (ColumnPairs c k (events_of one))
  plain_role bs none (roles.Group recursive bodies) made inputs given cs columns j lt c at =
      let group : AreGroupColumns false bodies.items inputs (candidates_in space.combinations.items) cs =
      subst
      (λ (b : Bool). AreGroupColumns b bodies.items inputs (candidates_in space.combinations.items) cs)
      made.0 columns in
      plain_column space rs k one ss usages names N state.sound state.senses state.covers state.meant
      (with_all_values usages names (length names) (map bound_value_of bs) [])
      (group_named usages names (length names) state.named bs [] tt) inputs given bs refl bodies.items
      made.1 cs group.suited (group.values k one there) j lt
      (bodies_fine ss names (length names) [] bs none j lt) c at
  plain_role bs none (roles.Check check) made inputs given cs columns j lt c at = absurd made
  plain_role bs none roles.Silent made inputs given cs columns j lt c at = absurd made

  -- the columns of a recursive group
  own_role : (bs : List code_binding.Binding)
      → first_of_item ss names item (Group true (map bound_value_of bs)) ≡ None → (role : Role)
      → IsGroupRole ss usages (with_own names item 0 (map bound_value_of bs)) (length names) true
      (map bound_value_of bs) role → (inputs : List (Bor Column))
      → AreNamedColumns (λ i ds. AreItemColumns space rs i ds)
      (inputs_of (with_all_values usages (with_own names item 0 (map bound_value_of bs)) (length names)
      (map bound_value_of bs) [])) inputs → (cs : List Column) → ColumnsOf role inputs space cs
      → LeastOf role inputs space cs → (j : ℕ) → j < length bs → (c : Column)
      → slice_get cs j ≡ Some c
      → IsAs kinds.OfRelation
      (ARelation (Least (λ a. a < events_of one) N (map binding_of bs)
      (name_at (map binding_of bs) j)))
      (ColumnEvents c k (events_of one)) (ColumnPairs c k (events_of one))
  own_role bs none (roles.Group recursive bodies) made inputs given cs columns least j lt c at =
      let own : List Naming = with_own names item 0 (map bound_value_of bs) in
      let group : AreGroupColumns true bodies.items inputs (candidates_in space.combinations.items) cs =
      subst
      (λ (b : Bool). AreGroupColumns b bodies.items inputs (candidates_in space.combinations.items) cs)
      made.0 columns in
      let solved : AreLeast true bodies.items inputs (candidates_in space.combinations.items) cs =
      subst
      (λ (b : Bool). AreLeast b bodies.items inputs (candidates_in space.combinations.items) cs)
      made.0 least in
      let values = solved.2 k one there in
      let fine : AreFaultless ss own (length names) [] bs =
      faultless_group ss own (length names) [] bs none in
      own_column space rs k one ss usages names N state.sound state.senses state.covers state.meant
      item bs none (with_all_values usages own (length names) (map bound_value_of bs) [])
      (group_named usages own (length names)
      (usages_grown names own (own_grows item 0 (map bound_value_of bs) names) usages state.named) bs [] tt)
      inputs given refl bodies.items made.1
      (λ i below. known_relation (kind_in ss own (term_at (map binding_of bs) i))
      (fit_known ss own (term_at (map binding_of bs) i) state.sound.sound
      (fit ss own (length names) false (term_at (map binding_of bs) i)
      (known_own names item 0 (map bound_value_of bs) state.sound.known) (fine.no_fault i below)))
      (fine.no_set i below))
      solved.0 solved.1 cs group.suited values.0 values.1 values.2 j lt c at
  own_role bs none (roles.Check check) made inputs given cs columns least j lt c at = absurd made
  own_role bs none roles.Silent made inputs given cs columns least j lt c at = absurd made

  -- nothing new is bound
  same_state : IsState space k one ss usages names N (r ∷ rs)
  same_state = record {
    sound = state.sound;
    senses = state.senses;
    covers = state.covers;
    named = state.named;
    as_many = state.as_many;
    meant = slots_later space r rs k one names N state.meant;
  }

  pub item_state : (i : Item) → first_of_item ss names item (bare_item i) ≡ None
      → IsResolvedIn ss usages names (names_after ss names item (bare_item i)) (length names)
      (bare_item i) r
      → IsState space k one (senses_after ss names (bare_item i))
      (usages_after usages names item (bare_item i)) (names_after ss names item (bare_item i))
      (cat.names_after (λ a. a < events_of one) N (clause_of i)) (r ∷ rs)
  item_state (items.Let true group) none made =
      let bs : List code_binding.Binding = group.items in
      let own : List Naming = with_own names item 0 (map bound_value_of bs) in
      let grow : Grows names own = own_grows item 0 (map bound_value_of bs) names in
      record {
        sound = item_sound (λ a. a < events_of one) ss names N state.sound item (items.Let true group) none;
        senses = senses_grown names own grow ss state.senses;
        covers = state.covers;
        named = usages_grown names own grow usages state.named;
        as_many = state.as_many;
        meant = group_meant space (r ∷ rs) k one
            (Least (λ a. a < events_of one) N (map binding_of bs)) item 0 bs names N
            state.sound.same.0 (slots_later space r rs k one names N state.meant)
            (λ j lt. new_slot kinds.OfRelation
            (ARelation (Least (λ a. a < events_of one) N (map binding_of bs)
            (name_at (map binding_of bs) j))) j
            (λ cs c has at. own_role bs none r.role made.0 has.0
            (subst (λ (is : List Input). AreNamedColumns (λ i ds. AreItemColumns space rs i ds) is has.0)
            made.1.inputs has.1) cs has.2 has.3 j lt c at));
      }
  item_state (items.Let false group) none made =
      let bs : List code_binding.Binding = group.items in
      let all : List Naming = with_all ss names names item 0 (map bound_value_of bs) in
      let grow : Grows names all = all_grow ss names item 0 bs names in
      record {
        sound = item_sound (λ a. a < events_of one) ss names N state.sound item (items.Let false group) none;
        senses = senses_grown names all grow ss state.senses;
        covers = state.covers;
        named = usages_grown names all grow usages state.named;
        as_many = state.as_many;
        meant = bodies_meant space (r ∷ rs) k one ss names N item 0 bs names N state.sound.same.0
            (slots_later space r rs k one names N state.meant)
            (λ j lt. new_slot (kind_in ss names (term_at (map binding_of bs) j))
            (meaning_of (λ a. a < events_of one) N (term_at (map binding_of bs) j)) j
            (λ cs c has at. plain_role bs none r.role made.0 has.0
            (subst (λ (is : List Input). AreNamedColumns (λ i ds. AreItemColumns space rs i ds) is has.0)
            made.1.inputs has.1) cs has.2 j lt c at));
      }
  item_state (items.Function f ps body) none made =
      let t : Term = term_of body in
      let n : Naming = record { name = f; kind = kinds.OfAny; binder = binders.Applicable (length ss) } in
      record {
        sound = item_sound (λ a. a < events_of one) ss names N state.sound item (items.Function f ps body) none;
        senses = senses_named space k one ss usages names N rs state item ps.items t n;
        covers = all_cover space k one ss usages names N rs state item ps.items t;
        named = usages_named space k one ss usages names N rs state item ps.items t n;
        as_many = one_longer usages _ ∙ (ap suc state.as_many ∙ sym (one_longer ss _));
        meant = slots_more space (r ∷ rs) k one names N state.sound.same.0
            (slots_later space r rs k one names N state.meant) n (
              f,
              ToFunction (length ps.items) (λ ms. meaning_of (λ a. a < events_of one)
                  (with_arguments ps.items ms N) t),
            ) tt;
      }
  item_state (items.Check check label) none made = same_state
  item_state (items.Flag check label) none made = same_state
  item_state (items.Show hidden shown) none made = same_state
  item_state (items.Include path) none made = same_state
