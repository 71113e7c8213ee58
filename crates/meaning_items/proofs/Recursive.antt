-- The columns of the names of a recursive group have its least solution.
use Rattle.std.proofs.Common.{ℕ, zero, suc, ◌≡◌, ◌<◌, ◌+◌, ◌↔◌, List, [], ◌∷◌, length, map, Bool, true, false, Option, Some, None, refl, ap, sym, ◌∙◌, subst, arith}
use Rattle.std.specs.Prelude.{slice_get, slice_index_or, nat_eq, if◌then◌else◌}
use Rattle.std.proofs.lemmas.Bool.{eqb-true}
use denote.Ref.{Bor}
use Rattle.text_values.specs.declared.model.Binding as code_binding
use Rattle.text_values.specs.ModelValue.{Term}
use Rattle.text_values.specs.ModelValues.{binding_of}
use Rattle.bit_rows.specs.Relation.{Relation, Events, no_slot}
use Rattle.binding_kinds.specs.declared.kinds.Kind.{Kind}
use Rattle.binding_kinds.specs.declared.kinds.Kind.TheVariants as kinds
use Rattle.binding_kinds.specs.declared.scope.Used.{Used}
use Rattle.binding_kinds.specs.Value as values
use Rattle.binding_kinds.specs.Value.{Naming, Group, bound_value_of}
use Rattle.binding_kinds.specs.Faults.{naming_at, with_own}
use Rattle.binding_kinds.specs.First.{first_of_item}
use Rattle.binding_kinds.specs.Functions.{formula_in}
use Rattle.binding_kinds.specs.Senses.{Sense, kind_in}
use Rattle.binding_graph.specs.declared.resolved.Body.{Body}
use Rattle.binding_graph.specs.declared.resolved.ResolvedItem.{ResolvedItem}
use Rattle.binding_graph.specs.declared.resolved.Source.{Source}
use Rattle.binding_graph.specs.Inputs.{inputs_of}
use Rattle.binding_graph.specs.Meaning.{set_tree, rel_tree, steps_of}
use Rattle.binding_graph.specs.Resolved.{AreBodies}
use Rattle.binding_graph.specs.Trees.{RelTree, rel_code}
use Rattle.binding_graph.specs.Usages.{Usage, with_all_values}
use Rattle.candidate_spaces.specs.declared.candidate.Space.{Space}
use Rattle.candidate_spaces.specs.Space.{Candidate}
use Rattle.cat_machine.specs.declared.column.Column.{Column}
use Rattle.cat_machine.specs.declared.column.Column.TheVariants as columns
use Rattle.cat_machine.specs.Columns.{HasColumnValue}
use Rattle.cat_machine.specs.Executions.{events_of, EventsAt, PairsAt}
use Rattle.cat_machine.specs.Least.{IsLeast, body}
use Rattle.cat_machine.specs.Named.{PairsFound, ColumnEvents, ColumnPairs}
use Rattle.cat_machine.specs.Rising.{AreCodes}
use Rattle.cat_machine.specs.Values.{IsFor}
use Rattle.from_scratch.specs.Answers.{AreItemColumns, AreNamed as AreNamedColumns}
use Rattle.meaning.specs.Cat.{ARelation, Names, Least}
use Rattle.meaning_items.specs.Formulas.{HasNames}
use Rattle.meaning_items.specs.Bound.{value_at}
use Rattle.meaning_items.proofs.Items.{AreSound}
use Rattle.meaning_items.proofs.Slots.{names_more, names_both}
use Rattle.meaning_items.specs.Alike.{IsAs, HasSource, HasOuterSources}
use Rattle.meaning_items.specs.Groups.{name_at, term_at}
use Rattle.meaning_items.specs.TreeLaws.{AreTrees}
use Rattle.meaning_items.proofs.TreeLaws.{group_least}
use Rattle.meaning_items.specs.Slots.{naming_in, AreSlotsMeant}
use Rattle.meaning_items.proofs.Bodies.{used_at, at_extends, at_covered, code_at, as_many_bodies, one_tree, column_at}
use Rattle.meaning_items.proofs.Growing.{Grows, senses_grown}
use Rattle.meaning_items.proofs.Naming.{IsNamed, naming_more, AreNamedSenses, AreUsedNames, formula_named}
use Rattle.meaning_items.proofs.Seen.{source_meant}
use Rattle.meaning_items.proofs.Used.{Extends, IsCovered, AllCover, covered}

-- ---- the names of the group stand behind those before it

pub own_grows : (item at : ℕ) (bs : List values.Bound) (names : List Naming)
    → Grows names (with_own names item at bs)
own_grows item at [] names slot n e = e
own_grows item at (b ∷ bs) names slot n e =
    own_grows item (suc at) bs (naming_at item at b kinds.OfRelation ∷ names) slot n
    (naming_more names (naming_at item at b kinds.OfRelation) slot n e)

own_older : (item at : ℕ) (bs : List values.Bound) (names : List Naming) (slot : ℕ) (n : Naming)
    → slot < length names → naming_in (with_own names item at bs) slot ≡ Some n
    → naming_in names slot ≡ Some n
own_older item at [] names slot n lt e = e
own_older item at (b ∷ bs) names slot n lt e =
    at_test (nat_eq slot (length names)) (eqb-true slot (length names))
    (own_older item (suc at) bs (naming_at item at b kinds.OfRelation ∷ names) slot n
    (omega (arith, lt)) e)
  where
    at_test : (t : Bool) → (t ≡ true → slot ≡ length names)
        → (if t then Some (naming_at item at b kinds.OfRelation) else naming_in names slot) ≡ Some n
        → naming_in names slot ≡ Some n
    at_test true same h = let s = same refl in absurd (omega (arith, s, lt))
    at_test false same h = h

-- ---- trees and values

-- the steps of each body are those of a tree
codes_at : (trees : List RelTree) (bodies : List Body) → AreCodes trees bodies
    → (length trees ≡ length bodies)
    × ((j : ℕ) → j < length bodies → (b : Body)
    → (slice_index_or bodies j b).code.steps.items ≡ rel_code (body trees j) [])
codes_at [] [] h = (refl, λ j lt b. absurd (omega (arith, lt)))
codes_at [] (b ∷ bs) h = absurd h
codes_at (t ∷ ts) [] h = absurd h
codes_at (t ∷ ts) (c ∷ cs) h =
    let rest = codes_at ts cs h.1 in (ap suc rest.0, at_index h.0 rest.1)
  where
    at_index : c.code.steps.items ≡ rel_code t []
        → ((j : ℕ) → j < length cs → (b : Body)
        → (slice_index_or cs j b).code.steps.items ≡ rel_code (body ts j) [])
        → (j : ℕ) → j < length (c ∷ cs) → (b : Body)
        → (slice_index_or (c ∷ cs) j b).code.steps.items ≡ rel_code (body (t ∷ ts) j) []
    at_index here rest zero lt b = here
    at_index here rest (suc j) lt b = rest j (omega (arith, lt)) b

value_there : (vs : List Relation) (j : ℕ) → j < length vs
    → slice_get vs j ≡ Some (slice_index_or vs j no_slot)
value_there [] j lt = absurd (omega (arith, lt))
value_there (v ∷ vs) zero lt = refl
value_there (v ∷ vs) (suc j) lt = value_there vs j (omega (arith, lt))

pairs_of : (c : Column) (k n : ℕ) (s : Events) (r : Relation) → IsFor kinds.OfRelation c
    → HasColumnValue c k s r → (a b : ℕ) → PairsFound (Some r) n a b ↔ ColumnPairs c k n a b
pairs_of (columns.Sets vs) k n s r suits there a b = absurd suits
pairs_of (columns.Relations vs) k n s r suits there a b =
    subst (λ (o : Option Relation). PairsFound (Some r) n a b ↔ PairsFound o n a b) (sym there)
    (λ h. h, λ h. h)

module _ (space : Space) (rs : List ResolvedItem) (k : ℕ) (one : Candidate) (ss : List Sense)
    (usages : List Usage) (names : List Naming) (N : Names ℕ)
    (sound : AreSound (λ a. a < events_of one) ss names N)
    (senses : AreNamedSenses names ss) (covers : AllCover usages ss)
    (meant : AreSlotsMeant space rs k one names N) (item : ℕ)
    (bs : List code_binding.Binding)
    (none : first_of_item ss names item (Group true (map bound_value_of bs)) ≡ None)
    (us : List Used) (named : AreUsedNames (with_own names item 0 (map bound_value_of bs)) us)
    (inputs : List (Bor Column))
    (given : AreNamedColumns (λ j ds. AreItemColumns space rs j ds) (inputs_of us) inputs) where
  abbrev own : List Naming
  own = with_own names item 0 (map bound_value_of bs)

  abbrev sets : Source → ℕ → Type 0
  sets = EventsAt (events_of one) one inputs k

  abbrev outer : Source → ℕ → ℕ → Type 0
  outer = PairsAt (events_of one) one inputs k

  own_senses : AreNamedSenses own ss
  own_senses = senses_grown names own (own_grows item 0 (map bound_value_of bs) names) ss senses

  abbrev used : ℕ → List Used
  used = used_at usages own (length names) [] bs

  sources_given : us ≡ with_all_values usages own (length names) (map bound_value_of bs) []
      → (j : ℕ) → j < length bs
      → HasOuterSources (value_at N) sets outer (used j) (length names)
      (formula_in ss own [] (term_at (map binding_of bs) j))
  sources_given all j lt =
      let t : Term = term_at (map binding_of bs) j in
      let prev = at_covered usages ss own (length names) covers bs [] j lt in
      let more : Extends (used j) us =
      subst (Extends (used j)) (sym all) (at_extends usages own (length names) bs [] j lt) in
      names_more (λ g. IsNamed own g × IsCovered (length names) (used j) g)
      (λ g. g.slot < length names
      → HasSource (value_at N) sets outer (used j) (length names) g)
      (λ g h below. source_meant space rs k one own (value_at N) (length names)
      (λ slot n lower there. meant slot n (own_older item 0 (map bound_value_of bs) names slot n lower there))
      us named inputs given (used j) more g h.0 h.1 below)
      (formula_in ss own [] t)
      (names_both (IsNamed own) (IsCovered (length names) (used j)) (formula_in ss own [] t)
      (formula_named ss own [] own_senses t)
      (subst (λ (ws : List Used). HasNames (IsCovered (length names) ws) (formula_in ss own [] t))
      (sym prev.1) (covered usages ss own [] (length names) covers t prev.0)))

  trees_made : (bodies : List Body)
      → AreBodies ss usages own (length names) [] (map bound_value_of bs) bodies
      → ((j : ℕ) → j < length bs → kind_in ss own (term_at (map binding_of bs) j) ≡ kinds.OfRelation)
      → (trees : List RelTree) → AreCodes trees bodies
      → AreTrees ss own (length names) used bs trees
  trees_made bodies made kind trees codes =
      let each = codes_at trees bodies codes in
      let many = as_many_bodies ss usages own (length names) bs [] bodies made in
      record {
        as_many = each.0 ∙ many;
        each = λ j lt.
            let t : Term = term_at (map binding_of bs) j in
            let code = code_at ss usages own (length names) bs [] bodies made j lt in
            one_tree (body trees j) (rel_tree (used j) (length names) (formula_in ss own [] t))
            (sym (each.1 j (omega (arith, lt, many)) code.0)
            ∙ (ap (λ (b : Body). b.code.steps.items) (code.1 code.0)
            ∙ (code.2.1
            ∙ ap (λ (q : Kind). steps_of q
            (set_tree (used j) (length names) (formula_in ss own [] t))
            (rel_tree (used j) (length names) (formula_in ss own [] t))) (kind j lt))));
      }

  pub own_column : us ≡ with_all_values usages own (length names) (map bound_value_of bs) []
      → (bodies : List Body)
      → AreBodies ss usages own (length names) [] (map bound_value_of bs) bodies
      → ((j : ℕ) → j < length bs → kind_in ss own (term_at (map binding_of bs) j) ≡ kinds.OfRelation)
      → (trees : List RelTree) → AreCodes trees bodies → (cs : List Column)
      → ((j : ℕ) → j < length bodies → (b : Body) (c : Column)
      → IsFor (slice_index_or bodies j b).code.kind (slice_index_or cs j c))
      → (vs : List Relation) → IsLeast (events_of one) sets outer trees vs
      → ((j : ℕ) → j < length bodies → (c : Column)
      → (s : Events) × HasColumnValue (slice_index_or cs j c) k s (slice_index_or vs j no_slot))
      → (j : ℕ) → j < length bs → (c : Column) → slice_get cs j ≡ Some c
      → IsAs kinds.OfRelation
      (ARelation (Least (λ a. a < events_of one) N (map binding_of bs)
      (name_at (map binding_of bs) j)))
      (ColumnEvents c k (events_of one)) (ColumnPairs c k (events_of one))
  own_column all bodies made kind trees codes cs suited vs least have j lt c there a b =
      let many = as_many_bodies ss usages own (length names) bs [] bodies made in
      let long = (codes_at trees bodies codes).0 in
      let as_long = least.as_many in
      let code = code_at ss usages own (length names) bs [] bodies made j lt in
      let value = have j (omega (arith, lt, many)) c in
      let suits : IsFor kinds.OfRelation c =
      subst (λ (q : Kind). IsFor q c) (code.2.0 ∙ kind j lt)
      (subst (λ (d : Body). IsFor d.code.kind c) (code.1 code.0)
      (subst (λ (d : Column). IsFor (slice_index_or bodies j code.0).code.kind d)
      (column_at cs j c there) (suited j (omega (arith, lt, many)) code.0 c))) in
      let pair = pairs_of c k (events_of one) value.0 (slice_index_or vs j no_slot) suits
      (subst (λ (d : Column). HasColumnValue d k value.0 (slice_index_or vs j no_slot))
      (column_at cs j c there) value.1) a b in
      let same = group_least (events_of one) ss names N sound item bs none sets outer used trees
      (trees_made bodies made kind trees codes) (sources_given all) vs least j lt a b in
      let found = value_there vs j (omega (arith, lt, many, long, as_long)) in (
        λ h. pair.0 (subst (λ (o : Option Relation). PairsFound o (events_of one) a b) found
            (same.0 h)),
        λ h. same.1 (subst (λ (o : Option Relation). PairsFound o (events_of one) a b) (sym found)
            (pair.1 h)),
      )
