-- Behind all items each column has what the definitions bind.
use Rattle.std.proofs.Common.{ℕ, suc, ◌≡◌, ◌<◌, ◌+◌, ◌↔◌, List, [], ◌∷◌, ◌++◌, length, map, reverse, Bool, true, false, None, Some, refl, ap, sym, ◌∙◌, subst, arith}
use Rattle.std.specs.Prelude.{slice_get, if◌then◌else◌}
use Rattle.std.proofs.lemmas.List.{reverse-append, append-nil}
use Rattle.text_values.specs.declared.model.Item.{Item}
use Rattle.text_values.specs.ModelValues.{clause_of, clauses_of}
use Rattle.predefined_names.specs.declared.predefined.Predefined.{Predefined}
use Rattle.predefined_names.specs.declared.predefined.TheConstants.{PREDEFINED}
use Rattle.predefined_names.specs.PredefinedNames.{spelling, is_set}
use Rattle.binding_kinds.specs.declared.kinds.Kind.TheVariants as kinds
use Rattle.binding_kinds.specs.Value.{Naming, bare_item}
use Rattle.binding_kinds.specs.Faults.{names_after, senses_after}
use Rattle.binding_kinds.specs.First.{first_of_item, first}
use Rattle.binding_kinds.specs.Outermost.{naming_of, outermost_names}
use Rattle.binding_kinds.specs.Senses.{Sense}
use Rattle.binding_graph.specs.declared.resolved.ResolvedItem.{ResolvedItem}
use Rattle.binding_graph.specs.Resolved.{AreResolved}
use Rattle.binding_graph.specs.Usages.{Usage, usages_after}
use Rattle.candidate_spaces.specs.declared.candidate.Space.{Space}
use Rattle.candidate_spaces.specs.Space.{Candidate, candidates_in}
use Rattle.cat_machine.specs.Executions.{events_of}
use Rattle.base_names.specs.Candidate.{SetIn, RelationIn}
use Rattle.meaning_items.specs.Alike.{IsAs}
use Rattle.meaning_items.proofs.Growing.{slots_more}
use Rattle.meaning.specs.Cat as cat
use Rattle.meaning.specs.Cat.{ASet, ARelation, ToMeaning, Names, choice_of}
use Rattle.meaning.specs.Names.{Name}
use Rattle.meaning_items.specs.Behind.{namings_behind, bound_behind, outer_bound}
use Rattle.meaning_items.proofs.Applying.{none_first}
use Rattle.meaning_items.proofs.Items.{outer_sound, no_first}
use Rattle.meaning_items.specs.Slots.{candidate_value, IsSlotMeant, AreSlotsMeant}
use Rattle.meaning_items.specs.ColumnLaws.{ColumnsAreMeant}
use Rattle.meaning_items.proofs.State.{IsState}
use Rattle.meaning_items.proofs.Steps.{item_state}

pub append_one : {X : Type 0} (xs : List X) (x : X) (ys : List X)
    → (xs ++ x ∷ []) ++ ys ≡ xs ++ x ∷ ys
append_one [] x ys = refl
append_one (y ∷ xs) x ys = ap (λ zs. y ∷ zs) (append_one xs x ys)

-- ---- before the first item

predefined_as : (space : Space) (k : ℕ) (one : Candidate) (p : Predefined)
    → IsSlotMeant space [] k one (naming_of p).kind (candidate_value one p) (naming_of p).binder
predefined_as space k one p =
    either_as (is_set p) (SetIn one.0 (events_of one) p)
    (RelationIn p (events_of one) one.0 one.1.0 one.1.1)
  where
    either_as : (b : Bool) (S : ℕ → Type 0) (R : ℕ → ℕ → Type 0)
        → IsAs (if b then kinds.OfSet else kinds.OfRelation) (choice_of b (ASet S) (ARelation R)) S
        R
    either_as true S R = λ a. (λ h. h, λ h. h)
    either_as false S R = λ a b. (λ h. h, λ h. h)

abbrev predefined_bound : Candidate → List Predefined → Names ℕ
predefined_bound one ps = map (λ p. (spelling p, ToMeaning (candidate_value one p))) ps

predefined_meant : (space : Space) (k : ℕ) (one : Candidate) (ps : List Predefined)
    → (length (map naming_of ps) ≡ length (predefined_bound one ps))
    × AreSlotsMeant space [] k one (map naming_of ps) (predefined_bound one ps)
predefined_meant space k one [] =
    (refl, λ slot n e. absurd (let f : None ≡ Some n = e in cc))
predefined_meant space k one (p ∷ ps) =
    let rest = predefined_meant space k one ps in
    let first_one : Name × cat.Bound ℕ = (spelling p, ToMeaning (candidate_value one p)) in (
      ap suc rest.0,
      slots_more space [] k one (map naming_of ps) (predefined_bound one ps) rest.0 rest.1
          (naming_of p) first_one (predefined_as space k one p),
    )

pub first_state : (space : Space) (k : ℕ) (one : Candidate)
    → IsState space k one [] [] outermost_names (outer_bound (candidate_value one)) []
first_state space k one = record {
  sound = outer_sound (λ a. a < events_of one) (candidate_value one);
  senses = λ f s e. absurd (let g : None ≡ Some s = e in cc);
  covers = λ f s e. absurd (let g : None ≡ Some s = e in cc);
  named = λ f u e. absurd (let g : None ≡ Some u = e in cc);
  as_many = refl;
  meant = (predefined_meant space k one (reverse PREDEFINED)).1;
}

-- ---- item by item

items_columns : (space : Space) (k : ℕ) (one : Candidate)
    (there : slice_get (candidates_in space.combinations.items) k ≡ Some one) (ss : List Sense)
    (usages : List Usage) (names : List Naming) (N : Names ℕ) (rs : List ResolvedItem)
    → IsState space k one ss usages names N rs → (item : ℕ) → item ≡ length rs
    → (is : List Item) (resolved : List ResolvedItem)
    → first ss names item (map bare_item is) ≡ None
    → AreResolved ss usages names item (map bare_item is) resolved
    → AreSlotsMeant space (reverse resolved ++ rs) k one
    (namings_behind ss names item (map bare_item is))
    (bound_behind (λ a. a < events_of one) N (clauses_of is))
items_columns space k one there ss usages names N rs state item counted [] [] none made =
    state.meant
items_columns space k one there ss usages names N rs state item counted [] (r ∷ rest) none made =
    absurd made
items_columns space k one there ss usages names N rs state item counted (i ∷ is) [] none made =
    absurd made
items_columns space k one there ss usages names N rs state item counted (i ∷ is) (r ∷ rest) none made =
    let both = none_first (first_of_item ss names item (bare_item i)) _ none in
    subst
    (λ (xs : List ResolvedItem). AreSlotsMeant space xs k one
    (namings_behind ss names item (map bare_item (i ∷ is)))
    (bound_behind (λ a. a < events_of one) N (clauses_of (i ∷ is))))
    (sym (ap (λ (ys : List ResolvedItem). ys ++ rs) (reverse-append (r ∷ []) rest)
    ∙ append_one (reverse rest) r rs))
    (items_columns space k one there (senses_after ss names (bare_item i))
    (usages_after usages names item (bare_item i)) (names_after ss names item (bare_item i))
    (cat.names_after (λ a. a < events_of one) N (clause_of i)) (r ∷ rs)
    (item_state space k one there ss usages names N rs state item counted r i both.0 made.0)
    (item + 1) (omega (arith, counted)) is rest both.1 made.1)

pub columns_meant : (space : Space) (is : List Item) (resolved : List ResolvedItem)
    → ColumnsAreMeant space is resolved
columns_meant space is resolved faultless made k one there =
    subst
    (λ (xs : List ResolvedItem). AreSlotsMeant space xs k one
    (namings_behind [] outermost_names 0 (map bare_item is))
    (bound_behind (λ a. a < events_of one) (outer_bound (candidate_value one)) (clauses_of is)))
    (append-nil (reverse resolved))
    (items_columns space k one there [] [] outermost_names (outer_bound (candidate_value one)) []
    (first_state space k one) 0 refl is resolved (no_first is faultless) made)
