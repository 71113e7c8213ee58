-- What is known where an item of a model begins: of its names, and of the item itself.
use Rattle.std.proofs.Common.{ℕ, zero, suc, ◌≡◌, ◌<◌, ◌+◌, ◌↔◌, List, [], ◌∷◌, ◌++◌, length, map, reverse, take, Some, None, refl, ap, sym, ◌∙◌, subst, arith}
use Rattle.std.specs.Prelude.{slice_get}
use Rattle.std.proofs.lemmas.List.{reverse-append, append-nil}
use Rattle.std.proofs.lemmas.Option.{same_Some}
use Rattle.text_values.specs.declared.model.Item.{Item}
use Rattle.text_values.specs.ModelValue.{Clause}
use Rattle.text_values.specs.ModelValues.{clause_of, clauses_of}
use Rattle.binding_kinds.specs.Value.{Naming, bare_item}
use Rattle.binding_kinds.specs.Faults.{names_after, senses_after}
use Rattle.binding_kinds.specs.First.{first_of_item, first}
use Rattle.binding_kinds.specs.Outermost.{outermost_names}
use Rattle.binding_kinds.specs.Senses.{Sense}
use Rattle.binding_graph.specs.declared.resolved.ResolvedItem.{ResolvedItem}
use Rattle.binding_graph.specs.Resolved.{AreResolved, IsResolvedIn, IsLabelledAs, AreLabelledAs}
use Rattle.binding_graph.specs.Usages.{Usage, usages_after}
use Rattle.candidate_spaces.specs.declared.candidate.Space.{Space}
use Rattle.candidate_spaces.specs.Space.{Candidate, candidates_in}
use Rattle.cat_machine.specs.Executions.{events_of}
use Rattle.meaning.specs.Cat as cat
use Rattle.meaning.specs.Cat.{Names}
use Rattle.meaning_items.specs.Behind.{bound_behind, outer_bound}
use Rattle.meaning_items.specs.FunctionLaws.{AreFaultless}
use Rattle.meaning_items.proofs.Applying.{none_first}
use Rattle.meaning_items.proofs.Items.{no_first}
use Rattle.meaning_items.specs.Slots.{candidate_value}
use Rattle.meaning_items.proofs.Columns.{append_one, first_state}
use Rattle.meaning_items.proofs.State.{IsState}
use Rattle.meaning_items.proofs.Steps.{item_state}

-- where the item x stands at an index of those behind the names N and the items rs
pub record IsAt (space : Space) (k : ℕ) (one : Candidate) (N : Names ℕ) (rs : List ResolvedItem)
    (is : List Item) (resolved : List ResolvedItem) (i : ℕ) (x : Item) : Type 1 where
  pub item : ResolvedItem
  pub there : slice_get resolved i ≡ Some item
  pub senses : List Sense
  pub usages : List Usage
  pub names : List Naming
  pub number : ℕ
  pub state : IsState space k one senses usages names
      (bound_behind (λ a. a < events_of one) N (take i (clauses_of is)))
      (reverse (take i resolved) ++ rs)
  pub counted : number ≡ length (reverse (take i resolved) ++ rs)
  pub none : first_of_item senses names number (bare_item x) ≡ None
  pub made : IsResolvedIn senses usages names (names_after senses names number (bare_item x))
      (length names) (bare_item x) item
  pub labelled : IsLabelledAs x item

module _ (space : Space) (k : ℕ) (one : Candidate)
    (there : slice_get (candidates_in space.combinations.items) k ≡ Some one) where
  abbrev After : Names ℕ → Item → Names ℕ
  After N y = cat.names_after (λ a. a < events_of one) N (clause_of y)

  one_before : (r : ResolvedItem) (front rs : List ResolvedItem)
      → reverse front ++ r ∷ rs ≡ reverse (r ∷ front) ++ rs
  one_before r front rs =
      sym
      (ap (λ (ys : List ResolvedItem). ys ++ rs) (reverse-append (r ∷ []) front)
      ∙ append_one (reverse front) r rs)

  at_item : (ss : List Sense) (usages : List Usage) (names : List Naming) (N : Names ℕ)
      (rs : List ResolvedItem) → IsState space k one ss usages names N rs → (number : ℕ)
      → number ≡ length rs → (is : List Item) (resolved : List ResolvedItem)
      → first ss names number (map bare_item is) ≡ None
      → AreResolved ss usages names number (map bare_item is) resolved → AreLabelledAs is resolved
      → (i : ℕ) (x : Item) → slice_get is i ≡ Some x → IsAt space k one N rs is resolved i x
  at_item ss usages names N rs state number counted [] resolved none made labelled i x e =
      absurd (let f : None ≡ Some x = e in cc)
  at_item ss usages names N rs state number counted (y ∷ is) [] none made labelled i x e =
      absurd made
  at_item ss usages names N rs state number counted (y ∷ is) (r ∷ rest) none made labelled zero x e =
      let both = none_first (first_of_item ss names number (bare_item y)) _ none in
      let here : IsAt space k one N rs (y ∷ is) (r ∷ rest) zero y = record {
        item = r;
        there = refl;
        senses = ss;
        usages = usages;
        names = names;
        number = number;
        state = state;
        counted = counted;
        none = both.0;
        made = made.0;
        labelled = labelled.0;
      } in
      subst (λ (z : Item). IsAt space k one N rs (y ∷ is) (r ∷ rest) zero z) (same_Some _ _ e) here
  at_item ss usages names N rs state number counted (y ∷ is) (r ∷ rest) none made labelled (suc i) x e =
      let both = none_first (first_of_item ss names number (bare_item y)) _ none in
      let at : IsAt space k one (After N y) (r ∷ rs) is rest i x =
      at_item (senses_after ss names (bare_item y)) (usages_after usages names number (bare_item y))
      (names_after ss names number (bare_item y)) (After N y) (r ∷ rs)
      (item_state space k one there ss usages names N rs state number counted r y both.0 made.0)
      (number + 1) (omega (arith, counted)) is rest both.1 made.1 labelled.1 i x e in
      record {
        item = at.item;
        there = at.there;
        senses = at.senses;
        usages = at.usages;
        names = at.names;
        number = at.number;
        state =
            subst
            (λ (xs : List ResolvedItem). IsState space k one at.senses at.usages at.names
            (bound_behind (λ a. a < events_of one) (After N y) (take i (clauses_of is))) xs)
            (one_before r (take i rest) rs) at.state;
        counted = at.counted ∙ ap length (one_before r (take i rest) rs);
        none = at.none;
        made = at.made;
        labelled = at.labelled;
      }

  -- the item at an index of a model without fault
  pub at_model : (is : List Item) (resolved : List ResolvedItem) → AreFaultless is
      → AreResolved [] [] outermost_names 0 (map bare_item is) resolved
      → AreLabelledAs is resolved → (i : ℕ) (x : Item) → slice_get is i ≡ Some x
      → IsAt space k one (outer_bound (candidate_value one)) [] is resolved i x
  at_model is resolved faultless made labelled i x e =
      at_item [] [] outermost_names (outer_bound (candidate_value one)) []
      (first_state space k one) 0 refl is resolved (no_first is faultless) made labelled i x e
