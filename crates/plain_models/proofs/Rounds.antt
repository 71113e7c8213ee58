-- Rounds of a recursive group, in terms of the code.
use Rattle.std.proofs.Common.{◌≡◌, ℕ, suc, ◌<◌, List, [], ◌∷◌, length, map, refl, sym, ap, subst, ◌∙◌}
use Rattle.std.proofs.lemmas.List.{length-map}
use Rattle.text_values.specs.declared.model.Item.{Item}
use Rattle.text_values.specs.declared.model.Binding as code_binding
use Rattle.text_values.specs.ModelValue.{Term}
use Rattle.text_values.specs.ModelValues.{binding_of}
use Rattle.meaning.specs.Sets.{Set}
use Rattle.meaning.specs.Names.{Name}
use Rattle.meaning.specs.Cat.{Names, with_arguments, Least}
use Rattle.plain_models.specs.declared.value.Value.{Value}
use Rattle.plain_models.specs.declared.scope.Named.{Named}
use Rattle.plain_models.specs.Values.{HaveValues}
use Rattle.plain_models.specs.Scopes.{meanings_as, with_named, names_in}
use Rattle.meaning_laws.proofs.Alike.{none}
use Rattle.plain_models.proofs.Applying.{named_alike}
use Rattle.plain_models.specs.Groups.{name_of, body_of, AreRelations, AreApart, DoesGrow, HasGrown, IsRound}
use Rattle.plain_models.proofs.Solving.{AreSlots, relations_slots, AreFound, round_found, rounds_end, no_growth, extended_slots, nothing_found, room, room_falls}
use Rattle.plain_models.proofs.Stepping.{group_names, group_bodies}

-- the values of a group after some rounds
abbrev pub AreRounds : Set ℕ → Names ℕ → List code_binding.Binding → List Value → Type 0
AreRounds all N gs vs = AreSlots (map name_of gs) vs × AreFound all N (map binding_of gs) vs

abbrev own_names : List (Name × Term) → List Name
own_names group = map (λ b. b.0) group

pub rounds_begin : (all : Set ℕ) (N : Names ℕ) (gs : List code_binding.Binding) (ns : List Name)
    (vs : List Value) → ns ≡ map name_of gs → AreRelations (λ n a b. ⊥) ns vs
    → AreRounds all N gs vs
rounds_begin all N gs ns vs e h =
    let here : AreRelations (λ n a b. ⊥) (map name_of gs) vs = subst (λ (l : List Name). AreRelations (λ n a b. ⊥) l vs) e h in (
      relations_slots (λ n a b. ⊥) (map name_of gs) vs here,
      (λ c closed. nothing_found c (own_names (map binding_of gs)) vs
          (subst (λ (l : List Name). AreRelations (λ n a b. ⊥) l vs) (sym (group_names gs)) here)),
    )

slots_length : (ns : List Name) (vs : List Value) → AreSlots ns vs → length ns ≡ length vs
slots_length [] [] h = refl
slots_length [] (v ∷ vs) h = absurd h
slots_length (n ∷ ns) [] h = absurd h
slots_length (n ∷ ns) (v ∷ vs) h = ap suc (slots_length ns vs h.1)

pub rounds_length : (all : Set ℕ) (N : Names ℕ) (gs : List code_binding.Binding)
    (vs : List Value) → AreRounds all N gs vs → length gs ≡ length vs
rounds_length all N gs vs h = sym (length-map gs name_of) ∙ slots_length (map name_of gs) vs h.0

-- what the bodies mean, as the definitions have it
bodies_meant : (all : Set ℕ) (N : Names ℕ) (gs : List code_binding.Binding) (ns : List Name)
    (vs ms : List Value) → ns ≡ map name_of gs
    → HaveValues all (with_arguments ns (meanings_as vs) N) (map body_of gs) ms
    → HaveValues all (with_arguments (own_names (map binding_of gs)) (meanings_as vs) N) (map (λ b. b.1) (map binding_of gs)) ms
bodies_meant all N gs ns vs ms e h =
    subst
    (λ (l : List Name). HaveValues all (with_arguments l (meanings_as vs) N) (map (λ b. b.1) (map binding_of gs)) ms)
    (e ∙ sym (group_names gs))
    (subst (λ (l : List Term). HaveValues all (with_arguments ns (meanings_as vs) N) l ms)
    (sym (group_bodies gs)) h)

own_apart : (gs : List code_binding.Binding) (ns : List Name) → ns ≡ map name_of gs → AreApart ns
    → AreApart (own_names (map binding_of gs))
own_apart gs ns e apart = subst (λ (l : List Name). AreApart l) (e ∙ sym (group_names gs)) apart

own_slots : (gs : List code_binding.Binding) (vs : List Value) → AreSlots (map name_of gs) vs
    → AreSlots (own_names (map binding_of gs)) vs
own_slots gs vs h = subst (λ (l : List Name). AreSlots l vs) (sym (group_names gs)) h

pub rounds_next : (all : Set ℕ) (is : List Item) (outer : List Named)
    (gs : List code_binding.Binding) (ns : List Name) (vs next : List Value) → ns ≡ map name_of gs
    → AreApart ns → DoesGrow all (with_named all is outer []) (map binding_of gs)
    → AreRounds all (with_named all is outer []) gs vs
    → IsRound all (names_in all is outer ns vs) (map body_of gs) vs next
    → AreRounds all (with_named all is outer []) gs next
rounds_next all is outer gs ns vs next e apart grows before round =
    let N : Names ℕ = with_named all is outer [] in (
      extended_slots (map name_of gs) vs round.0 next before.0 round.2,
      round_found all N (named_alike all is outer [] none) (map binding_of gs) vs round.0 next
          (own_apart gs ns e apart) grows (own_slots gs vs before.0)
          (bodies_meant all N gs ns vs round.0 e round.1) round.2 before.1,
    )

pub rounds_last : (all : Set ℕ) (is : List Item) (outer : List Named)
    (gs : List code_binding.Binding) (ns : List Name) (vs next : List Value) → ns ≡ map name_of gs
    → AreApart ns → AreRounds all (with_named all is outer []) gs vs
    → IsRound all (names_in all is outer ns vs) (map body_of gs) vs next → (HasGrown vs next → ⊥)
    → AreRelations (Least all (with_named all is outer []) (map binding_of gs)) (map name_of gs) vs
rounds_last all is outer gs ns vs next e apart before round none_grown =
    let N : Names ℕ = with_named all is outer [] in
    subst (λ (l : List Name). AreRelations (Least all N (map binding_of gs)) l vs) (group_names gs)
    (rounds_end all N (named_alike all is outer [] none) (map binding_of gs) vs round.0
    (own_apart gs ns e apart) (own_slots gs vs before.0)
    (bodies_meant all N gs ns vs round.0 e round.1) (no_growth vs round.0 next round.2 none_grown)
    before.1)

pub round_falls : (all : Set ℕ) (N : Names ℕ) (ts : List Term) (vs next : List Value)
    → IsRound all N ts vs next → HasGrown vs next → room next < room vs
round_falls all N ts vs next round grown = room_falls vs round.0 next round.2 grown
