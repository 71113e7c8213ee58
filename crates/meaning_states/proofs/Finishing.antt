-- The state in which an execution ends, by number and by name.
use Rattle.std.proofs.Common.{ℕ, ◌≡◌, ◌<◌, ◌^◌, List, [], ◌∷◌, map, length, get_or, Contains, Option, Some, None, option_map, refl, sym, ap, ap₂, subst, ◌∙◌}
use Rattle.std.specs.List.{AllByRecursion, AllZip}
use Rattle.std.specs.Int.{w32}
use Rattle.std.proofs.lemmas.Int.{of_z-to_z}
use Rattle.std.proofs.lemmas.List.Quantifiers.{position-Some}
use Rattle.std.proofs.lemmas.Slice.Eq.{bytes_eq-Decides}
use Rattle.text_values.specs.declared.test.Test.{Test}
use Rattle.text_values.specs.declared.test.Place.{Place}
use Rattle.text_values.specs.declared.test.Place.TheVariants as places
use Rattle.text_values.specs.TestValue.{Content, content_of}
use Rattle.thread_runs.specs.declared.value.Value as numbered_value
use Rattle.thread_runs.specs.declared.value.Value.TheVariants as numbers
use Rattle.candidate_spaces.specs.Space.{Shown}
use Rattle.outcome_states.specs.declared.answer.FinalValue.{FinalValue}
use Rattle.outcome_states.specs.declared.observable.Observable.{Observable}
use Rattle.outcome_states.specs.declared.observable.Observable.TheVariants as shown
use Rattle.outcome_states.specs.Final.{final_value, final_state, value_shown}
use Rattle.outcome_states.specs.Meaning.{known_observable, location_of}
use Rattle.outcome_states.specs.Names.{is_name}
use Rattle.meaning.specs.Names.{Name, locations}
use Rattle.meaning.specs.Machine.{Value, Number}
use Rattle.meaning.specs.Executions.{Execution}
use Rattle.meaning.specs.Outcome.{EndsWith, final_register}
use Rattle.meaning_executions.specs.Values as values
use Rattle.meaning_executions.specs.Values.{IsSameValue}
use Rattle.meaning_executions.specs.Ends.{HoldsAlike}
use Rattle.meaning_laws.specs.Words.{IsTestOfWords}
use Rattle.meaning_laws.proofs.Ending as words_end
use Rattle.meaning_executions.specs.Satisfied.{IsShownAs}
use Rattle.meaning_executions.proofs.Values.{address_is}
use Rattle.meaning_executions.proofs.Observables.{are_one_to_one, holds, held_small}
use Rattle.meaning_states.specs.ByName.{value_by_name}
use Rattle.meaning_states.proofs.Signed.{IsProper, number, address, nothing}

-- a value that is one by name too, as states have it
shown_value : (names : List Name) (v : numbered_value.Value)
    → ((m : ℕ) → v ≡ numbers.Number m → m < 2 ^ 32) → (w : Value) → IsSameValue names v w
    → IsProper names (value_shown v) × IsSameValue names v (value_by_name names (value_shown v))
shown_value names (numbers.Number m) small w h = (
  number m (small m refl),
  subst (λ (n : ℕ). IsSameValue names (numbers.Number m) (Number n))
      (sym (of_z-to_z w32 m (small m refl))) (values.number m),
)
shown_value names (numbers.Address k) small w h =
    let is : _ = address_is names h k refl in (address k is.0, values.address k is.0)
shown_value names numbers.NoValue small w h = (nothing, values.nothing)

known_location : (names : List Name) (l : Name) (o : Observable)
    → known_observable names (places.Location l) ≡ Some o → Contains names l
known_location names l o known = by (location_of names l) refl known
  where
    by : (i : Option ℕ) → location_of names l ≡ i → option_map shown.Location i ≡ Some o
        → Contains names l
    by None found h = absurd (let f : None ≡ Some o = h in cc)
    by (Some i) found h =
        let there : _ = position-Some (is_name l) names i l found in
        (i, there.0, sym ((bytes_eq-Decides l (get_or names i l)).0 there.1))

module _ (t : Test) (words : IsTestOfWords (content_of t)) where
  abbrev content : Content
  content = content_of t

  abbrev names : List Name
  names = locations content

  abbrev pub IsKnown : Place → Observable → Type 0
  IsKnown p o = known_observable names p ≡ Some o

  module _ (y : Execution) (e : Shown) (s : IsShownAs t y e) where
    some_end : (p : Place) (o : Observable) → IsKnown p o → (w : Value) × EndsWith content y p w
    some_end (places.Register thread r) o known = (final_register y thread r, refl)
    some_end (places.Location l) o known =
        words_end.all_hold content y s.by_name l (known_location names l o known)

    ended : (p : Place) (o : Observable) (known : IsKnown p o)
        → IsProper names (value_shown (holds t y e s p o known).value)
        × IsSameValue names (holds t y e s p o known).value
        (value_by_name names (value_shown (holds t y e s p o known).value))
    ended p o known =
        let some : _ = some_end p o known in
        shown_value names (holds t y e s p o known).value
        (held_small t y e s words p o known) some.0
        (((holds t y e s p o known).by_name some.0).0 some.1)

    -- an observable ends with what it shows
    own : (p : Place) (o : Observable) → IsKnown p o
        → EndsWith content y p (value_by_name names (final_value e o))
    own p o known =
        let alike : HoldsAlike content y e p o = holds t y e s p o known in
        subst (λ (f : FinalValue). EndsWith content y p (value_by_name names f))
        (sym alike.by_number)
        ((alike.by_name (value_by_name names (value_shown alike.value))).1 (ended p o known).1)

    proper : (p : Place) (o : Observable) → IsKnown p o → IsProper names (final_value e o)
    proper p o known =
        subst (λ (f : FinalValue). IsProper names f) (sym (holds t y e s p o known).by_number)
        (ended p o known).0

    pub own_state : (ps : List Place) (os : List Observable) → AllZip IsKnown ps os
        → AllZip (EndsWith content y) ps (map (value_by_name names) (final_state os e))
    own_state [] [] known = tt
    own_state [] (o ∷ os) known = absurd known
    own_state (p ∷ ps) [] known = absurd known
    own_state (p ∷ ps) (o ∷ os) known = (own p o known.0, own_state ps os known.1)

    pub proper_state : (ps : List Place) (os : List Observable) → AllZip IsKnown ps os
        → AllByRecursion (IsProper names) (final_state os e)
    proper_state [] [] known = tt
    proper_state [] (o ∷ os) known = absurd known
    proper_state (p ∷ ps) [] known = absurd known
    proper_state (p ∷ ps) (o ∷ os) known = (proper p o known.0, proper_state ps os known.1)

    -- another candidate that ends by name in the state that this one shows, shows it too
    module _ (z : Execution) (f : Shown) (r : IsShownAs t z f) where
      agree : (p : Place) (o : Observable) → IsKnown p o
          → EndsWith content z p (value_by_name names (final_value e o))
          → final_value f o ≡ final_value e o
      agree p o known ends =
          let here : HoldsAlike content y e p o = holds t y e s p o known in
          let there : HoldsAlike content z f p o = holds t z f r p o known in
          let shows : IsSameValue names there.value
          (value_by_name names (value_shown here.value)) =
          subst (λ (v : FinalValue). IsSameValue names there.value (value_by_name names v))
          here.by_number ((there.by_name (value_by_name names (final_value e o))).0 ends) in
          let one : there.value ≡ here.value =
          (are_one_to_one content).by_number there.value here.value
          (value_by_name names (value_shown here.value)) shows (ended p o known).1 in
          there.by_number ∙ ap value_shown one ∙ sym here.by_number

      pub same_state : (ps : List Place) (os : List Observable) → AllZip IsKnown ps os
          → AllZip (EndsWith content z) ps (map (value_by_name names) (final_state os e))
          → final_state os f ≡ final_state os e
      same_state [] [] known ends = refl
      same_state [] (o ∷ os) known ends = absurd known
      same_state (p ∷ ps) [] known ends = absurd known
      same_state (p ∷ ps) (o ∷ os) known ends =
          ap₂ (λ (v : FinalValue) (vs : List FinalValue). v ∷ vs) (agree p o known.0 ends.0)
          (same_state ps os known.1 ends.1)
