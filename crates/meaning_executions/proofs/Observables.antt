-- What the observables of a test hold where a candidate ends, and its execution by name.
use Rattle.std.proofs.Common.{ℕ, zero, suc, ◌≡◌, ◌<◌, ◌^◌, ◌↔◌, Bool, true, false, IsTrue, List, [], ◌∷◌, ◌++◌, flat_map, length, Contains, get_or, Option, Some, None, option_map, refl, sym, ap, subst, ◌∙◌, arith, true≢false, cond, inl, inr}
use Rattle.std.specs.List.{position_or_len}
use Rattle.std.proofs.lemmas.Bool.{cases_lt}
use Rattle.std.proofs.lemmas.Bool.Decides.{Decides-ltb}
use Rattle.std.proofs.lemmas.List.Sums.{fails_before_first}
use Rattle.std.proofs.lemmas.Slice.Eq.{bytes_eq-Decides}
use Rattle.text_values.specs.declared.test.Test.{Test}
use Rattle.text_values.specs.declared.test.Place.{Place}
use Rattle.text_values.specs.declared.test.Place.TheVariants as places
use Rattle.text_values.specs.declared.test.Value as written
use Rattle.text_values.specs.declared.test.Value.TheVariants as texts
use Rattle.text_values.specs.TestValue.{Content, content_of}
use Rattle.thread_runs.specs.declared.value.Value as numbered_value
use Rattle.thread_runs.specs.declared.value.Value.TheVariants as numbers
use Rattle.candidate_spaces.specs.Space.{Shown}
use Rattle.outcome_states.specs.declared.answer.FinalValue.{FinalValue}
use Rattle.outcome_states.specs.declared.answer.FinalValue.TheVariants as finals
use Rattle.outcome_states.specs.declared.observable.Observable.{Observable}
use Rattle.outcome_states.specs.declared.observable.Observable.TheVariants as shown
use Rattle.outcome_states.specs.Meaning.{known_observable, known_value, location_of}
use Rattle.outcome_states.specs.Names.{is_name}
use Rattle.outcome_states.proofs.Observables.{none_found}
use Rattle.meaning.specs.Names.{Name, locations, locations_of_observable, locations_of_value}
use Rattle.meaning.specs.Machine.{Value, Number}
use Rattle.meaning.specs.Executions.{Execution}
use Rattle.meaning.specs.Outcome.{EndsWith}
use Rattle.meaning_executions.specs.Values as values
use Rattle.meaning_executions.specs.Values.{IsSameValue, AreOneToOne}
use Rattle.meaning_executions.proofs.Located.{rises}
use Rattle.meaning_executions.proofs.Machines.{apart, one_to_one}
use Rattle.meaning_executions.specs.Ends.{HoldsAlike}
use Rattle.meaning_executions.proofs.Holding.{all_hold}
use Rattle.meaning_laws.specs.Words.{IsTestOfWords}
use Rattle.meaning_laws.proofs.Ending.{all_words}
use Rattle.meaning_executions.specs.Satisfied.{IsShownAs}

pub are_one_to_one : (t : Content) → AreOneToOne (locations t)
are_one_to_one t = one_to_one (locations t) (apart (locations t) (rises t))

-- ---- what is known of a text

never_none : (names : List Name) (l : Name) (k : ℕ) → k < length names → get_or names k l ≡ l
    → location_of names l ≡ None → ⊥
never_none names l k lt eq none = elim (cases_lt at (length names)) [
  | inl less ↦
      let e : Some at ≡ None =
      ap (λ (b : Bool). cond b (Some at) None) (sym ((Decides-ltb at (length names)).1 less))
      ∙ none in
      cc
  | inr past ↦
      true≢false
      (sym hit ∙ fails_before_first (is_name l) names k l (omega (arith, past, lt)))
]
  where
    at : ℕ
    at = position_or_len (is_name l) names

    hit : is_name l (get_or names k l) ≡ true
    hit = (bytes_eq-Decides l (get_or names k l)).1 (sym eq)

-- the index of a name that stands among the locations
pub location_found : (names : List Name) (l : Name) → Contains names l
    → (i : ℕ) × (location_of names l ≡ Some i)
location_found names l (k, lt, eq) = by (location_of names l) refl
  where
    by : (o : Option ℕ) → location_of names l ≡ o
        → (i : ℕ) × (location_of names l ≡ Some i)
    by (Some i) found = (i, found)
    by None found = absurd (never_none names l k lt eq found)

module _ (names : List Name) where
  pub place_known : (p : Place)
      → ((l : Name) → Contains (locations_of_observable p) l → Contains names l)
      → (o : Observable) × (known_observable names p ≡ Some o)
  place_known (places.Register thread r) there = (shown.Register thread r, refl)
  place_known (places.Location l) there =
      let found : _ = location_found names l (there l (0, omega arith, refl)) in (
        shown.Location found.0,
        ap (λ (i : Option ℕ). option_map shown.Location i) found.1,
      )

  pub value_known : (v : written.Value)
      → ((l : Name) → Contains (locations_of_value v) l → Contains names l)
      → (k : FinalValue) × (known_value names v ≡ Some k)
  value_known (texts.Number n) there = (finals.Number n, refl)
  value_known (texts.Address l) there =
      let found : _ = location_found names l (there l (0, omega arith, refl)) in (
        finals.Address found.0,
        ap (λ (i : Option ℕ). option_map finals.Address i) found.1,
      )

-- ---- what observables hold

module _ (t : Test) (y : Execution) (e : Shown) (s : IsShownAs t y e) where
  abbrev content : Content
  content = content_of t

  pub holds : (p : Place) (o : Observable) → known_observable (locations content) p ≡ Some o
      → HoldsAlike content y e p o
  holds p o known =
      all_hold t s.program s.of_test s.values s.execution s.is y s.by_name s.same e s.shows p o known

  -- a number that is held has 32 bits
  pub held_small : IsTestOfWords content → (p : Place) (o : Observable)
      → (known : known_observable (locations content) p ≡ Some o) → (m : ℕ)
      → (holds p o known).value ≡ numbers.Number m → m < 2 ^ 32
  held_small words p o known m is =
      all_words content words y s.by_name p (Number m)
      (((holds p o known).by_name (Number m)).1
      (subst (λ (v : numbered_value.Value). IsSameValue (locations content) v (Number m)) (sym is)
      (values.number m)))
