-- Propositions hold at the end by name where they hold by number.
use Rattle.std.proofs.Common.{ℕ, ◌≡◌, ◌↔◌, ◌⊎◌, inl, inr, Bool, true, false, not, ◌&&◌, ◌||◌, IsTrue, List, [], ◌∷◌, ◌++◌, flat_map, Contains, Option, Some, None, refl, sym, ap, subst, ◌∙◌, true≢false}
use Rattle.std.proofs.lemmas.List.Elements.{Contains-append_left, Contains-append_right}
use Rattle.text_values.specs.declared.test.Test.{Test}
use Rattle.text_values.specs.declared.test.Place.{Place}
use Rattle.text_values.specs.declared.test.Value as written
use Rattle.text_values.specs.declared.test.Connective.{Connective}
use Rattle.text_values.specs.declared.test.Connective.TheVariants.{And, Or, Implies}
use Rattle.text_values.specs.TestValue.{Content, Formula, Constant, Holds, Not, Join, content_of}
use Rattle.candidate_spaces.specs.Space.{Shown}
use Rattle.outcome_states.specs.declared.answer.FinalValue.{FinalValue}
use Rattle.outcome_states.specs.declared.observable.Observable.{Observable}
use Rattle.outcome_states.specs.Final.{final_value, value_shown}
use Rattle.outcome_states.specs.Meaning.{is_held, is_value, joined_by, known_observable, known_value, satisfies}
use Rattle.meaning.specs.Names.{Name, is_name_before, in_order, locations, locations_of_entry, locations_of_formula, locations_of_observable, locations_of_value}
use Rattle.meaning.specs.Machine.{value_of}
use Rattle.meaning.specs.Executions.{Execution}
use Rattle.meaning.specs.Outcome.{EndsWith, Satisfies}
use Rattle.meaning.proofs.Entries.{in_order_too}
use Rattle.meaning_executions.specs.Ends.{HoldsAlike}
use Rattle.meaning_laws.specs.Words.{IsTestOfWords, IsWrittenWord, IsFormulaOfWords}
use Rattle.meaning_executions.specs.Satisfied.{IsShownAs, IsSatisfiedAlike, ConditionIsMeant}
use Rattle.meaning_executions.proofs.Values.{held_alike}
use Rattle.meaning_executions.proofs.Observables.{are_one_to_one, place_known, value_known, holds, held_small}

-- ---- operators of truth values

chained : (P Q R : Type 0) → P ↔ Q → Q ↔ R → P ↔ R
chained P Q R h g = (λ p. g.0 (h.0 p), λ r. h.1 (g.1 r))

negated : (a : Bool) (P : Type 0) → IsTrue a ↔ P → IsTrue (not a) ↔ (P → ⊥)
negated true P h = (λ e. absurd (true≢false (sym e)), λ no. absurd (no (h.0 refl)))
negated false P h = (λ e p. true≢false (sym (h.1 p)), λ no. refl)

both : (a b : Bool) (P Q : Type 0) → IsTrue a ↔ P → IsTrue b ↔ Q → IsTrue (a && b) ↔ (P × Q)
both true b P Q h g = (λ e. (h.0 refl, g.0 e), λ pq. g.1 pq.1)
both false b P Q h g = (λ e. absurd (true≢false (sym e)), λ pq. absurd (true≢false (sym (h.1 pq.0))))

either : (a b : Bool) (P Q : Type 0) → IsTrue a ↔ P → IsTrue b ↔ Q → IsTrue (a || b) ↔ (P ⊎ Q)
either true b P Q h g = (λ e. inl (h.0 refl), λ pq. refl)
either false b P Q h g = (λ e. inr (g.0 e), λ pq. second pq)
  where
    second : P ⊎ Q → IsTrue b
    second (inl p) = absurd (true≢false (sym (h.1 p)))
    second (inr q) = g.1 q

implied : (a b : Bool) (P Q : Type 0) → IsTrue a ↔ P → IsTrue b ↔ Q
    → IsTrue (not a || b) ↔ (P → Q)
implied true b P Q h g = (λ e p. g.0 e, λ f. g.1 (f (h.0 refl)))
implied false b P Q h g = (λ e p. absurd (true≢false (sym (h.1 p))), λ f. refl)

-- ---- propositions

module _ (t : Test) (words : IsTestOfWords (content_of t)) (y : Execution) (e : Shown)
    (s : IsShownAs t y e) where
  abbrev content : Content
  content = content_of t

  abbrev names : List Name
  names = locations content

  abbrev Known : List Name → Type 0
  Known ls = (l : Name) → Contains ls l → Contains names l

  atom : (p : Place) (v : written.Value) → Known (locations_of_observable p ++ locations_of_value v)
      → IsWrittenWord v
      → IsTrue (satisfies names (final_value e) (Holds p v)) ↔ EndsWith content y p (value_of v)
  atom p v known word =
      let o : _ =
      place_known names p
      (λ l c. known l (Contains-append_left (locations_of_observable p) (locations_of_value v) l c)) in
      let k : _ =
      value_known names v
      (λ l c. known l (Contains-append_right (locations_of_observable p) (locations_of_value v) l c)) in
      let alike : HoldsAlike content y e p o.0 = holds t y e s p o.0 o.1 in
      let is : is_held (final_value e) (known_observable names p) (known_value names v)
      ≡ is_value (value_shown alike.value) k.0 =
      ap (λ (x : Option Observable). is_held (final_value e) x (known_value names v)) o.1
      ∙ ap (λ (x : Option FinalValue). is_held (final_value e) (Some o.0) x) k.1
      ∙ ap (λ (f : FinalValue). is_value f k.0) alike.by_number in
      let by_name : _ = alike.by_name (value_of v) in
      let by_value : _ =
      held_alike names (are_one_to_one content) alike.value
      (held_small t y e s words p o.0 o.1) v word k.0 k.1 in
      (λ h. by_name.1 (by_value.0 (sym is ∙ h)), λ h. is ∙ by_value.1 (by_name.0 h))

  left : (a b : Formula) → Known (locations_of_formula a ++ locations_of_formula b)
      → Known (locations_of_formula a)
  left a b known l c =
      known l (Contains-append_left (locations_of_formula a) (locations_of_formula b) l c)

  right : (a b : Formula) → Known (locations_of_formula a ++ locations_of_formula b)
      → Known (locations_of_formula b)
  right a b known l c =
      known l (Contains-append_right (locations_of_formula a) (locations_of_formula b) l c)

  pub satisfied : (f : Formula) → Known (locations_of_formula f) → IsFormulaOfWords f
      → IsTrue (satisfies names (final_value e) f) ↔ Satisfies content y f
  satisfied (Constant b) known fits = (λ h. h, λ h. h)
  satisfied (Holds p v) known fits = atom p v known fits
  satisfied (Not a) known fits =
      negated (satisfies names (final_value e) a) (Satisfies content y a) (satisfied a known fits)
  satisfied (Join And a b) known fits =
      both (satisfies names (final_value e) a) (satisfies names (final_value e) b)
      (Satisfies content y a) (Satisfies content y b) (satisfied a (left a b known) fits.0)
      (satisfied b (right a b known) fits.1)
  satisfied (Join Or a b) known fits =
      either (satisfies names (final_value e) a) (satisfies names (final_value e) b)
      (Satisfies content y a) (Satisfies content y b) (satisfied a (left a b known) fits.0)
      (satisfied b (right a b known) fits.1)
  satisfied (Join Implies a b) known fits =
      implied (satisfies names (final_value e) a) (satisfies names (final_value e) b)
      (Satisfies content y a) (Satisfies content y b) (satisfied a (left a b known) fits.0)
      (satisfied b (right a b known) fits.1)

-- ---- the condition

pub in_condition : (t : Content) (l : Name) → Contains (locations_of_formula t.condition) l
    → Contains (locations t) l
in_condition t l h =
    let start : List Name = flat_map locations_of_entry t.init in
    let observed : List Name = flat_map locations_of_observable t.observed in
    in_order_too (start ++ locations_of_formula t.condition ++ observed) l
    (Contains-append_left (start ++ locations_of_formula t.condition) observed l
    (Contains-append_right start (locations_of_formula t.condition) l h))

pub all_meant : ConditionIsMeant
all_meant t words y e s =
    satisfied t words y e s (content_of t).condition (in_condition (content_of t)) words.condition
