-- What the counts of an evaluation say of the kept executions.
use Rattle.std.proofs.Common.{◌≡◌, ◌↔◌, ℕ, zero, suc, List, [], ◌∷◌, IsTrue, refl, sym, subst, ◌∙◌, ap, arith, ltb-true, lt-ltb, eqb-true}
use Rattle.text_values.specs.declared.test.Quantifier.{Quantifier}
use Rattle.text_values.specs.declared.test.Quantifier.TheVariants.{Exists, NotExists, Forall}
use Rattle.text_values.specs.TestValue.{Content}
use Rattle.text_values.specs.ModelValue.{Clause}
use Rattle.meaning.specs.Sets.{Set, HasCount}
use Rattle.meaning.specs.Executions.{Execution}
use Rattle.meaning.specs.Outcome.{Evaluation, Observation, Never, Always, Sometimes, Says, Satisfies, observation_of, is_met}
use Rattle.meaning.specs.Evaluates.{IsKept, MeetsFlag}
use Rattle.meaning.specs.Laws.{IsSatisfied, IsViolated, SaysInWords}

-- a set of no members has none
none_is_empty : {X : Type 0} (S : Set X) → HasCount S 0 → (x : X) → S x → ⊥
none_is_empty S (xs, list, eq) x s =
    let there : _ = (list.exact x).1 s in
    let below : _ = there.1 in
    absurd (omega arith)

-- a set of some members has one
some_is_there : {X : Type 0} (S : Set X) (n : ℕ) → HasCount S (suc n) → (x : X) × S x
some_is_there S n ([], list, eq) = absurd (omega arith)
some_is_there S n (x ∷ xs, list, eq) = (x, (list.exact x).0 (0, omega arith, refl))

-- the observation is that word
abbrev IsNever : Observation → Type 0
IsNever Never = Unit {0}
IsNever _ = ⊥

abbrev IsAlways : Observation → Type 0
IsAlways Always = Unit {0}
IsAlways _ = ⊥

abbrev IsSometimes : Observation → Type 0
IsSometimes Sometimes = Unit {0}
IsSometimes _ = ⊥

-- the words, from whether there are positive and negative witnesses
never_is : (S T : Set Execution) (p n : ℕ) → HasCount S p → HasCount T n
    → observation_of p n ≡ Never ↔ (((x : Execution) × S x) → ⊥)
never_is S T zero n ps ns = (λ eq h. none_is_empty S ps h.0 h.1, λ none. refl)
never_is S T (suc p) zero ps ns =
    (λ eq h. subst IsNever (sym eq) tt, λ none. absurd (none (some_is_there S p ps)))
never_is S T (suc p) (suc n) ps ns =
    (λ eq h. subst IsNever (sym eq) tt, λ none. absurd (none (some_is_there S p ps)))

always_is : (S T : Set Execution) (p n : ℕ) → HasCount S p → HasCount T n
    → observation_of p n ≡ Always
    ↔ (((x : Execution) × S x) × (((x : Execution) × T x) → ⊥))
always_is S T zero n ps ns = (
  λ eq. absurd (subst IsAlways (sym eq) tt),
  λ both. absurd (none_is_empty S ps both.0.0 both.0.1),
)
always_is S T (suc p) zero ps ns =
    (λ eq. (some_is_there S p ps, λ h. none_is_empty T ns h.0 h.1), λ both. refl)
always_is S T (suc p) (suc n) ps ns = (
  λ eq. absurd (subst IsAlways (sym eq) tt),
  λ both. absurd (both.1 (some_is_there T n ns)),
)

sometimes_is : (S T : Set Execution) (p n : ℕ) → HasCount S p → HasCount T n
    → observation_of p n ≡ Sometimes ↔ (((x : Execution) × S x) × ((x : Execution) × T x))
sometimes_is S T zero n ps ns = (
  λ eq. absurd (subst IsSometimes (sym eq) tt),
  λ both. absurd (none_is_empty S ps both.0.0 both.0.1),
)
sometimes_is S T (suc p) zero ps ns = (
  λ eq. absurd (subst IsSometimes (sym eq) tt),
  λ both. absurd (none_is_empty T ns both.1.0 both.1.1),
)
sometimes_is S T (suc p) (suc n) ps ns =
    (λ eq. (some_is_there S p ps, some_is_there T n ns), λ both. refl)

-- whether the condition is met, likewise
exists_is : (S : Set Execution) (p n : ℕ) → HasCount S p
    → IsTrue (is_met Exists p n) ↔ ((x : Execution) × S x)
exists_is S zero n ps = (
  λ h. let below : _ = ltb-true 0 0 h in absurd (omega arith),
  λ h. absurd (none_is_empty S ps h.0 h.1),
)
exists_is S (suc p) n ps = (λ h. some_is_there S p ps, λ h. lt-ltb 0 (suc p) (omega arith))

not_exists_is : (S : Set Execution) (p n : ℕ) → HasCount S p
    → IsTrue (is_met NotExists p n) ↔ (((x : Execution) × S x) → ⊥)
not_exists_is S zero n ps = (λ h x. none_is_empty S ps x.0 x.1, λ h. refl)
not_exists_is S (suc p) n ps = (
  λ h. let zero_is : _ = eqb-true (suc p) 0 h in absurd (omega arith),
  λ none. absurd (none (some_is_there S p ps)),
)

forall_is : (T : Set Execution) (p n : ℕ) → HasCount T n
    → IsTrue (is_met Forall p n) ↔ (((x : Execution) × T x) → ⊥)
forall_is T p zero ns = (λ h x. none_is_empty T ns x.0 x.1, λ h. refl)
forall_is T p (suc n) ns = (
  λ h. let zero_is : _ = eqb-true (suc n) 0 h in absurd (omega arith),
  λ none. absurd (none (some_is_there T n ns)),
)

-- the kept executions that satisfy the proposition, and those that do not
abbrev Positive : Content → List Clause → Set Execution
Positive t items x = IsKept t items x × Satisfies t x t.condition

abbrev Negative : Content → List Clause → Set Execution
Negative t items x = IsKept t items x × (Satisfies t x t.condition → ⊥)

positive_is : (t : Content) (items : List Clause)
    → ((x : Execution) × Positive t items x) ↔ IsSatisfied t items
positive_is t items = (λ h. (h.0, h.1.0, h.1.1), λ h. (h.0, (h.1, h.2)))

negative_is : (t : Content) (items : List Clause)
    → ((x : Execution) × Negative t items x) ↔ IsViolated t items
negative_is t items = (λ h. (h.0, h.1.0, h.1.1), λ h. (h.0, (h.1, h.2)))

of_kind : (t : Content) (e : Evaluation) (q : Quantifier) → t.quantifier ≡ q
    → is_met t.quantifier e.positive e.negative ≡ is_met q e.positive e.negative
of_kind t e q is = ap (λ (one : Quantifier). is_met one e.positive e.negative) is

pub words_are_right : (t : Content) (items : List Clause) (e : Evaluation)
    → Says t items (IsKept t items) (MeetsFlag t items) e → SaysInWords t items e
words_are_right t items e says =
    let S : Set Execution = Positive t items in
    let T : Set Execution = Negative t items in
    let s : _ = positive_is t items in
    let v : _ = negative_is t items in
    let never : _ = never_is S T e.positive e.negative says.positive says.negative in
    let always : _ = always_is S T e.positive e.negative says.positive says.negative in
    let sometimes : _ = sometimes_is S T e.positive e.negative says.positive says.negative in
    record {
      never = (
        λ eq h. never.0 (sym says.observation ∙ eq) (s.1 h),
        λ none. says.observation ∙ never.1 (λ h. none (s.0 h)),
      );
      always = (
        λ eq. let both : _ = always.0 (sym says.observation ∙ eq) in
            (s.0 both.0, λ h. both.1 (v.1 h)),
        λ both. says.observation ∙ always.1 (s.1 both.0, λ h. both.1 (v.0 h)),
      );
      sometimes = (
        λ eq. let both : _ = sometimes.0 (sym says.observation ∙ eq) in
            (s.0 both.0, v.0 both.1),
        λ both. says.observation ∙ sometimes.1 (s.1 both.0, v.1 both.1),
      );
      exists = λ is.
          let met : _ = says.ok ∙ of_kind t e Exists is in
          let exists : _ = exists_is S e.positive e.negative says.positive in
          (λ h. s.0 (exists.0 (sym met ∙ h)), λ h. met ∙ exists.1 (s.1 h));
      not_exists = λ is.
          let met : _ = says.ok ∙ of_kind t e NotExists is in
          let none : _ = not_exists_is S e.positive e.negative says.positive in
          (λ h x. none.0 (sym met ∙ h) (s.1 x), λ no. met ∙ none.1 (λ x. no (s.0 x)));
      forall = λ is.
          let met : _ = says.ok ∙ of_kind t e Forall is in
          let none : _ = forall_is T e.positive e.negative says.negative in
          (λ h x. none.0 (sym met ∙ h) (v.1 x), λ no. met ∙ none.1 (λ x. no (v.0 x)));
    }
