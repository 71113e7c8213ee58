-- An expression without fault means what it means with the functions that it applies put in.
use Rattle.std.proofs.Common.{ℕ, ◌≡◌, ◌<◌, List, [], length, false, Option, Some, None, refl, subst}
use Rattle.text_values.specs.ModelValue.{Term}
use Rattle.binding_kinds.specs.declared.fault.ModelFault.{ModelFault}
use Rattle.binding_kinds.specs.Value.{Naming}
use Rattle.binding_kinds.specs.Faults.{IsFaultAt}
use Rattle.binding_kinds.specs.Functions.{formula_in}
use Rattle.binding_kinds.specs.Senses.{Sense, term_fault}
use Rattle.binding_kinds.proofs.First.{Judges, judged}
use Rattle.binding_kinds.proofs.Fitted.{fit}
use Rattle.meaning.specs.Sets.{Set}
use Rattle.meaning.specs.Cat.{Meaning, ASet, ARelation, Nothing, Names, meaning_of}
use Rattle.meaning_items.specs.Formulas.{formula_meaning}
use Rattle.meaning_items.specs.Bound.{value_at}
use Rattle.meaning_items.specs.Behind.{senses_of, namings_of, bound_of_items, tested}
use Rattle.meaning_items.specs.FunctionLaws.{AreAlike, FunctionsArePutIn}
use Rattle.meaning_items.proofs.Applying.{body_means, fit_right}
use Rattle.meaning_items.proofs.Items.{AreSound, model_sound}

pub no_fault : (P : ℕ → ModelFault → Type 0) (o : Option ModelFault) → Judges P o
    → ((p : ℕ) (k : ModelFault) → P p k → ⊥) → o ≡ None
no_fault P None h none = refl
no_fault P (Some k) h none = absurd (none h.index k h.there)

pub no_term_fault : (ss : List Sense) (names : List Naming) (from : ℕ) (t : Term)
    → ((p : ℕ) (k : ModelFault) → IsFaultAt ss names from false t p k → ⊥)
    → term_fault ss names from false t ≡ None
no_term_fault ss names from t none =
    no_fault (IsFaultAt ss names from false t) (term_fault ss names from false t)
    (judged ss names from false t) none

pub term_means : {E : Type 0} (all : Set E) (ss : List Sense) (names : List Naming) (N : Names E)
    → AreSound all ss names N → (from : ℕ) (t : Term) → term_fault ss names from false t ≡ None
    → meaning_of all N t ≡ formula_meaning all (value_at N) [] (formula_in ss names [] t)
term_means all ss names N h from t none =
    body_means all ss names N (value_at N) [] [] h.same.1 refl t
    (fit_right ss names t (fit ss names from false t h.known none))

alike_itself : (m : Meaning ℕ) → AreAlike m m
alike_itself (ASet S) = λ a. (λ h. h, λ h. h)
alike_itself (ARelation R) = λ a b. (λ h. h, λ h. h)
alike_itself Nothing = tt

pub put_in : FunctionsArePutIn
put_in n S R items faultless e none =
    let N : Names ℕ = bound_of_items (λ a. a < n) (tested S R) items in
    subst (λ (m : Meaning ℕ). AreAlike (meaning_of (λ a. a < n) N e) m)
    (term_means (λ a. a < n) (senses_of items) (namings_of items) N
    (model_sound (λ a. a < n) (tested S R) items faultless) (length (namings_of items)) e
    (no_term_fault (senses_of items) (namings_of items) (length (namings_of items)) e none))
    (alike_itself (meaning_of (λ a. a < n) N e))
