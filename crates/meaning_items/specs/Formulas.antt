-- What an expression means whose names have slots and in which functions are put in, by the
-- operators of `meaning/specs/Cat`. Read next: Bound.
use Rattle.std.specs.Prelude.{ℕ, zero, suc, ◌<◌, List, [], ◌∷◌}
use Rattle.binding_kinds.specs.declared.scope.Found.{Found}
use Rattle.binding_kinds.specs.Formula.{Formula, Value, Parameter, Everything, NoPairs, NoEvents, Joined, Marked, Complement, Identity}
use Rattle.meaning.specs.Sets.{Set}
use Rattle.meaning.specs.Cat.{Meaning, ASet, ARelation, of_infix, of_postfix, of_complement, of_identity}

-- the argument at an index; where there is none, the empty relation
abbrev pub argument_at : {E : Type 0} → List (Meaning E) → ℕ → Meaning E
argument_at [] i = ARelation (λ a b. ⊥)
argument_at (m ∷ ms) zero = m
argument_at (m ∷ ms) (suc i) = argument_at ms i

-- what the expression means, where names have these values by their slots, and parameters are these
-- arguments
abbrev pub formula_meaning : {E : Type 0} → Set E → (ℕ → Meaning E) → List (Meaning E) → Formula
    → Meaning E
formula_meaning all value ms (Value f) = value f.slot
formula_meaning all value ms (Parameter i) = argument_at ms i
formula_meaning all value ms Everything = ASet all
formula_meaning all value ms NoPairs = ARelation (λ a b. ⊥)
formula_meaning all value ms NoEvents = ASet (λ a. ⊥)
formula_meaning all value ms (Joined op a b) =
    of_infix op (formula_meaning all value ms a) (formula_meaning all value ms b)
formula_meaning all value ms (Marked op a) = of_postfix all op (formula_meaning all value ms a)
formula_meaning all value ms (Complement a) = of_complement all (formula_meaning all value ms a)
formula_meaning all value ms (Identity a) = of_identity (formula_meaning all value ms a)

-- what each of some expressions means
abbrev pub formula_meanings : {E : Type 0} → Set E → (ℕ → Meaning E) → List (Meaning E)
    → List Formula → List (Meaning E)
formula_meanings all value ms [] = []
formula_meanings all value ms (f ∷ fs) =
    formula_meaning all value ms f ∷ formula_meanings all value ms fs

-- Each name of the expression is one of these.
abbrev pub HasNames : (Found → Type 0) → Formula → Type 0
HasNames P (Value f) = P f
HasNames P (Joined op a b) = HasNames P a × HasNames P b
HasNames P (Marked op a) = HasNames P a
HasNames P (Complement a) = HasNames P a
HasNames P (Identity a) = HasNames P a
HasNames P _ = Unit {0}

-- Each name of the expression has a slot below that number.
abbrev pub IsBelow : ℕ → Formula → Type 0
IsBelow n f = HasNames (λ g. g.slot < n) f
