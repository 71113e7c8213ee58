-- The names that the definitions bind, and those that the program finds. Read next: Behind.
use Rattle.std.specs.Prelude.{ℕ, ◌≡◌, List, [], ◌∷◌, length, nat_eq, Option, Some, None, slice_get}
use Rattle.binding_kinds.specs.declared.scope.Binder.{Binder}
use Rattle.binding_kinds.specs.declared.scope.Binder.TheVariants as binders
use Rattle.binding_kinds.specs.declared.scope.Found.{Found}
use Rattle.binding_kinds.specs.Value.{Naming}
use Rattle.binding_kinds.specs.Kinds.{found}
use Rattle.binding_kinds.specs.Senses.{Sense}
use Rattle.meaning.specs.Sets.{Set}
use Rattle.meaning.specs.Names.{Name}
use Rattle.meaning.specs.Cat.{Meaning, Nothing, Bound, ToMeaning, ToFunction, Names, choice_of, bound_of, of_name}
use Rattle.meaning_items.specs.Formulas.{formula_meaning, IsBelow}

-- the value of the name in a slot: the oldest name has slot 0
abbrev pub value_at : {E : Type 0} → Names E → ℕ → Meaning E
value_at [] slot = Nothing
value_at (b ∷ bs) slot = choice_of (nat_eq slot (length bs)) (of_name b.1) (value_at bs slot)

-- What is bound is the function that the program knows by that number: it gives what the body means,
-- with its arguments for the parameters. The names of the body have slots below that one.
abbrev pub IsFunctionAs : {E : Type 0} → Set E → List Sense → (ℕ → Meaning E) → ℕ → ℕ → Bound E
    → Type 1
IsFunctionAs {E} all ss value slot f b =
    (s : Sense) × (slice_get ss f ≡ Some s) × IsBelow slot s.formula
    × (result : List (Meaning E) → Meaning E) × (b ≡ ToFunction s.arity result)
    × ((ms : List (Meaning E)) → length ms ≡ s.arity
    → result ms ≡ formula_meaning all value ms s.formula)

-- What is bound in a slot is its value, or a function of the program.
abbrev pub IsBoundBy : {E : Type 0} → Set E → List Sense → (ℕ → Meaning E) → ℕ → Binder → Bound E
    → Type 1
IsBoundBy all ss value slot (binders.Predefined p) b = b ≡ ToMeaning (value slot)
IsBoundBy all ss value slot (binders.Bound i) b = b ≡ ToMeaning (value slot)
IsBoundBy all ss value slot (binders.Applicable f) b = IsFunctionAs all ss value slot f b

-- What is bound is what the program finds, if it finds a name.
abbrev pub IsBoundAs : {E : Type 0} → Set E → List Sense → (ℕ → Meaning E) → Option Found → Bound E
    → Type 1
IsBoundAs all ss value None b = Unit {1}
IsBoundAs all ss value (Some f) b = IsBoundBy all ss value f.slot f.binder b

-- The definitions bind each name that the program finds, and to the same.
abbrev pub AreBound : {E : Type 0} → Set E → List Sense → (ℕ → Meaning E) → List Naming → Names E
    → Type 1
AreBound all ss value names bound =
    (x : Name) → IsBoundAs all ss value (found names x) (bound_of bound x)

-- The names that the definitions bind and those that the program sees are as many, and the same.
abbrev pub AreSame : {E : Type 0} → Set E → List Sense → List Naming → Names E → Type 1
AreSame all ss names bound =
    (length names ≡ length bound) × AreBound all ss (value_at bound) names bound
