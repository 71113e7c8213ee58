-- What the expressions of cat mean in an execution, and when its checks and flags are met. E is the
-- type of events, and `all` the set of the events of the execution. Read next: Faults.
use Rattle.std.specs.Prelude.{ℕ, zero, suc, ◌⊎◌, List, [], ◌∷◌, Contains, length, nat_eq, bytes_eq, Bool, true, false, IsTrue}
use Rattle.text_values.specs.declared.model.CheckWord.{CheckWord}
use Rattle.text_values.specs.declared.model.CheckWord.TheVariants.{Acyclic, Irreflexive, Empty}
use Rattle.text_values.specs.declared.model.Infix.{Infix}
use Rattle.text_values.specs.declared.model.Infix.TheVariants as infixes
use Rattle.text_values.specs.declared.model.Postfix.{Postfix}
use Rattle.text_values.specs.declared.model.Postfix.TheVariants as postfixes
use Rattle.text_values.specs.ModelValue.{Term, Terms, Atom, AllEvents, EmptyRelation, EmptySet, Join, Mark, Not, On, Apply, NoTerm, OneMore, Checked, Clause, Binding, Function, Checking, Flagging}
use Rattle.meaning.specs.Sets.{Set, Relation, Union, Intersection, Difference, Complement, Identity, Product, Inverse, Sequence, Transitive, Reflexive, Closure, IsIrreflexive, IsAcyclic, IsEmpty}
use Rattle.meaning.specs.Names.{Name}

-- What an expression means: a set, a relation, or nothing, where an operator does not take its
-- operands.
pub data Meaning (E : Type 0) : Type 1 where
  ASet : (S : Set E) → Meaning E
  ARelation : (R : Relation E) → Meaning E
  Nothing : Meaning E

-- What a name is bound to: the meaning of an expression, a function of so many arguments, or
-- nothing.
pub data Bound (E : Type 0) : Type 1 where
  ToMeaning : (m : Meaning E) → Bound E
  ToFunction : (arity : ℕ) (result : List (Meaning E) → Meaning E) → Bound E
  ToNothing : Bound E

-- The names that an expression sees, the latest first.
abbrev pub Names : Type 0 → Type 1
Names E = List (Name × Bound E)

-- the first if the test is true, and else the second
abbrev pub choice_of : {A : Type 1} → Bool → A → A → A
choice_of true a b = a
choice_of false a b = b

-- what a name is bound to: the latest counts
abbrev pub bound_of : {E : Type 0} → Names E → Name → Bound E
bound_of [] n = ToNothing
bound_of (b ∷ bs) n = choice_of (bytes_eq b.0 n) b.1 (bound_of bs n)

-- the meaning of a name without arguments
abbrev pub of_name : {E : Type 0} → Bound E → Meaning E
of_name (ToMeaning m) = m
of_name _ = Nothing

-- the meaning of a name with arguments
abbrev pub of_application : {E : Type 0} → Bound E → List (Meaning E) → Meaning E
of_application (ToFunction arity result) ms =
    choice_of (nat_eq arity (length ms)) (result ms) Nothing
of_application _ ms = Nothing

-- the meaning of `|`, `&`, `\`, `*` and `;` between two operands
abbrev pub of_infix : {E : Type 0} → Infix → Meaning E → Meaning E → Meaning E
of_infix infixes.Union (ASet S) (ASet T) = ASet (λ a. S a ⊎ T a)
of_infix infixes.Intersection (ASet S) (ASet T) = ASet (λ a. S a × T a)
of_infix infixes.Difference (ASet S) (ASet T) = ASet (λ a. S a × (T a → ⊥))
of_infix infixes.Product (ASet S) (ASet T) = ARelation (Product S T)
of_infix infixes.Union (ARelation R) (ARelation S) = ARelation (Union R S)
of_infix infixes.Intersection (ARelation R) (ARelation S) = ARelation (Intersection R S)
of_infix infixes.Difference (ARelation R) (ARelation S) = ARelation (Difference R S)
of_infix infixes.Sequence (ARelation R) (ARelation S) = ARelation (Sequence R S)
of_infix op m n = Nothing

-- the meaning of `+`, `?`, `*` and `^-1` behind an operand
abbrev pub of_postfix : {E : Type 0} → Set E → Postfix → Meaning E → Meaning E
of_postfix all postfixes.Transitive (ARelation R) = ARelation (Transitive R)
of_postfix all postfixes.Reflexive (ARelation R) = ARelation (Reflexive all R)
of_postfix all postfixes.Closure (ARelation R) = ARelation (Closure all R)
of_postfix all postfixes.Inverse (ARelation R) = ARelation (Inverse R)
of_postfix all op m = Nothing

-- the meaning of `~` before an operand
abbrev pub of_complement : {E : Type 0} → Set E → Meaning E → Meaning E
of_complement all (ASet S) = ASet (λ a. all a × (S a → ⊥))
of_complement all (ARelation R) = ARelation (Complement all R)
of_complement all Nothing = Nothing

-- the meaning of `[` and `]` round an operand
abbrev pub of_identity : {E : Type 0} → Meaning E → Meaning E
of_identity (ASet S) = ARelation (Identity S)
of_identity _ = Nothing

abbrev mutual
  -- what an expression means, where the names are bound so
  pub meaning_of : {E : Type 0} → Set E → Names E → Term → Meaning E
  meaning_of all names (Atom n) = of_name (bound_of names n)
  meaning_of all names AllEvents = ASet all
  meaning_of all names EmptyRelation = ARelation (λ a b. ⊥)
  meaning_of all names EmptySet = ASet (λ a. ⊥)
  meaning_of all names (Join op a b) =
      of_infix op (meaning_of all names a) (meaning_of all names b)
  meaning_of all names (Mark op a) = of_postfix all op (meaning_of all names a)
  meaning_of all names (Not a) = of_complement all (meaning_of all names a)
  meaning_of all names (On a) = of_identity (meaning_of all names a)
  meaning_of all names (Apply n ts) = of_application (bound_of names n) (meanings_of all names ts)

  -- what the arguments of a function mean
  pub meanings_of : {E : Type 0} → Set E → Names E → Terms → List (Meaning E)
  meanings_of all names NoTerm = []
  meanings_of all names (OneMore a ts) = meaning_of all names a ∷ meanings_of all names ts

-- the names with the parameters of a function, which are bound to its arguments
abbrev pub with_arguments : {E : Type 0} → List Name → List (Meaning E) → Names E → Names E
with_arguments [] ms names = names
with_arguments (p ∷ ps) [] names = names
with_arguments (p ∷ ps) (m ∷ ms) names = with_arguments ps ms ((p, ToMeaning m) ∷ names)

-- What is meant relates the two events.
abbrev pub HasPair : {E : Type 0} → Meaning E → Relation E
HasPair (ARelation R) a b = R a b
HasPair _ a b = ⊥

-- the names with those of a group, which are bound to relations
abbrev pub with_group : {E : Type 0} → (Name → Relation E) → List (Name × Term) → Names E → Names E
with_group R [] names = names
with_group R (b ∷ bs) names = with_group R bs ((b.0, ToMeaning (ARelation (R b.0))) ∷ names)

-- A choice of pairs for each name of a group.
abbrev pub Choice : Type 0 → Type 0
Choice E = Name → E → E → Bool

-- the relation that a choice makes of a name
abbrev pub IsChosen : {E : Type 0} → Choice E → Name → Relation E
IsChosen choice n a b = IsTrue (choice n a b)

-- The choice is closed: it has each pair that a body gives where the names stand for the choice.
abbrev pub IsClosed : {E : Type 0} → Set E → Names E → List (Name × Term) → Choice E → Type 0
IsClosed {E} all names group choice =
    (b : Name × Term) → Contains group b → (x y : E)
    → HasPair (meaning_of all (with_group (IsChosen choice) group names) b.1) x y
    → IsChosen choice b.0 x y

-- The least solution of a recursive group: a name has the pairs that it has in each closed choice.
abbrev pub Least : {E : Type 0} → Set E → Names E → List (Name × Term) → Name → Relation E
Least {E} all names group n x y =
    (choice : Choice E) → IsClosed all names group choice → IsChosen choice n x y

-- the names with those of a group that is not recursive, whose bodies see the outer names
abbrev pub with_bodies : {E : Type 0} → Set E → Names E → List (Name × Term) → Names E → Names E
with_bodies all outer [] names = names
with_bodies all outer (b ∷ bs) names =
    with_bodies all outer bs ((b.0, ToMeaning (meaning_of all outer b.1)) ∷ names)

-- the names that are seen after an item
abbrev pub names_after : {E : Type 0} → Set E → Names E → Clause → Names E
names_after all names (Binding true group) = with_group (Least all names group) group names
names_after all names (Binding false group) = with_bodies all names group names
names_after all names (Function n ps body) =
    (n, ToFunction (length ps) (λ ms. meaning_of all (with_arguments ps ms names) body)) ∷ names
names_after all names _ = names

-- What is meant has the property that a check asks for.
abbrev pub HasProperty : {E : Type 0} → CheckWord → Meaning E → Type 0
HasProperty Acyclic (ARelation R) = IsAcyclic R
HasProperty Irreflexive (ARelation R) = IsIrreflexive R
HasProperty Empty (ARelation R) = IsEmpty R
HasProperty {E} Empty (ASet S) = (a : E) → S a → ⊥
HasProperty word m = ⊥

-- the fact, or its negation if the test is true
abbrev pub NegatedIf : Bool → Type 0 → Type 0
NegatedIf false P = P
NegatedIf true P = P → ⊥

-- The check is met.
abbrev pub IsMet : {E : Type 0} → Set E → Names E → Checked → Type 0
IsMet all names check =
    NegatedIf check.negated (HasProperty check.word (meaning_of all names check.body))

-- The item is met if it is a check; nothing is asked of another item.
abbrev pub IsItemMet : {E : Type 0} → Set E → Names E → Clause → Type 0
IsItemMet all names (Checking check label) = IsMet all names check
IsItemMet all names _ = Unit {0}

-- All checks among the items are met.
abbrev pub AreMet : {E : Type 0} → Set E → Names E → List Clause → Type 0
AreMet all names [] = Unit {0}
AreMet all names (c ∷ cs) = IsItemMet all names c × AreMet all (names_after all names c) cs

-- The item at that index is a flag, and its check is met.
abbrev pub IsFlagMet : {E : Type 0} → Set E → Names E → List Clause → ℕ → Type 0
IsFlagMet all names [] i = ⊥
IsFlagMet all names (Flagging check name ∷ cs) zero = IsMet all names check
IsFlagMet all names (c ∷ cs) zero = ⊥
IsFlagMet all names (c ∷ cs) (suc i) = IsFlagMet all (names_after all names c) cs i
