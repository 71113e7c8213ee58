-- Expressions without fault, whose kinds are known.
use Rattle.std.specs.Prelude.{◌≡◌, ℕ, ◌≤◌, List, [], ◌∷◌, length, false, IsTrue, Option, Some, None, Result, Ok, Err, get_or}
use Rattle.text_values.specs.ModelValue.{Term, Terms, Atom, AllEvents, EmptyRelation, EmptySet, Join, Mark, Not, On, Apply, NoTerm, OneMore}
use Rattle.binding_kinds.specs.declared.fault.ModelFault.{ModelFault}
use Rattle.binding_kinds.specs.declared.kinds.Kind.{Kind}
use Rattle.binding_kinds.specs.declared.kinds.Kind.TheVariants.{OfSet, OfRelation, OfAny}
use Rattle.binding_kinds.specs.declared.scope.Found.{Found}
use Rattle.binding_kinds.specs.declared.scope.Binder.{Binder}
use Rattle.binding_kinds.specs.declared.scope.Binder.TheVariants as binders
use Rattle.binding_kinds.specs.Value.{Naming, Bound}
use Rattle.binding_kinds.specs.Kinds.{found, takes, joined_kind, marked, narrowed, is_relation, is_set_kind}
use Rattle.binding_kinds.specs.Formula.{Formula, Value, Parameter, Everything, NoPairs, NoEvents, Joined, Marked, Complement, Identity}
use Rattle.binding_kinds.specs.Senses.{Sense, sense_of, count_of, size_with, sizes_in, kind_in, kinds_in}

-- a set or a relation
abbrev pub IsKnown : Kind → Type 0
IsKnown OfSet = Unit {0}
IsKnown OfRelation = Unit {0}
IsKnown OfAny = ⊥

-- no function
abbrev pub IsValue : Binder → Type 0
IsValue (binders.Predefined p) = Unit {0}
IsValue (binders.Bound i) = Unit {0}
IsValue (binders.Applicable f) = ⊥

abbrev pub IsKnownValue : Option Found → Type 0
IsKnownValue None = ⊥
IsKnownValue (Some f) = IsValue f.binder × IsKnown f.kind

-- the kind of an expression whose parameters have these kinds
abbrev pub kind_of : List Kind → Formula → Kind
kind_of ks (Value f) = f.kind
kind_of ks (Parameter index) = get_or ks index OfAny
kind_of ks Everything = OfSet
kind_of ks NoPairs = OfRelation
kind_of ks NoEvents = OfSet
kind_of ks (Joined op a b) = joined_kind op (kind_of ks a) (kind_of ks b)
kind_of ks (Marked op a) = marked (kind_of ks a)
kind_of ks (Complement a) = kind_of ks a
kind_of ks (Identity a) = narrowed (kind_of ks a)

-- where the parameters have these kinds, each name stands for a set or a relation, and each
-- operator takes its operands
abbrev pub IsTyped : List Kind → Formula → Type 0
IsTyped ks (Value f) = IsKnown f.kind
IsTyped ks (Parameter index) = IsKnown (get_or ks index OfAny)
IsTyped ks Everything = Unit {0}
IsTyped ks NoPairs = Unit {0}
IsTyped ks NoEvents = Unit {0}
IsTyped ks (Joined op a b) =
    IsTyped ks a × IsTyped ks b × IsTrue (takes op (kind_of ks a) (kind_of ks b))
IsTyped ks (Marked op a) = IsTyped ks a × IsTrue (is_relation (kind_of ks a))
IsTyped ks (Complement a) = IsTyped ks a
IsTyped ks (Identity a) = IsTyped ks a × IsTrue (is_set_kind (kind_of ks a))

abbrev pub AreKnownKinds : List Kind → Type 0
AreKnownKinds [] = Unit {0}
AreKnownKinds (k ∷ ks) = IsKnown k × AreKnownKinds ks

-- with arguments of known kinds that clash nowhere, the function's body is typed, and has the kind
-- that is said of it
abbrev pub IsSoundSense : Sense → Type 0
IsSoundSense s =
    (ks : List Kind) → length ks ≡ s.arity → AreKnownKinds ks → s.clashes ks ≡ false
    → IsTyped ks s.formula
    × (s.kind_with ks ≡ kind_of ks s.formula)

abbrev pub AreSoundSenses : List Sense → Type 0
AreSoundSenses [] = Unit {0}
AreSoundSenses (s ∷ ss) = IsSoundSense s × AreSoundSenses ss

-- a function takes its arguments: the application is not too large, and no operator of the body
-- clashes
abbrev pub IsFitApplied : Result Sense ModelFault → List ℕ → List Kind → Type 0
IsFitApplied (Err k) sizes kinds = ⊥
IsFitApplied (Ok s) sizes kinds = (size_with s sizes ≤ 4096) × (s.clashes kinds ≡ false)

abbrev mutual
  -- each name stands for a set or a relation, and each operator and each function takes its
  -- operands
  pub IsFit : List Sense → List Naming → Term → Type 0
  IsFit ss names (Atom x) = IsKnownValue (found names x)
  IsFit ss names AllEvents = Unit {0}
  IsFit ss names EmptyRelation = Unit {0}
  IsFit ss names EmptySet = Unit {0}
  IsFit ss names (Join op a b) =
      IsFit ss names a × IsFit ss names b
      × IsTrue (takes op (kind_in ss names a) (kind_in ss names b))
  IsFit ss names (Mark op a) = IsFit ss names a × IsTrue (is_relation (kind_in ss names a))
  IsFit ss names (Not a) = IsFit ss names a
  IsFit ss names (On a) = IsFit ss names a × IsTrue (is_set_kind (kind_in ss names a))
  IsFit ss names (Apply x arguments) =
      IsFitApplied (sense_of ss (count_of arguments) (found names x)) (sizes_in ss names arguments)
      (kinds_in ss names arguments)
      × AreFitArguments ss names arguments

  pub AreFitArguments : List Sense → List Naming → Terms → Type 0
  AreFitArguments ss names NoTerm = Unit {0}
  AreFitArguments ss names (OneMore a others) = IsFit ss names a × AreFitArguments ss names others

abbrev pub AreFit : List Sense → List Naming → List Bound → Type 0
AreFit ss names [] = Unit {0}
AreFit ss names (b ∷ bs) = IsFit ss names b.body × AreFit ss names bs

-- what a name stands for has a kind, unless it is a function
abbrev pub IsKnownUnlessFunction : Binder → Kind → Type 0
IsKnownUnlessFunction (binders.Predefined p) k = IsKnown k
IsKnownUnlessFunction (binders.Bound i) k = IsKnown k
IsKnownUnlessFunction (binders.Applicable f) k = Unit {0}

abbrev pub AreKnown : List Naming → Type 0
AreKnown [] = Unit {0}
AreKnown (n ∷ ns) = IsKnownUnlessFunction n.binder n.kind × AreKnown ns
