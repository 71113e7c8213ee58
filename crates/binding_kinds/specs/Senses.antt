-- What the functions of a model are to those who apply them: the kinds, the sizes and the first
-- fault of expressions that apply them.
use Rattle.std.specs.Prelude.{◌≡◌, ℕ, suc, ◌+◌, ◌*◌, ◌<◌, ◌≤◌, nat_lt, min, List, [], ◌∷◌, length, get_or, slice_get, Bool, true, false, not, ◌||◌, nat_eq, if◌then◌else◌, Option, Some, None, Result, Ok, Err}
use Rattle.text_values.specs.ModelValue.{Term, Terms, Atom, AllEvents, EmptyRelation, EmptySet, Join, Mark, Not, On, Apply, NoTerm, OneMore}
use Rattle.binding_kinds.specs.declared.fault.ModelFault.{ModelFault}
use Rattle.binding_kinds.specs.declared.fault.ModelFault.TheVariants as faults
use Rattle.binding_kinds.specs.declared.kinds.Kind.{Kind}
use Rattle.binding_kinds.specs.declared.kinds.Kind.TheVariants.{OfSet, OfRelation, OfAny}
use Rattle.binding_kinds.specs.declared.scope.Found.{Found}
use Rattle.binding_kinds.specs.declared.scope.Binder.{Binder}
use Rattle.binding_kinds.specs.declared.scope.Binder.TheVariants as binders
use Rattle.binding_kinds.specs.declared.function.Function.{Function}
use Rattle.binding_kinds.specs.Value.{Naming}
use Rattle.binding_kinds.specs.Kinds.{found, kind_found, joined_kind, marked, narrowed, takes, is_relation, is_set_kind, is_turned}
use Rattle.binding_kinds.specs.Combinations.{kinds_number, unknown}
use Rattle.binding_kinds.specs.Formula.{Formula, constant_of, factor_of, HasParameters, postfix}
use Rattle.binding_kinds.specs.Verdict.{or_else, unless, of_name}

-- A function, to those who apply it: how many parameters it has, the kind of an application to
-- arguments of some kinds, whether an operator of the body does not take its operands then, whether
-- a parameter stands under a complement or right of a difference, and its body with the functions
-- that it applies put in.
pub record Sense : Type 0 where
  pub arity : ℕ
  pub kind_with : List Kind → Kind
  pub clashes : List Kind → Bool
  pub is_under : ℕ → Bool
  pub formula : Formula

-- the sizes of arguments from that index on, each as often as its parameter stands in the body
abbrev pub size_of_arguments : (ℕ → ℕ) → ℕ → List ℕ → ℕ
size_of_arguments factor index [] = 0
size_of_arguments factor index (s ∷ ss) = factor index * s + size_of_arguments factor (suc index) ss

-- the size of the body with each parameter counted as its argument
abbrev pub size_with : Sense → List ℕ → ℕ
size_with s sizes = constant_of s.formula + size_of_arguments (factor_of s.formula) 0 sizes

abbrev pub with_arity : ℕ → Option Sense → Result Sense ModelFault
with_arity count None = Err faults.Arity
with_arity count (Some s) = if nat_eq s.arity count then Ok s else Err faults.Arity

abbrev pub sense_of_binder : List Sense → ℕ → Binder → Result Sense ModelFault
sense_of_binder ss count (binders.Predefined p) = Err faults.Arity
sense_of_binder ss count (binders.Bound i) = Err faults.Arity
sense_of_binder ss count (binders.Applicable f) = with_arity count (slice_get ss f)

-- the function that a name with so many arguments stands for
abbrev pub sense_of : List Sense → ℕ → Option Found → Result Sense ModelFault
sense_of ss count None = Err faults.Unbound
sense_of ss count (Some f) = sense_of_binder ss count f.binder

abbrev pub count_of : Terms → ℕ
count_of NoTerm = 0
count_of (OneMore a others) = suc (count_of others)

-- an application to something else than a function of so many parameters counts as a name
abbrev pub size_applied : Result Sense ModelFault → List ℕ → ℕ
size_applied (Ok s) sizes = size_with s sizes
size_applied (Err k) sizes = 1

abbrev mutual
  -- the size of an expression with the functions that it applies put in
  pub size_in : List Sense → List Naming → Term → ℕ
  size_in ss names (Atom x) = 1
  size_in ss names AllEvents = 1
  size_in ss names EmptyRelation = 1
  size_in ss names EmptySet = 1
  size_in ss names (Join op a b) = size_in ss names a + size_in ss names b + 1
  size_in ss names (Mark op a) = size_in ss names a + 1
  size_in ss names (Not a) = size_in ss names a + 1
  size_in ss names (On a) = size_in ss names a + 1
  size_in ss names (Apply x arguments) =
      size_applied (sense_of ss (count_of arguments) (found names x)) (sizes_in ss names arguments)

  pub sizes_in : List Sense → List Naming → Terms → List ℕ
  sizes_in ss names NoTerm = []
  sizes_in ss names (OneMore a others) = size_in ss names a ∷ sizes_in ss names others

-- An application of a name that is no such function, or one that is too large, fits every kind.
abbrev pub kind_applied : Result Sense ModelFault → List ℕ → List Kind → Kind
kind_applied (Ok s) sizes kinds =
    if nat_lt 4096 (size_with s sizes) then OfAny else s.kind_with kinds
kind_applied (Err k) sizes kinds = OfAny

abbrev mutual
  -- The kind of an expression. One that holds an unbound name or an operator that does not take its
  -- operands fits every kind.
  pub kind_in : List Sense → List Naming → Term → Kind
  kind_in ss names (Atom x) = kind_found (found names x)
  kind_in ss names AllEvents = OfSet
  kind_in ss names EmptyRelation = OfRelation
  kind_in ss names EmptySet = OfSet
  kind_in ss names (Join op a b) = joined_kind op (kind_in ss names a) (kind_in ss names b)
  kind_in ss names (Mark op a) = marked (kind_in ss names a)
  kind_in ss names (Not a) = kind_in ss names a
  kind_in ss names (On a) = narrowed (kind_in ss names a)
  kind_in ss names (Apply x arguments) =
      kind_applied (sense_of ss (count_of arguments) (found names x)) (sizes_in ss names arguments)
      (kinds_in ss names arguments)

  pub kinds_in : List Sense → List Naming → Terms → List Kind
  kinds_in ss names NoTerm = []
  kinds_in ss names (OneMore a others) = kind_in ss names a ∷ kinds_in ss names others

-- what of the parameters of a function stands under a complement or right of a difference
abbrev pub under_of : Result Sense ModelFault → ℕ → Bool
under_of (Ok s) = s.is_under
under_of (Err k) = λ index. false

-- The first fault of an application stands at its name, or else in its arguments.
abbrev pub fault_applied : Result Sense ModelFault → List ℕ → List Kind → Option ModelFault
    → Option ModelFault
fault_applied (Ok s) sizes kinds later =
    if nat_lt 4096 (size_with s sizes) then Some faults.TooLarge
    else or_else (unless (not (s.clashes kinds)) faults.Kind) later
fault_applied (Err k) sizes kinds later = Some k

abbrev mutual
  -- the first fault of an expression, seen under a complement or not
  pub term_fault : List Sense → List Naming → ℕ → Bool → Term → Option ModelFault
  term_fault ss names from under (Atom x) = of_name from under (found names x)
  term_fault ss names from under AllEvents = None
  term_fault ss names from under EmptyRelation = None
  term_fault ss names from under EmptySet = None
  term_fault ss names from under (Join op a b) =
      or_else (term_fault ss names from under a)
      (or_else (unless (takes op (kind_in ss names a) (kind_in ss names b)) faults.Kind)
      (term_fault ss names from (is_turned op under) b))
  term_fault ss names from under (Mark op a) =
      or_else (term_fault ss names from under a)
      (unless (is_relation (kind_in ss names a)) faults.Kind)
  term_fault ss names from under (Not a) = term_fault ss names from true a
  term_fault ss names from under (On a) =
      or_else (unless (is_set_kind (kind_in ss names a)) faults.Kind)
      (term_fault ss names from under a)
  term_fault ss names from under (Apply x arguments) =
      let f = sense_of ss (count_of arguments) (found names x) in
      fault_applied f (sizes_in ss names arguments) (kinds_in ss names arguments)
      (first_among ss names from under (under_of f) 0 arguments)

  -- the first fault of the arguments from that index on
  pub first_among : List Sense → List Naming → ℕ → Bool → (ℕ → Bool) → ℕ → Terms → Option ModelFault
  first_among ss names from under is_under index NoTerm = None
  first_among ss names from under is_under index (OneMore a others) =
      or_else (term_fault ss names from (under || is_under index) a)
      (first_among ss names from under is_under (suc index) others)

abbrev pub ArePositive : List ℕ → Type 0
ArePositive [] = Unit {0}
ArePositive (s ∷ ss) = (0 < s) × ArePositive ss

-- what is kept of a function is so
pub record HasSense (f : Function) (s : Sense) : Type 0 where
  pub arity : f.arity ≡ s.arity
  pub few : s.arity ≤ 8
  pub kinds : (kinds : List Kind) → length kinds ≡ s.arity
      → get_or f.signatures.items (kinds_number kinds) unknown
      ≡ record { kind = s.kind_with kinds; clashes = s.clashes kinds }
  pub under : (index : ℕ) → index < s.arity → get_or f.under index false ≡ s.is_under index
  pub within : HasParameters s.arity s.formula
  pub large : f.is_oversized ≡ true → 4096 < length (postfix s.formula)
  pub template : f.is_oversized ≡ false → f.template.items ≡ postfix s.formula
  pub constant : f.is_oversized ≡ false → f.constant ≡ constant_of s.formula
  pub factor : f.is_oversized ≡ false → (index : ℕ) → index < s.arity
      → get_or f.factors index 0 ≡ factor_of s.formula index

abbrev pub HaveSenses : List Function → List Sense → Type 0
HaveSenses [] [] = Unit {0}
HaveSenses [] (s ∷ ss) = ⊥
HaveSenses (f ∷ fs) [] = ⊥
HaveSenses (f ∷ fs) (s ∷ ss) = HasSense f s × HaveSenses fs ss

-- the same size, as far as 4,096: of larger sizes nothing more is said
abbrev pub IsSameSize : ℕ → ℕ → Type 0
IsSameSize a b = min a 4097 ≡ min b 4097
