-- What a function of a model is to those who apply it, from its parameters and its body.
use Rattle.std.specs.Prelude.{ℕ, suc, List, [], ◌∷◌, length, reverse, Bool, true, false, not, ◌&&◌, ◌||◌, nat_eq, if◌then◌else◌, Option, Some, None, is_some, Result, Ok, Err}
use Rattle.text_values.specs.ModelValue.{Term, Terms, Atom, AllEvents, EmptyRelation, EmptySet, Join, Mark, Not, On, Apply, NoTerm, OneMore}
use Rattle.binding_kinds.specs.declared.fault.ModelFault.{ModelFault}
use Rattle.binding_kinds.specs.declared.kinds.Kind.{Kind}
use Rattle.binding_kinds.specs.declared.kinds.Kind.TheVariants.{OfSet, OfRelation, OfAny}
use Rattle.binding_kinds.specs.declared.scope.Found.{Found}
use Rattle.binding_kinds.specs.declared.scope.Binder.{Binder}
use Rattle.binding_kinds.specs.declared.scope.Binder.TheVariants as binders
use Rattle.binding_kinds.specs.Value.{Naming}
use Rattle.binding_kinds.specs.Kinds.{found, kind_found, joined_kind, marked, narrowed, takes, is_relation, is_set_kind, is_turned}
use Rattle.binding_kinds.specs.Combinations.{has_any}
use Rattle.binding_kinds.specs.Meanings.{parameter_of}
use Rattle.binding_kinds.specs.Formula.{Formula, Value, Parameter, Everything, NoPairs, NoEvents, Joined, Marked, Complement, Identity, filled}
use Rattle.binding_kinds.specs.Senses.{Sense, sense_of, count_of}

-- The parameters, with the kinds of the arguments, hide the names that the function sees.
abbrev pub with_parameters : List (List ℕ) → List Kind → List Naming → List Naming
with_parameters [] ks names = names
with_parameters (p ∷ ps) [] names = names
with_parameters (p ∷ ps) (k ∷ ks) names =
    with_parameters ps ks (record {
      name = p;
      kind = k;
      binder = binders.Bound (record { item = 0; position = 0 });
    } ∷ names)

-- A parameter is no function.
abbrev pub sense_seen : List Sense → List Naming → List (List ℕ) → ℕ → List ℕ → Option Sense
sense_seen ss names ps count x = at_parameter (parameter_of (reverse ps) x)
  where
    at_sense : Result Sense ModelFault → Option Sense
    at_sense (Ok s) = Some s
    at_sense (Err k) = None

    at_parameter : Option ℕ → Option Sense
    at_parameter (Some p) = None
    at_parameter None = at_sense (sense_of ss count (found names x))

abbrev pub kind_of_sense : Option Sense → List Kind → Kind
kind_of_sense None ks = OfAny
kind_of_sense (Some s) ks = s.kind_with ks

-- What is no function has another fault.
abbrev pub clash_of_sense : Option Sense → Bool → List Kind → Bool
clash_of_sense None among ks = false
clash_of_sense (Some s) among ks = among || s.clashes ks

-- In a body the sizes of applications are of no matter.
abbrev mutual
  -- the kind of a body, where the parameters have these kinds
  pub kind_of_body : List Sense → List Naming → List (List ℕ) → List Kind → Term → Kind
  kind_of_body ss names ps ks (Atom x) = kind_found (found (with_parameters ps ks names) x)
  kind_of_body ss names ps ks AllEvents = OfSet
  kind_of_body ss names ps ks EmptyRelation = OfRelation
  kind_of_body ss names ps ks EmptySet = OfSet
  kind_of_body ss names ps ks (Join op a b) =
      joined_kind op (kind_of_body ss names ps ks a) (kind_of_body ss names ps ks b)
  kind_of_body ss names ps ks (Mark op a) = marked (kind_of_body ss names ps ks a)
  kind_of_body ss names ps ks (Not a) = kind_of_body ss names ps ks a
  kind_of_body ss names ps ks (On a) = narrowed (kind_of_body ss names ps ks a)
  kind_of_body ss names ps ks (Apply x ts) =
      kind_of_sense (sense_seen ss names ps (count_of ts) x) (kinds_of_body ss names ps ks ts)

  pub kinds_of_body : List Sense → List Naming → List (List ℕ) → List Kind → Terms → List Kind
  kinds_of_body ss names ps ks NoTerm = []
  kinds_of_body ss names ps ks (OneMore a others) =
      kind_of_body ss names ps ks a ∷ kinds_of_body ss names ps ks others

abbrev mutual
  -- an operator of the body, or of the body of a function that it applies, does not take its
  -- operands
  pub clashes_in : List Sense → List Naming → List (List ℕ) → List Kind → Term → Bool
  clashes_in ss names ps ks (Atom x) = false
  clashes_in ss names ps ks AllEvents = false
  clashes_in ss names ps ks EmptyRelation = false
  clashes_in ss names ps ks EmptySet = false
  clashes_in ss names ps ks (Join op a b) =
      clashes_in ss names ps ks a || clashes_in ss names ps ks b
      || not (takes op (kind_of_body ss names ps ks a) (kind_of_body ss names ps ks b))
  clashes_in ss names ps ks (Mark op a) =
      clashes_in ss names ps ks a || not (is_relation (kind_of_body ss names ps ks a))
  clashes_in ss names ps ks (Not a) = clashes_in ss names ps ks a
  clashes_in ss names ps ks (On a) =
      clashes_in ss names ps ks a || not (is_set_kind (kind_of_body ss names ps ks a))
  clashes_in ss names ps ks (Apply x ts) =
      clash_of_sense (sense_seen ss names ps (count_of ts) x) (clash_among ss names ps ks ts)
      (kinds_of_body ss names ps ks ts)

  pub clash_among : List Sense → List Naming → List (List ℕ) → List Kind → Terms → Bool
  clash_among ss names ps ks NoTerm = false
  clash_among ss names ps ks (OneMore a others) =
      clashes_in ss names ps ks a || clash_among ss names ps ks others

abbrev pub is_at : ℕ → Option ℕ → Bool
is_at index None = false
is_at index (Some p) = nat_eq p index

abbrev pub under_at : Option Sense → ℕ → Bool
under_at None i = false
under_at (Some s) i = s.is_under i

abbrev mutual
  -- the parameter at that index stands under a complement or right of a difference
  pub is_under_in : List Sense → List Naming → List (List ℕ) → ℕ → Bool → Term → Bool
  is_under_in ss names ps index under (Atom x) = under && is_at index (parameter_of (reverse ps) x)
  is_under_in ss names ps index under AllEvents = false
  is_under_in ss names ps index under EmptyRelation = false
  is_under_in ss names ps index under EmptySet = false
  is_under_in ss names ps index under (Join op a b) =
      is_under_in ss names ps index under a || is_under_in ss names ps index (is_turned op under) b
  is_under_in ss names ps index under (Mark op a) = is_under_in ss names ps index under a
  is_under_in ss names ps index under (Not a) = is_under_in ss names ps index true a
  is_under_in ss names ps index under (On a) = is_under_in ss names ps index under a
  is_under_in ss names ps index under (Apply x ts) =
      let s = sense_seen ss names ps (count_of ts) x in
      is_some s && is_under_among ss names ps index under (under_at s) 0 ts

  -- the arguments from that one on
  pub is_under_among : List Sense → List Naming → List (List ℕ) → ℕ → Bool → (ℕ → Bool) → ℕ → Terms
      → Bool
  is_under_among ss names ps index under turned i NoTerm = false
  is_under_among ss names ps index under turned i (OneMore a others) =
      is_under_in ss names ps index (under || turned i) a
      || is_under_among ss names ps index under turned (suc i) others

abbrev pub bound_formula : Found → Binder → Formula
bound_formula f (binders.Predefined p) = Value f
bound_formula f (binders.Bound i) = Value f
bound_formula f (binders.Applicable g) = NoPairs

-- a name that was looked for among the parameters, and then among the other names
abbrev pub named_formula : Option ℕ → Option Found → Formula
named_formula (Some p) o = Parameter p
named_formula None None = NoPairs
named_formula None (Some f) = bound_formula f f.binder

abbrev pub applied_formula : Option Sense → List Formula → Formula
applied_formula None arguments = NoPairs
applied_formula (Some s) arguments = filled arguments s.formula

-- An expression with the functions that it applies put in. What has a fault stands as the empty
-- relation.
abbrev mutual
  pub formula_in : List Sense → List Naming → List (List ℕ) → Term → Formula
  formula_in ss names ps (Atom x) = named_formula (parameter_of (reverse ps) x) (found names x)
  formula_in ss names ps AllEvents = Everything
  formula_in ss names ps EmptyRelation = NoPairs
  formula_in ss names ps EmptySet = NoEvents
  formula_in ss names ps (Join op a b) =
      Joined op (formula_in ss names ps a) (formula_in ss names ps b)
  formula_in ss names ps (Mark op a) = Marked op (formula_in ss names ps a)
  formula_in ss names ps (Not a) = Complement (formula_in ss names ps a)
  formula_in ss names ps (On a) = Identity (formula_in ss names ps a)
  formula_in ss names ps (Apply x ts) =
      applied_formula (sense_seen ss names ps (count_of ts) x) (formulas_in ss names ps ts)

  pub formulas_in : List Sense → List Naming → List (List ℕ) → Terms → List Formula
  formulas_in ss names ps NoTerm = []
  formulas_in ss names ps (OneMore a others) =
      formula_in ss names ps a ∷ formulas_in ss names ps others

-- An application to an argument that fits every kind fits every kind.
abbrev pub sense_of_function : List Sense → List Naming → List (List ℕ) → Term → Sense
sense_of_function ss names ps body = record {
  arity = length ps;
  kind_with = λ ks. if has_any ks then OfAny else kind_of_body ss names ps ks body;
  clashes = λ ks. clashes_in ss names ps ks body;
  is_under = λ index. is_under_in ss names ps index false body;
  formula = formula_in ss names ps body;
}
