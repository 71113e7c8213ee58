-- What the code finds in expressions, and what is found by the definitions.
use denote.Ref.{Bor}
use Rattle.std.specs.Prelude.{ℕ, suc, ◌≡◌, ◌+◌, min, List, [], ◌∷◌, ◌++◌, length, map, Bool, false, ◌||◌, bytes_eq, if◌then◌else◌}
use Rattle.std.specs.List.{AllZip}
use Rattle.text_values.specs.declared.model.Infix.{Infix}
use Rattle.text_values.specs.declared.model.Infix.TheVariants.{Sequence, Product}
use Rattle.text_values.specs.declared.model.Expression.{Expression}
use Rattle.text_values.specs.ModelValue.{Term, Terms, Join, Mark, Not, On, Apply, NoTerm, OneMore, gathered}
use Rattle.text_values.specs.ModelValues.{term_of}
use Rattle.predefined_names.specs.declared.predefined.Predefined.{Predefined}
use Rattle.predefined_names.specs.PredefinedNames.{spelling}
use Rattle.meaning.specs.Names.{Name}
use Rattle.meaning.specs.Faults as definition
use Rattle.meaning.specs.Faults.{KindOf, OfSet, OfRelation, OfAny, ModelFault, Scope, AsValue, AsFunction, in_term, in_terms, in_body, in_name, in_use, in_application, known_as, is_falling_parameter, value_with, with_parameters, predefined_known}
use Rattle.plain_faults.specs.declared.kind.Kind.{Kind}
use Rattle.plain_faults.specs.declared.kind.Kind.TheVariants as kinds
use Rattle.plain_faults.specs.declared.fault.Fault as code_fault
use Rattle.plain_faults.specs.declared.fault.Fault.TheVariants as code_faults
use Rattle.plain_faults.specs.declared.finding.KnownName.{KnownName}
use Rattle.plain_faults.specs.declared.finding.Finding.{Finding}
use Rattle.plain_faults.specs.declared.scope.Known.{Known}
use Rattle.plain_faults.specs.declared.scope.Known.TheVariants as knowns
use Rattle.plain_faults.specs.declared.scope.Named.{Named}

abbrev pub kind_as : Kind → KindOf
kind_as kinds.Set = OfSet
kind_as kinds.Relation = OfRelation
kind_as kinds.Any = OfAny

abbrev pub fault_as : code_fault.Fault → ModelFault
fault_as code_faults.Unbound = definition.Unbound
fault_as code_faults.Kind = definition.Kind
fault_as code_faults.NotMonotone = definition.NotMonotone
fault_as code_faults.Duplicate = definition.Duplicate
fault_as code_faults.SetInRec = definition.SetInRec
fault_as code_faults.Arity = definition.Arity
fault_as code_faults.TooLarge = definition.TooLarge

abbrev pub faults_as : List code_fault.Fault → List ModelFault
faults_as fs = map fault_as fs

-- the kind of what the operator makes of operands of this kind and of another that is known
abbrev pub made_alike : Infix → KindOf → KindOf
made_alike Sequence k = OfRelation
made_alike Product k = OfRelation
made_alike op k = k

-- The list grew by these faults.
abbrev pub Adds : List ModelFault → List code_fault.Fault → List code_fault.Fault → Type 0
Adds fs old new = faults_as new ≡ faults_as old ++ fs

-- Sizes are counted up to 4097.
pub record IsSameKnown (v : KnownName) (w : definition.KnownName) : Type 0 where
  pub kind : kind_as v.kind ≡ w.kind
  pub size : v.size ≡ min w.size 4097
  pub recursive : v.recursive ≡ w.recursive

pub record IsSameFinding (f : Finding) (g : definition.Finding) : Type 0 where
  pub kind : kind_as f.kind ≡ g.kind
  pub size : f.size ≡ min g.size 4097
  pub faults : faults_as f.faults.items ≡ g.faults

-- What a name is in the code, and what it is behind the earlier names.
abbrev pub IsKnown : Scope → Known → definition.Known → Type 0
IsKnown names (knowns.Value v) k =
    (w : definition.KnownName) × (k ≡ AsValue w) × IsSameKnown v w
IsKnown names (knowns.Function ps body) k =
    k ≡ AsFunction (length ps.now) (in_body names ps.now (term_of body.now))

-- The names of the code are these, the latest first.
abbrev pub AreNames : List Named → Scope → Type 0
AreNames [] [] = Unit {0}
AreNames (b ∷ bs) (p ∷ names) =
    (b.name.now ≡ p.0) × IsKnown names b.known p.1 × AreNames bs names
AreNames bs names = ⊥

-- the names from the latest that is this one
abbrev pub from_name : List Named → Name → List Named
from_name [] n = []
from_name (b ∷ bs) n = if bytes_eq b.name.now n then b ∷ bs else from_name bs n

-- how much is to be read of an expression
abbrev mutual
  pub term_weight : Term → ℕ
  term_weight (Join op a b) = suc (term_weight a + term_weight b)
  term_weight (Mark op a) = suc (term_weight a)
  term_weight (Not a) = suc (term_weight a)
  term_weight (On a) = suc (term_weight a)
  term_weight (Apply n ts) = suc (terms_weight ts)
  term_weight _ = 1

  pub terms_weight : Terms → ℕ
  terms_weight NoTerm = 0
  terms_weight (OneMore a ts) = suc (term_weight a + terms_weight ts)

-- how much is to be read of the functions among names
abbrev pub known_weight : Known → ℕ
known_weight (knowns.Value v) = 0
known_weight (knowns.Function ps body) = suc (term_weight (term_of body.now))

abbrev pub names_weight : List Named → ℕ
names_weight [] = 0
names_weight (b ∷ bs) = known_weight b.known + names_weight bs

-- It is what is found in an expression that sees these names.
abbrev pub IsFoundIn : Bool → List Named → Bool → Expression → Finding → Type 0
IsFoundIn inside names falling e f =
    (S : Scope) → AreNames names S → IsSameFinding f (in_term inside S falling (term_of e))

-- The list says from that index on where the test holds.
abbrev pub AreFlags : (ℕ → Bool) → ℕ → List Bool → Type 0
AreFlags test i [] = Unit {0}
AreFlags test i (b ∷ bs) = (test i ≡ b) × AreFlags test (suc i) bs

-- the arguments as they are read
abbrev pub arguments_as : List Expression → Terms
arguments_as es = gathered (map term_of es)

-- They are what is found in the arguments, which must not grow where the list says so.
abbrev pub AreFoundIn : Bool → List Named → List Bool → List Expression → List Finding → Type 0
AreFoundIn inside names falling es fs =
    (S : Scope) → AreNames names S → (test : ℕ → Bool) (i : ℕ) → AreFlags test i falling
    → AllZip IsSameFinding fs (in_terms inside S test i (arguments_as es))

-- They are what is found in the arguments where all must not grow, or may.
abbrev pub ArePlainIn : Bool → List Named → Bool → List Expression → List Finding → Type 0
ArePlainIn inside names falling es fs =
    (S : Scope) → AreNames names S
    → AllZip IsSameFinding fs (in_terms inside S (λ i. falling || false) 0 (arguments_as es))

-- It is what is found in a name without arguments.
abbrev pub IsFoundInName : List Named → Bool → Name → Finding → Type 0
IsFoundInName names falling n f =
    (S : Scope) → AreNames names S → IsSameFinding f (in_name falling (known_as S n))

-- Whether the parameter at that index must not grow.
abbrev pub IsFallingIn : List Named → List Name → Expression → ℕ → Bool → Type 0
IsFallingIn names ps body i b =
    (S : Scope) → AreNames names S → b ≡ is_falling_parameter (in_body S ps (term_of body)) i

-- The list says which of the first parameters must not grow, where all must not or may.
abbrev pub AreFallingIn : List Named → List Name → Expression → Bool → List Bool → Type 0
AreFallingIn names ps body falling bs =
    (S : Scope) → AreNames names S
    → AreFlags (λ i. falling || is_falling_parameter (in_body S ps (term_of body)) i) 0 bs

-- It is what is found in an application of a function that sees the outer names, where that is
-- found in the arguments.
abbrev pub IsFoundInFunction : Bool → List Named → Bool → List Named → List Name → Expression
    → List Expression → List Finding → Finding → Type 0
IsFoundInFunction inside names falling outer ps body es found f =
    (S T : Scope) → AreNames names S → AreNames outer T
    → (fs : List definition.Finding) → AllZip IsSameFinding found fs
    → IsSameFinding f (in_application inside
    (in_body T ps (term_of body) (map (λ a. value_with a.kind a.size false) fs))
    (in_terms inside S (λ i. falling || is_falling_parameter (in_body T ps (term_of body)) i) 0 (arguments_as es)))

-- It is what is found in a name with arguments.
abbrev pub IsFoundInUse : Bool → List Named → Bool → Name → List Expression → Finding → Type 0
IsFoundInUse inside names falling n es f =
    (S : Scope) → AreNames names S
    → IsSameFinding f (in_use inside (known_as S n)
    (λ is_falling. in_terms inside S (λ i. falling || is_falling i) 0 (arguments_as es)))

-- It is what is found in the body of a function with these arguments.
abbrev pub IsFoundInBody : List Named → List Name → Expression → List KnownName → Finding → Type 0
IsFoundInBody names ps body values f =
    (S : Scope) → AreNames names S
    → (vs : List definition.KnownName) → AllZip IsSameKnown values vs
    → IsSameFinding f (in_body S ps (term_of body) vs)

-- The name stands before the others, with the value, and no function was put there.
abbrev pub PutsName : Name → KnownName → List Named → List Named → Type 0
PutsName n v old new =
    (names_weight new ≡ names_weight old)
    × ((S : Scope) → AreNames old S → (w : definition.KnownName) → IsSameKnown v w
    → AreNames new ((n, AsValue w) ∷ S))

-- So do the parameters, with the arguments.
abbrev pub PutsParameters : List Name → List KnownName → List Named → List Named → Type 0
PutsParameters ps values old new =
    (names_weight new ≡ names_weight old)
    × ((S : Scope) → AreNames old S → (vs : List definition.KnownName)
    → AllZip IsSameKnown values vs → AreNames new (with_parameters ps vs S))

-- the names as they are spelled
abbrev pub spellings_of : List (Bor Name) → List Name
spellings_of ns = map (λ n. n.now) ns

-- the names with predefined ones, the latest of which stands first
abbrev pub with_predefined : List Predefined → Scope → Scope
with_predefined [] names = names
with_predefined (p ∷ ps) names = with_predefined ps ((spelling p, predefined_known p) ∷ names)
