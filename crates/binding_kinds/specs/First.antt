-- The first fault of groups, items and models, as it is looked for.
use Rattle.std.specs.Prelude.{ℕ, ◌+◌, List, [], ◌∷◌, length, reverse, Bool, true, false, ◌&&◌, if◌then◌else◌, Option, Some, None, Result, Ok, Err}
use Rattle.text_values.specs.ModelValue.{Term, Terms, Atom, AllEvents, EmptyRelation, EmptySet, Join, Mark, Not, On, Apply, NoTerm, OneMore}
use Rattle.binding_kinds.specs.declared.fault.ModelFault.{ModelFault}
use Rattle.binding_kinds.specs.declared.fault.ModelFault.TheVariants as faults
use Rattle.binding_kinds.specs.declared.scope.Found.{Found}
use Rattle.binding_kinds.specs.Value.{Naming, Bound, BareItem, Group, Check, Mute, Defined}
use Rattle.binding_kinds.specs.Kinds.{found, takes_body}
use Rattle.binding_kinds.specs.Meanings.{parameter_of}
use Rattle.binding_kinds.specs.Verdict.{or_else, unless, of_name, is_seen, of_parameters, is_of_set}
use Rattle.binding_kinds.specs.Senses.{Sense, sense_of, count_of, kind_in, term_fault}
use Rattle.binding_kinds.specs.Faults.{with_own, names_after, senses_after}

abbrev pub let_fault : List Sense → List Naming → Bool → List (List ℕ) → Bound → Option ModelFault
let_fault ss names recursive earlier b =
    if is_seen earlier b.name then Some faults.Duplicate
    else if recursive && is_of_set (kind_in ss names b.body) then Some faults.SetInRec else None

abbrev pub first_in : List Sense → List Naming → ℕ → Bool → List (List ℕ) → List Bound
    → Option ModelFault
first_in ss names from recursive earlier [] = None
first_in ss names from recursive earlier (b ∷ bs) =
    or_else (let_fault ss names recursive earlier b)
    (or_else (term_fault ss names from false b.body)
    (first_in ss names from recursive (b.name ∷ earlier) bs))

-- a name of a body
abbrev pub fault_inside : Option ℕ → Option Found → Option ModelFault
fault_inside (Some p) o = None
fault_inside None o = of_name 0 false o

-- a name applied in a body
abbrev pub apply_fault : Option ℕ → Result Sense ModelFault → Option ModelFault
apply_fault (Some p) f = Some faults.Arity
apply_fault None (Ok s) = None
apply_fault None (Err k) = Some k

abbrev mutual
  pub first_of_body : List Sense → List Naming → List (List ℕ) → Term → Option ModelFault
  first_of_body ss names ps (Atom x) = fault_inside (parameter_of (reverse ps) x) (found names x)
  first_of_body ss names ps AllEvents = None
  first_of_body ss names ps EmptyRelation = None
  first_of_body ss names ps EmptySet = None
  first_of_body ss names ps (Join op a b) =
      or_else (first_of_body ss names ps a) (first_of_body ss names ps b)
  first_of_body ss names ps (Mark op a) = first_of_body ss names ps a
  first_of_body ss names ps (Not a) = first_of_body ss names ps a
  first_of_body ss names ps (On a) = first_of_body ss names ps a
  first_of_body ss names ps (Apply x arguments) =
      or_else (apply_fault (parameter_of (reverse ps) x)
      (sense_of ss (count_of arguments) (found names x)))
      (first_of_bodies ss names ps arguments)

  pub first_of_bodies : List Sense → List Naming → List (List ℕ) → Terms → Option ModelFault
  first_of_bodies ss names ps NoTerm = None
  first_of_bodies ss names ps (OneMore a others) =
      or_else (first_of_body ss names ps a) (first_of_bodies ss names ps others)

abbrev pub first_of_item : List Sense → List Naming → ℕ → BareItem → Option ModelFault
first_of_item ss names item (Group true bs) =
    first_in ss (with_own names item 0 bs) (length names) true [] bs
first_of_item ss names item (Group false bs) = first_in ss names (length names) false [] bs
first_of_item ss names item (Check w e) =
    or_else (unless (takes_body w (kind_in ss names e)) faults.Kind)
    (term_fault ss names (length names) false e)
first_of_item ss names item Mute = None
first_of_item ss names item (Defined n ps b) =
    or_else (of_parameters [] ps) (first_of_body ss names ps b)

abbrev pub first : List Sense → List Naming → ℕ → List BareItem → Option ModelFault
first ss names from [] = None
first ss names from (c ∷ cs) =
    or_else (first_of_item ss names from c) (first (senses_after ss names c)
    (names_after ss names from c) (from + 1) cs)
