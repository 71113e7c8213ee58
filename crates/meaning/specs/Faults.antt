-- The faults of a model, M1 to M7, in the order of its text, and at one offset in the order M1, M4,
-- M6, M7, M3, M2, M5: the first of them refuses the model. Who trusts that may pass this file over.
-- Read next: Refusals.
use Rattle.std.specs.Prelude.{ℕ, suc, ◌+◌, nat_lt, nat_le, nat_eq, List, [], ◌∷◌, ◌++◌, map, flat_map, replicate, reverse, filter, length, bytes_eq, Bool, true, false, not, ◌&&◌, ◌||◌, Option, Some, None, if◌then◌else◌}
use Rattle.std.specs.List.{list_any}
use Rattle.text_values.specs.declared.model.CheckWord.{CheckWord}
use Rattle.text_values.specs.declared.model.CheckWord.TheVariants.{Empty}
use Rattle.text_values.specs.declared.model.Infix.{Infix}
use Rattle.text_values.specs.declared.model.Infix.TheVariants.{Sequence, Difference, Product}
use Rattle.predefined_names.specs.declared.predefined.Predefined.{Predefined}
use Rattle.predefined_names.specs.PredefinedNames as predefined
use Rattle.text_values.specs.ModelValue.{Term, Terms, Atom, AllEvents, EmptyRelation, EmptySet, Join, Mark, Not, On, Apply, NoTerm, OneMore, Checked, Clause, Binding, Function, Checking, Flagging}
use Rattle.meaning.specs.Names.{Name}
use Rattle.meaning.specs.Predefined.{predefined_names}

-- M1 to M7.
pub data ModelFault : Type 0 where
  Unbound : ModelFault
  Kind : ModelFault
  NotMonotone : ModelFault
  Duplicate : ModelFault
  SetInRec : ModelFault
  Arity : ModelFault
  TooLarge : ModelFault

-- What kind an expression is of. One that holds a fault may be of any kind, so that only the
-- innermost fault is blamed.
pub data KindOf : Type 0 where
  OfSet : KindOf
  OfRelation : KindOf
  OfAny : KindOf

-- A set or a relation that has a name: its kind, its size, and whether the name is one of a
-- recursive group in that group, and so must not stand under `~` or right of `\`.
pub record KnownName : Type 0 where
  pub kind : KindOf
  pub size : ℕ
  pub recursive : Bool

-- What is found in an expression: its kind, its size, and its faults in the order of the text. The
-- size of an application is that of the body, with the arguments in the places of the parameters.
pub record Finding : Type 0 where
  pub kind : KindOf
  pub size : ℕ
  pub faults : List ModelFault

-- What a name is: a set or a relation, or a function of so many arguments. What is found in the
-- body of a function depends on the arguments.
pub data Known : Type 0 where
  AsValue : (value : KnownName) → Known
  AsFunction : (arity : ℕ) (body : List KnownName → Finding) → Known

-- The names that an expression sees, the latest first.
abbrev pub Scope : Type 0
Scope = List (Name × Known)

-- what a name is: the latest counts
abbrev pub known_as : Scope → Name → Option Known
known_as [] n = None
known_as (b ∷ bs) n = if bytes_eq b.0 n then Some b.1 else known_as bs n

-- It fits where a set is wanted.
abbrev pub is_set : KindOf → Bool
is_set OfRelation = false
is_set _ = true

-- It fits where a relation is wanted.
abbrev pub is_relation : KindOf → Bool
is_relation OfSet = false
is_relation _ = true

-- The operator takes operands of these kinds.
abbrev pub takes : Infix → KindOf → KindOf → Bool
takes Sequence k l = is_relation k && is_relation l
takes Product k l = is_set k && is_set l
takes op k l = (is_set k && is_set l) || (is_relation k && is_relation l)

-- the kind of what the operator makes of operands that it takes
abbrev pub kind_made : Infix → KindOf → KindOf → KindOf
kind_made op OfAny l = OfAny
kind_made op k OfAny = OfAny
kind_made Sequence k l = OfRelation
kind_made Product k l = OfRelation
kind_made op k l = k

-- the kind of what the operator makes of operands
abbrev pub kind_of_infix : Infix → KindOf → KindOf → KindOf
kind_of_infix op k l = if takes op k l then kind_made op k l else OfAny

-- the kind of what a postfix operator makes of an operand
abbrev pub kind_of_postfix : KindOf → KindOf
kind_of_postfix OfRelation = OfRelation
kind_of_postfix _ = OfAny

-- the kind of the identity on an operand
abbrev pub kind_of_identity : KindOf → KindOf
kind_of_identity OfSet = OfRelation
kind_of_identity _ = OfAny

-- The check takes an expression of this kind.
abbrev pub takes_body : CheckWord → KindOf → Bool
takes_body Empty k = true
takes_body _ k = is_relation k

-- Right of the operator stands what must not grow, if it is `\` or the whole must not grow.
abbrev pub is_falling_right : Infix → Bool → Bool
is_falling_right Difference falling = true
is_falling_right op falling = falling

-- the fault, if the test is true
abbrev pub fault_if : Bool → ModelFault → List ModelFault
fault_if b k = if b then k ∷ [] else []

-- It is M2.
abbrev pub is_kind_fault : ModelFault → Bool
is_kind_fault Kind = true
is_kind_fault k = false

-- It is M3.
abbrev pub is_monotone_fault : ModelFault → Bool
is_monotone_fault NotMonotone = true
is_monotone_fault k = false

-- a value of a kind and a size
abbrev pub value_with : KindOf → ℕ → Bool → KnownName
value_with kind size recursive = record { kind = kind; size = size; recursive = recursive }

-- a finding of a kind and a size with faults
abbrev pub finding_of : KindOf → ℕ → List ModelFault → Finding
finding_of kind size faults = record { kind = kind; size = size; faults = faults }

-- what is found in a name without arguments, where what must not grow is asked for or not
abbrev pub in_name : Bool → Option Known → Finding
in_name falling None = finding_of OfAny 1 (Unbound ∷ [])
in_name falling (Some (AsValue v)) =
    finding_of v.kind v.size (fault_if (v.recursive && falling) NotMonotone)
in_name falling (Some (AsFunction arity body)) = finding_of OfAny 1 (Arity ∷ [])

-- The parameter of that index stands under `~` or right of `\` in the body of the function.
abbrev pub is_falling_parameter : (List KnownName → Finding) → ℕ → Bool
is_falling_parameter body i =
    list_any is_monotone_fault
    (body (replicate i (value_with OfAny 1 false) ++ value_with OfAny 1 true ∷ [])).faults

-- the faults of findings, in their order
abbrev pub faults_in : List Finding → List ModelFault
faults_in fs = flat_map (λ f. f.faults) fs

-- What is found in an application of a function, from what is found in its body and in its
-- arguments. Outside of the body of a function its size is bounded.
abbrev pub in_application : Bool → Finding → List Finding → Finding
in_application inside body arguments =
    let large = not inside && nat_lt 4096 body.size in
    let unknown = large || list_any (λ a. is_set a.kind && is_relation a.kind) arguments in
    finding_of (if unknown then OfAny else body.kind) body.size
    (fault_if large TooLarge
    ++ (fault_if (list_any is_kind_fault body.faults) Kind ++ faults_in arguments))

-- what is found in an application of what is no function of so many arguments
abbrev pub in_wrong_application : ModelFault → ((ℕ → Bool) → List Finding) → Finding
in_wrong_application k arguments = finding_of OfAny 1 (k ∷ faults_in (arguments (λ i. false)))

-- What is found in a name with arguments. What is found in the arguments depends on which of them
-- must not grow.
abbrev pub in_use : Bool → Option Known → ((ℕ → Bool) → List Finding) → Finding
in_use inside None arguments = in_wrong_application Unbound arguments
in_use inside (Some (AsValue v)) arguments = in_wrong_application Arity arguments
in_use inside (Some (AsFunction arity body)) arguments =
    let plain = arguments (λ i. false) in
    if nat_eq arity (length plain)
    then in_application inside (body (map (λ a. value_with a.kind a.size false) plain))
    (arguments (is_falling_parameter body))
    else in_wrong_application Arity arguments

-- what is found in two operands with an operator between them
abbrev pub in_infix : Infix → Finding → Finding → Finding
in_infix op a b =
    finding_of (kind_of_infix op a.kind b.kind) (a.size + b.size + 1)
    (a.faults ++ (fault_if (not (takes op a.kind b.kind)) Kind ++ b.faults))

-- what is found in an operand with a postfix operator behind it
abbrev pub in_postfix : Finding → Finding
in_postfix a =
    finding_of (kind_of_postfix a.kind) (a.size + 1)
    (a.faults ++ fault_if (not (is_relation a.kind)) Kind)

-- what is found in an operand with `~` before it
abbrev pub in_complement : Finding → Finding
in_complement a = finding_of a.kind (a.size + 1) a.faults

-- what is found in an operand in `[` and `]`
abbrev pub in_identity : Finding → Finding
in_identity a =
    finding_of (kind_of_identity a.kind) (a.size + 1)
    (fault_if (not (is_set a.kind)) Kind ++ a.faults)

abbrev mutual
  -- What is found in an expression, which stands inside of the body of a function or not, and which
  -- must not grow or may.
  pub in_term : Bool → Scope → Bool → Term → Finding
  in_term inside names falling (Atom n) = in_name falling (known_as names n)
  in_term inside names falling AllEvents = finding_of OfSet 1 []
  in_term inside names falling EmptyRelation = finding_of OfRelation 1 []
  in_term inside names falling EmptySet = finding_of OfSet 1 []
  in_term inside names falling (Join op a b) =
      in_infix op (in_term inside names falling a)
      (in_term inside names (is_falling_right op falling) b)
  in_term inside names falling (Mark op a) = in_postfix (in_term inside names falling a)
  in_term inside names falling (Not a) = in_complement (in_term inside names true a)
  in_term inside names falling (On a) = in_identity (in_term inside names falling a)
  in_term inside names falling (Apply n ts) =
      in_use inside (known_as names n)
      (λ is_falling. in_terms inside names (λ i. falling || is_falling i) 0 ts)

  -- what is found in the arguments, the first of which has that index
  pub in_terms : Bool → Scope → (ℕ → Bool) → ℕ → Terms → List Finding
  in_terms inside names is_falling i NoTerm = []
  in_terms inside names is_falling i (OneMore a ts) =
      in_term inside names (is_falling i) a ∷ in_terms inside names is_falling (suc i) ts

-- the names with the parameters, which are as the arguments; those without one are of any kind
abbrev pub with_parameters : List Name → List KnownName → Scope → Scope
with_parameters [] vs names = names
with_parameters (p ∷ ps) [] names =
    with_parameters ps [] ((p, AsValue (value_with OfAny 1 false)) ∷ names)
with_parameters (p ∷ ps) (v ∷ vs) names = with_parameters ps vs ((p, AsValue v) ∷ names)

-- what is found in the body of a function, from its arguments
abbrev pub in_body : Scope → List Name → Term → List KnownName → Finding
in_body names ps body vs = in_term true (with_parameters ps vs names) false body

-- It is M1 or M6, which alone are looked for in the body of a function where it stands.
abbrev pub is_body_fault : ModelFault → Bool
is_body_fault Unbound = true
is_body_fault Arity = true
is_body_fault k = false

-- The name is one of these.
abbrev pub is_among : List Name → Name → Bool
is_among ns n = list_any (λ m. bytes_eq m n) ns

-- The faults of parameters behind others: one that stands twice, and the ninth.
abbrev pub faults_of_parameters : List Name → List Name → List ModelFault
faults_of_parameters earlier [] = []
faults_of_parameters earlier (p ∷ ps) =
    fault_if (is_among earlier p) Duplicate
    ++ (fault_if (nat_le 8 (length earlier)) TooLarge ++ faults_of_parameters (p ∷ earlier) ps)

-- The faults of the bindings of a group behind others: a name that stands twice, a recursive body
-- that is a set, and those of the bodies.
abbrev pub faults_of_group : Scope → Bool → List Name → List (Name × Term) → List ModelFault
faults_of_group names recursive earlier [] = []
faults_of_group names recursive earlier (b ∷ bs) =
    let body = in_term false names false b.1 in
    fault_if (is_among earlier b.0) Duplicate
    ++ (fault_if (recursive && not (is_relation body.kind)) SetInRec
    ++ (body.faults ++ faults_of_group names recursive (b.0 ∷ earlier) bs))

-- the names with those of a recursive group, as they are seen in the group itself or behind it
abbrev pub with_group : Bool → List (Name × Term) → Scope → Scope
with_group inside [] names = names
with_group inside (b ∷ bs) names =
    with_group inside bs ((b.0, AsValue (value_with OfRelation 1 inside)) ∷ names)

-- the names with those of another group, whose bodies see the outer names
abbrev pub scope_with_bodies : Scope → List (Name × Term) → Scope → Scope
scope_with_bodies outer [] names = names
scope_with_bodies outer (b ∷ bs) names =
    scope_with_bodies outer bs
    ((b.0, AsValue (value_with (in_term false outer false b.1).kind 1 false)) ∷ names)

-- the names that are seen after an item
abbrev pub known_after : Scope → Clause → Scope
known_after names (Binding true group) = with_group false group names
known_after names (Binding false group) = scope_with_bodies names group names
known_after names (Function n ps body) =
    (n, AsFunction (length ps) (in_body names ps body)) ∷ names
known_after names _ = names

-- the faults of a check or a flag
abbrev pub faults_of_check : Scope → Checked → List ModelFault
faults_of_check names check =
    let body = in_term false names false check.body in
    fault_if (not (takes_body check.word body.kind)) Kind ++ body.faults

-- the faults of an item
abbrev pub faults_of_item : Scope → Clause → List ModelFault
faults_of_item names (Binding true group) =
    faults_of_group (with_group true group names) true [] group
faults_of_item names (Binding false group) = faults_of_group names false [] group
faults_of_item names (Function n ps body) =
    faults_of_parameters [] ps ++ filter is_body_fault (in_body names ps body []).faults
faults_of_item names (Checking check label) = faults_of_check names check
faults_of_item names (Flagging check label) = faults_of_check names check
faults_of_item names _ = []

-- the faults of items that see these names
abbrev pub faults_from : Scope → List Clause → List ModelFault
faults_from names [] = []
faults_from names (c ∷ cs) = faults_of_item names c ++ faults_from (known_after names c) cs

-- what a predefined name is
abbrev pub predefined_known : Predefined → Known
predefined_known p =
    AsValue (value_with (if predefined.is_set p then OfSet else OfRelation) 1 false)

-- the names that the first item sees
abbrev pub outermost_scope : Scope
outermost_scope = reverse (map (λ p. (predefined.spelling p, predefined_known p)) predefined_names)

-- The faults of a model, in the order of its text. Behind the first the list says nothing more of
-- the model: what is found of an expression with a fault serves to blame no other.
abbrev pub faults : List Clause → List ModelFault
faults items = faults_from outermost_scope items
