-- What the names of the code are known as, by the definitions of faults.
use Rattle.std.proofs.Common.{◌≡◌, ℕ, zero, suc, List, [], ◌∷◌, ◌++◌, length, map, bytes_eq, Bool, true, false, ◌||◌, Option, Some, None, Contains, refl, sym, subst, ◌∙◌, arith}
use Rattle.std.specs.Prelude.{slice_get, not, if◌then◌else◌}
use Rattle.std.specs.List.{list_any}
use Rattle.std.proofs.lemmas.Slice.Eq.{bytes_eq-Decides}
use Rattle.predefined_names.specs.declared.predefined.Predefined.{Predefined}
use Rattle.text_values.specs.declared.model.Item.{Item}
use Rattle.text_values.specs.declared.model.Item.TheVariants as items
use Rattle.text_values.specs.declared.model.Binding as code_binding
use Rattle.predefined_names.specs.PredefinedNames as predefined
use Rattle.predefined_names.specs.PredefinedNames.{spelling}
use Rattle.text_values.specs.ModelValue.{Term}
use Rattle.text_values.specs.ModelValues.{term_of, binding_of, clause_of}
use Rattle.meaning.specs.Sets.{Set}
use Rattle.meaning.specs.Names.{Name}
use Rattle.meaning.specs.Predefined.{predefined_names}
use Rattle.meaning.specs.Cat.{Meaning, ToMeaning, Names, meaning_of, IsChosen}
use Rattle.meaning.specs.Cat as cat
use Rattle.meaning.specs.Faults.{ModelFault, Duplicate, SetInRec, OfSet, OfRelation, KnownName, Known, AsValue, AsFunction, Scope, is_relation, fault_if, value_with, in_term, in_body, is_among, with_group, scope_with_bodies, faults_of_group, faults_of_item, predefined_known, outermost_scope}
use Rattle.plain_models.specs.declared.value.Value.{Value}
use Rattle.plain_models.specs.declared.scope.Bound.{Bound}
use Rattle.plain_models.specs.declared.scope.Bound.TheVariants as bounds
use Rattle.plain_models.specs.declared.scope.Named.{Named}
use Rattle.plain_models.specs.Values.{meaning_as}
use Rattle.plain_models.specs.Scopes.{function_of, bound_as, with_named}
use Rattle.meaning_laws.proofs.Inside.{pair_inside}
use Rattle.meaning_laws.proofs.Alike.{AlikeNames}
use Rattle.meaning_laws.proofs.Alike as alikes
use Rattle.plain_models.proofs.Applying.{named_alike}
use Rattle.plain_models.specs.Groups.{name_of, AreApart, DoesGrow, IsSolvable}
use Rattle.plain_models.specs.Items.{IsBoundTo, AreBoundTo}
use Rattle.plain_models.specs.Answers.{IsOfValue, AreValuesOf, ArePredefined}
use Rattle.meaning_laws.proofs.Growing.{no_parts, group_grows}
use Rattle.meaning_laws.proofs.Risen.{RisesBound, value, function, RisesNames, none, more, same_risen, body_rises}

abbrev pub IsFunctionKnown : Scope → Option Item → Known → Type 0
IsFunctionKnown S (Some (items.Function name ps body)) k =
    k ≡ AsFunction (length ps.items) (in_body S ps.items (term_of body))
IsFunctionKnown S _ k = ⊥

abbrev pub IsKnown : List Item → Scope → Bound → Known → Type 0
IsKnown is S (bounds.Value v) k = (w : KnownName) × (k ≡ AsValue w) × (w.recursive ≡ false)
IsKnown is S (bounds.Function i) k = IsFunctionKnown S (slice_get is i) k

-- the scope, with what is known of the names of the list
abbrev pub Knows : List Item → List Named → Scope → Scope → Type 0
Knows is [] S T = T ≡ S
Knows is (b ∷ bs) S T = (k : Known) × IsKnown is S b.bound k × Knows is bs ((b.name, k) ∷ S) T

pub knows_append : (is : List Item) (xs ys : List Named) (S M T : Scope) → Knows is xs S M
    → Knows is ys M T → Knows is (xs ++ ys) S T
knows_append is [] ys S M T h g = subst (λ (R : Scope). Knows is ys R T) h g
knows_append is (x ∷ xs) ys S M T h g =
    (h.0, h.1, knows_append is xs ys ((x.name, h.0) ∷ S) M T h.2 g)

pub with_append : (all : Set ℕ) (is : List Item) (xs ys : List Named) (N : Names ℕ)
    → with_named all is (xs ++ ys) N ≡ with_named all is ys (with_named all is xs N)
with_append all is [] ys N = refl
with_append all is (x ∷ xs) ys N =
    with_append all is xs ys ((x.name, bound_as all is N x.bound) ∷ N)

-- ---- names that are known rise

function_rises : (all : Set ℕ) (S : Scope) (N : Names ℕ) → RisesNames S N N → AlikeNames N N
    → (o : Option Item) (k : Known) → IsFunctionKnown S o k
    → RisesBound k (function_of all N o) (function_of all N o)
function_rises all S N names alike (Some (items.Function name ps body)) k h =
    let r : List (Meaning ℕ) → Meaning ℕ = λ (ms : List (Meaning ℕ)). meaning_of all (cat.with_arguments ps.items ms N) (term_of body) in
    subst
    (λ (l : Known). RisesBound l (cat.ToFunction (length ps.items) r) (cat.ToFunction (length ps.items) r))
    (sym h)
    (function (length ps.items) (in_body S ps.items (term_of body)) r
    (body_rises all S N names alike ps.items (term_of body)))
function_rises all S N names alike None k h = absurd h
function_rises all S N names alike (Some (items.Let recursive group)) k h = absurd h
function_rises all S N names alike (Some (items.Check check label)) k h = absurd h
function_rises all S N names alike (Some (items.Flag check label)) k h = absurd h
function_rises all S N names alike (Some (items.Show hidden shown)) k h = absurd h
function_rises all S N names alike (Some (items.Include path)) k h = absurd h

bound_rises : (all : Set ℕ) (is : List Item) (S : Scope) (N : Names ℕ) → RisesNames S N N
    → AlikeNames N N → (b : Bound) (k : Known) → IsKnown is S b k
    → RisesBound k (bound_as all is N b) (bound_as all is N b)
bound_rises all is S N names alike (bounds.Value v) k h =
    subst (λ (l : Known). RisesBound l (ToMeaning (meaning_as v)) (ToMeaning (meaning_as v)))
    (sym h.1) (value h.0 (meaning_as v) (meaning_as v) (same_risen (not h.0.recursive) (meaning_as v)))
bound_rises all is S N names alike (bounds.Function i) k h =
    function_rises all S N names alike (slice_get is i) k h

knows_rises : (all : Set ℕ) (is : List Item) (bs : List Named) (S T : Scope) (N : Names ℕ)
    → RisesNames S N N → AlikeNames N N → Knows is bs S T
    → RisesNames T (with_named all is bs N) (with_named all is bs N)
knows_rises all is [] S T N names alike h = subst (λ (R : Scope). RisesNames R N N) (sym h) names
knows_rises all is (b ∷ bs) S T N names alike h =
    let c : cat.Bound ℕ = bound_as all is N b.bound in
    knows_rises all is bs ((b.name, h.0) ∷ S) T ((b.name, c) ∷ N)
    (more b.name h.0 c c S N N (bound_rises all is S N names alike b.bound h.0 h.1) names)
    (named_alike all is (b ∷ []) N alike) h.2

pub outer_rises : (all : Set ℕ) (is : List Item) (bs : List Named) (T : Scope)
    → Knows is bs [] T → RisesNames T (with_named all is bs []) (with_named all is bs [])
outer_rises all is bs T h = knows_rises all is bs [] T [] none alikes.none h

-- ---- the predefined names

known_onto : List Predefined → Scope → Scope
known_onto [] S = S
known_onto (p ∷ ps) S = known_onto ps ((spelling p, predefined_known p) ∷ S)

plain_known : (is : List Item) (S : Scope) (b : Bound) (w : KnownName) → IsOfValue b
    → w.recursive ≡ false → IsKnown is S b (AsValue w)
plain_known is S (bounds.Value v) w h plain = (w, refl, plain)
plain_known is S (bounds.Function i) w h plain = absurd h

-- ---- what an item binds

bound_is_value : (v : Value) (b : Bound) → IsBoundTo v b → IsOfValue b
bound_is_value v (bounds.Value w) h = tt
bound_is_value v (bounds.Function i) h = absurd h

pub group_known : (is : List Item) (gs : List code_binding.Binding) (vs : List Value)
    (added : List Named) (S : Scope) → AreBoundTo (map name_of gs) vs added
    → Knows is added S (with_group false (map binding_of gs) S)
group_known is [] [] [] S h = refl
group_known is [] [] (a ∷ others) S h = absurd h
group_known is [] (v ∷ vs) others S h = absurd h
group_known is (g ∷ gs) [] others S h = absurd h
group_known is (g ∷ gs) (v ∷ vs) [] S h = absurd h
group_known is (g ∷ gs) (v ∷ vs) (a ∷ others) S h =
    let k : KnownName = value_with OfRelation 1 false in (
      AsValue k,
      plain_known is S a.bound k (bound_is_value v a.bound h.1) refl,
      subst
          (λ (n : Name). Knows is others ((n, AsValue k) ∷ S) (with_group false (map binding_of gs) ((g.name, AsValue k) ∷ S)))
          (sym h.0) (group_known is gs vs others ((g.name, AsValue k) ∷ S) h.2),
    )

pub bodies_known : (is : List Item) (outer : Scope) (gs : List code_binding.Binding)
    (vs : List Value) (added : List Named) (S : Scope) → AreBoundTo (map name_of gs) vs added
    → Knows is added S (scope_with_bodies outer (map binding_of gs) S)
bodies_known is outer [] [] [] S h = refl
bodies_known is outer [] [] (a ∷ others) S h = absurd h
bodies_known is outer [] (v ∷ vs) others S h = absurd h
bodies_known is outer (g ∷ gs) [] others S h = absurd h
bodies_known is outer (g ∷ gs) (v ∷ vs) [] S h = absurd h
bodies_known is outer (g ∷ gs) (v ∷ vs) (a ∷ others) S h =
    let k : KnownName = value_with (in_term false outer false (term_of g.body)).kind 1 false in (
      AsValue k,
      plain_known is S a.bound k (bound_is_value v a.bound h.1) refl,
      subst
          (λ (n : Name). Knows is others ((n, AsValue k) ∷ S) (scope_with_bodies outer (map binding_of gs) ((g.name, AsValue k) ∷ S)))
          (sym h.0) (bodies_known is outer gs vs others ((g.name, AsValue k) ∷ S) h.2),
    )

-- ---- a group without faults has a solution

no_fault : (b : Bool) (k : ModelFault) → fault_if b k ≡ [] → b ≡ false
no_fault true k e = absurd (let wrong : ⊥ = cc in wrong)
no_fault false k e = refl

-- the faults of a group, taken apart
record Faultless (S : Scope) (earlier : List Name) (b : Name × Term) (bs : List (Name × Term))
    : Type 0 where
  once : is_among earlier b.0 ≡ false
  body : (in_term false S false b.1).faults ≡ []
  rest : faults_of_group S true (b.0 ∷ earlier) bs ≡ []

faultless : (S : Scope) (earlier : List Name) (b : Name × Term) (bs : List (Name × Term))
    → faults_of_group S true earlier (b ∷ bs) ≡ [] → Faultless S earlier b bs
faultless S earlier b bs e =
    let own : List ModelFault = (in_term false S false b.1).faults in
    let later : List ModelFault = faults_of_group S true (b.0 ∷ earlier) bs in
    let set : List ModelFault = fault_if (not (is_relation (in_term false S false b.1).kind)) SetInRec in
    let twice : List ModelFault = fault_if (is_among earlier b.0) Duplicate in
    let first : (twice ≡ []) × (set ++ (own ++ later) ≡ []) = no_parts twice (set ++ (own ++ later)) e in
    let second : (set ≡ []) × (own ++ later ≡ []) = no_parts set (own ++ later) first.1 in
    let third : (own ≡ []) × (later ≡ []) = no_parts own later second.1 in
    record { once = no_fault (is_among earlier b.0) Duplicate first.0; body = third.0; rest = third.1 }

-- no later name is an earlier one
later_names : (S : Scope) (earlier : List Name) (group : List (Name × Term))
    → faults_of_group S true earlier group ≡ [] → (m : Name) → list_any (λ n. bytes_eq n m) earlier ≡ true
    → Contains (map (λ b. b.0) group) m → ⊥
later_names S earlier [] e m is (k, lt, eq) = absurd (omega arith)
later_names S earlier (b ∷ bs) e m is (zero, lt, eq) =
    let free : is_among earlier b.0 ≡ false = (faultless S earlier b bs e).once in
    let there : is_among earlier b.0 ≡ true = subst (λ (n : Name). list_any (λ q. bytes_eq q n) earlier ≡ true) (sym eq) is in
    let wrong : true ≡ false = sym there ∙ free in
    let never : ⊥ = cc in never
later_names S earlier (b ∷ bs) e m is (suc k, lt, eq) =
    later_names S (b.0 ∷ earlier) bs (faultless S earlier b bs e).rest m
    (either_true (bytes_eq b.0 m) (list_any (λ n. bytes_eq n m) earlier) is) (k, omega arith, eq)
  where
    either_true : (x y : Bool) → y ≡ true → (x || y) ≡ true
    either_true true y h = refl
    either_true false y h = h

names_apart : (S : Scope) (earlier : List Name) (group : List (Name × Term))
    → faults_of_group S true earlier group ≡ [] → AreApart (map (λ b. b.0) group)
names_apart S earlier [] e = tt
names_apart S earlier (b ∷ bs) e =
    let parts : Faultless S earlier b bs = faultless S earlier b bs e in (
      later_names S (b.0 ∷ earlier) bs parts.rest b.0
          (first_true (bytes_eq b.0 b.0) (list_any (λ n. bytes_eq n b.0) earlier) ((bytes_eq-Decides b.0 b.0).1 refl)),
      names_apart S (b.0 ∷ earlier) bs parts.rest,
    )
  where
    first_true : (x y : Bool) → x ≡ true → (x || y) ≡ true
    first_true true y h = refl
    first_true false y h = absurd (let wrong : ⊥ = cc in wrong)

group_solvable : (all : Set ℕ) (S : Scope) (N : Names ℕ) → RisesNames S N N
    → (group : List (Name × Term)) → faults_of_group (with_group true group S) true [] group ≡ []
    → AreApart (map (λ b. b.0) group) × DoesGrow all N group
group_solvable all S N names group e = (
  names_apart (with_group true group S) [] group e,
  (λ c d inside b there x y h.
      pair_inside (meaning_of all (cat.with_group (IsChosen c) group N) b.1)
      (meaning_of all (cat.with_group (IsChosen d) group N) b.1)
      (group_grows all S N names group e c d inside b there) x y h),
)

pub item_solvable : (all : Set ℕ) (S : Scope) (N : Names ℕ) → RisesNames S N N → (item : Item)
    → faults_of_item S (clause_of item) ≡ [] → IsSolvable all N (clause_of item)
item_solvable all S N names (items.Let true group) e =
    group_solvable all S N names (map binding_of group.items) e
item_solvable all S N names (items.Let false group) e = tt
item_solvable all S N names (items.Function name parameters body) e = tt
item_solvable all S N names (items.Check check label) e = tt
item_solvable all S N names (items.Flag check label) e = tt
item_solvable all S N names (items.Show hidden shown) e = tt
item_solvable all S N names (items.Include path) e = tt

-- ---- before the first item

values_known : (is : List Item) (ps : List Predefined) (bs : List Named) (S : Scope)
    → AreValuesOf (map spelling ps) bs → Knows is bs S (known_onto ps S)
unfolding known_onto
values_known is [] [] S h = refl
values_known is [] (b ∷ bs) S h = absurd h
values_known is (p ∷ ps) [] S h = absurd h
values_known is (p ∷ ps) (b ∷ bs) S h = (
  predefined_known p,
  of_value p,
  subst (λ (n : Name). Knows is bs ((n, predefined_known p) ∷ S) (known_onto ps ((spelling p, predefined_known p) ∷ S)))
      (sym h.0) (values_known is ps bs ((spelling p, predefined_known p) ∷ S) h.2),
)
  where
    of_value : (q : Predefined) → IsKnown is S b.bound (predefined_known q)
    of_value q = plain_known is S b.bound (value_with (if predefined.is_set q then OfSet else OfRelation) 1 false) h.1 refl

onto_outermost : known_onto predefined_names [] ≡ outermost_scope
unfolding known_onto
onto_outermost = refl

pub predefined_know : (is : List Item) (bs : List Named) → ArePredefined bs
    → Knows is bs [] outermost_scope
predefined_know is bs h =
    subst (λ (S : Scope). Knows is bs [] S) onto_outermost
    (values_known is predefined_names bs [] h)
