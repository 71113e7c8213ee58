-- What is known of names behind items without faults: their meanings rise, and so do the bodies of
-- recursive groups.
use Rattle.std.proofs.Common.{◌≡◌, ◌↔◌, zero, suc, List, [], ◌∷◌, ◌++◌, length, true, false, Contains, refl, ap, subst, arith}
use Rattle.std.specs.Prelude.{not, if◌then◌else◌}
use Rattle.std.specs.List.{list_any}
use Rattle.predefined_names.specs.declared.predefined.Predefined.{Predefined}
use Rattle.predefined_names.specs.PredefinedNames as predefined
use Rattle.predefined_names.specs.PredefinedNames.{spelling}
use Rattle.text_values.specs.TestValue.{Content}
use Rattle.text_values.specs.ModelValue.{Term, Clause, Binding, Function, Checking, Flagging, Showing, Including}
use Rattle.meaning.specs.Sets.{Set, Relation}
use Rattle.meaning.specs.Names.{Name}
use Rattle.meaning.specs.Executions.{Event, Execution, IsEvent}
use Rattle.meaning.specs.Predefined.{EventsOf, PairsOf, predefined_names}
use Rattle.meaning.specs.Cat.{Meaning, ASet, ARelation, Bound, ToMeaning, ToFunction, Names, choice_of, meaning_of, with_arguments, Choice, IsChosen, IsClosed, Least, with_bodies, names_after}
use Rattle.meaning.specs.Cat as cat
use Rattle.meaning.specs.Faults.{ModelFault, Duplicate, SetInRec, OfSet, OfRelation, KnownName, AsValue, AsFunction, Scope, is_relation, fault_if, value_with, in_term, in_body, is_among, with_group, scope_with_bodies, known_after, faults_of_group, faults_of_item, faults_from, faults, is_monotone_fault, predefined_known, outermost_scope}
use Rattle.meaning.specs.Evaluates.{predefined_bound, outermost}
use Rattle.meaning.specs.Laws.{names_behind, LeastBehind, GivenByBody, Solves}
use Rattle.meaning.proofs.Counting.{here, behind}
use Rattle.meaning_laws.specs.Inside.{IsInside}
use Rattle.meaning_laws.specs.RisingLaws.{IsChoiceInside, GroupsGrow, FaultlessGroupsAreSolved}
use Rattle.meaning_laws.proofs.Inside.{alike_itself, pair_inside}
use Rattle.meaning_laws.proofs.Alike.{AlikeBound, AlikeNames, meanings, functions, alike_meaning, alike_arguments}
use Rattle.meaning_laws.proofs.Alike as alikes
use Rattle.meaning_laws.proofs.Risen.{RisesBound, RisesNames, value, function, none, more, same_risen, rises, body_rises}

-- ---- faults

pub no_parts : (xs ys : List ModelFault) → xs ++ ys ≡ [] → (xs ≡ []) × (ys ≡ [])
no_parts [] ys e = (refl, e)
no_parts (x ∷ xs) ys e = absurd (let wrong : ⊥ = cc in wrong)

-- the first body of a group, and the rest of it
group_parts : (S : Scope) (earlier : List Name) (b : Name × Term) (bs : List (Name × Term))
    → faults_of_group S true earlier (b ∷ bs) ≡ []
    → ((in_term false S false b.1).faults ≡ [])
    × (faults_of_group S true (b.0 ∷ earlier) bs ≡ [])
group_parts S earlier b bs e =
    let own : List ModelFault = (in_term false S false b.1).faults in
    let later : List ModelFault = faults_of_group S true (b.0 ∷ earlier) bs in
    let set : List ModelFault =
    fault_if (not (is_relation (in_term false S false b.1).kind)) SetInRec in
    let twice : List ModelFault = fault_if (is_among earlier b.0) Duplicate in
    no_parts own later
    (no_parts set (own ++ later) (no_parts twice (set ++ (own ++ later)) e).1).1

-- no body of a group holds a fault
body_free : (S : Scope) (earlier : List Name) (group : List (Name × Term))
    → faults_of_group S true earlier group ≡ [] → (b : Name × Term) → Contains group b
    → (in_term false S false b.1).faults ≡ []
body_free S earlier [] e b (k, lt, eq) = absurd (omega (arith, lt))
body_free S earlier (d ∷ ds) e b (zero, lt, eq) =
    subst (λ (one : Name × Term). (in_term false S false one.1).faults ≡ []) eq
    (group_parts S earlier d ds e).0
body_free S earlier (d ∷ ds) e b (suc k, lt, eq) =
    body_free S (d.0 ∷ earlier) ds (group_parts S earlier d ds e).1 b
    (k, omega (arith, lt), eq)

-- ---- a group

-- one family of relations has no pair of a name of the group that the other lacks
abbrev pub AreInside : {E : Type 0} → List (Name × Term) → (Name → Relation E)
    → (Name → Relation E) → Type 0
AreInside {E} group R Q =
    (b : Name × Term) → Contains group b → (x y : E) → R b.0 x y → Q b.0 x y

relations_rise : {E : Type 0} (R Q : Name → Relation E) (group : List (Name × Term))
    → AreInside group R Q → (S : Scope) (N K : Names E) → RisesNames S N K
    → RisesNames (with_group true group S) (cat.with_group R group N) (cat.with_group Q group K)
relations_rise R Q [] inside S N K names = names
relations_rise R Q (b ∷ bs) inside S N K names =
    let k : KnownName = value_with OfRelation 1 true in
    relations_rise R Q bs (λ d there. inside d (behind b bs d there)) ((b.0, AsValue k) ∷ S)
    ((b.0, ToMeaning (ARelation (R b.0))) ∷ N) ((b.0, ToMeaning (ARelation (Q b.0))) ∷ K)
    (more b.0 (AsValue k) (ToMeaning (ARelation (R b.0))) (ToMeaning (ARelation (Q b.0))) S N K
    (value k (ARelation (R b.0)) (ARelation (Q b.0)) (inside b (here b bs))) names)

-- then its bodies mean no less
pub bodies_grow : {E : Type 0} (all : Set E) (S : Scope) (N : Names E) → RisesNames S N N
    → (group : List (Name × Term)) → faults_of_item S (Binding true group) ≡ []
    → (R Q : Name → Relation E) → AreInside group R Q → (b : Name × Term) → Contains group b
    → IsInside (meaning_of all (cat.with_group R group N) b.1)
    (meaning_of all (cat.with_group Q group N) b.1)
bodies_grow all S N names group e R Q inside b there =
    rises all (with_group true group S) (cat.with_group R group N) (cat.with_group Q group N)
    (relations_rise R Q group inside S N N names) false false b.1
    (ap (list_any is_monotone_fault) (body_free (with_group true group S) [] group e b there))

pub group_grows : {E : Type 0} (all : Set E) (S : Scope) (N : Names E) → RisesNames S N N
    → (group : List (Name × Term)) → faults_of_item S (Binding true group) ≡ []
    → (c d : Choice E) → IsChoiceInside c d → (b : Name × Term) → Contains group b
    → IsInside (meaning_of all (cat.with_group (IsChosen c) group N) b.1)
    (meaning_of all (cat.with_group (IsChosen d) group N) b.1)
group_grows all S N names group e c d inside b there =
    bodies_grow all S N names group e (IsChosen c) (IsChosen d) (λ a in_group. inside a.0) b there

-- ---- the names that are seen behind an item

plain_value : {E : Type 0} (k : KnownName) (m : Meaning E)
    → RisesBound (AsValue k) (ToMeaning m) (ToMeaning m)
plain_value k m = value k m m (same_risen (not k.recursive) m)

group_rises : {E : Type 0} (R : Name → Relation E) (group : List (Name × Term)) (S : Scope)
    (N : Names E) → RisesNames S N N
    → RisesNames (with_group false group S) (cat.with_group R group N) (cat.with_group R group N)
group_rises R [] S N names = names
group_rises R (b ∷ bs) S N names =
    let k : KnownName = value_with OfRelation 1 false in
    group_rises R bs ((b.0, AsValue k) ∷ S) ((b.0, ToMeaning (ARelation (R b.0))) ∷ N)
    (more b.0 (AsValue k) (ToMeaning (ARelation (R b.0))) (ToMeaning (ARelation (R b.0))) S N N
    (plain_value k (ARelation (R b.0))) names)

bodies_rise : {E : Type 0} (all : Set E) (outer : Scope) (out : Names E)
    (group : List (Name × Term)) (S : Scope) (N : Names E) → RisesNames S N N
    → RisesNames (scope_with_bodies outer group S) (with_bodies all out group N)
    (with_bodies all out group N)
bodies_rise all outer out [] S N names = names
bodies_rise all outer out (b ∷ bs) S N names =
    let k : KnownName = value_with (in_term false outer false b.1).kind 1 false in
    let m : Bound _ = ToMeaning (meaning_of all out b.1) in
    bodies_rise all outer out bs ((b.0, AsValue k) ∷ S) ((b.0, m) ∷ N)
    (more b.0 (AsValue k) m m S N N (plain_value k (meaning_of all out b.1)) names)

-- what is known of names: they rise, and are alike to themselves
pub record AreKnown {E : Type 0} (S : Scope) (N : Names E) : Type 1 where
  pub rise : RisesNames S N N
  pub alike : AlikeNames N N

same_value : {E : Type 0} (m : Meaning E) → AlikeBound (ToMeaning m) (ToMeaning m)
same_value m = meanings m m (alike_itself m)

group_alike : {E : Type 0} (R : Name → Relation E) (group : List (Name × Term)) (N : Names E)
    → AlikeNames N N → AlikeNames (cat.with_group R group N) (cat.with_group R group N)
group_alike R [] N alike = alike
group_alike R (b ∷ bs) N alike =
    let m : Bound _ = ToMeaning (ARelation (R b.0)) in
    group_alike R bs ((b.0, m) ∷ N)
    (alikes.more b.0 m m N N (same_value (ARelation (R b.0))) alike)

bodies_alike : {E : Type 0} (all : Set E) (out : Names E) (group : List (Name × Term))
    (N : Names E) → AlikeNames N N
    → AlikeNames (with_bodies all out group N) (with_bodies all out group N)
bodies_alike all out [] N alike = alike
bodies_alike all out (b ∷ bs) N alike =
    let m : Bound _ = ToMeaning (meaning_of all out b.1) in
    bodies_alike all out bs ((b.0, m) ∷ N)
    (alikes.more b.0 m m N N (same_value (meaning_of all out b.1)) alike)

pub known_behind : {E : Type 0} (all : Set E) (S : Scope) (N : Names E) → AreKnown S N
    → (c : Clause) → AreKnown (known_after S c) (names_after all N c)
known_behind all S N known (Binding true group) = record {
  rise = group_rises (Least all N group) group S N known.rise;
  alike = group_alike (Least all N group) group N known.alike;
}
known_behind all S N known (Binding false group) = record {
  rise = bodies_rise all S N group S N known.rise;
  alike = bodies_alike all N group N known.alike;
}
known_behind {E} all S N known (Function n ps body) =
    let r : List (Meaning E) → Meaning E =
    λ (ms : List (Meaning E)). meaning_of all (with_arguments ps ms N) body in
    let b : Bound E = ToFunction (length ps) r in
    record {
      rise = more n (AsFunction (length ps) (in_body S ps body)) b b S N N
          (function (length ps) (in_body S ps body) r
          (body_rises all S N known.rise known.alike ps body)) known.rise;
      alike = alikes.more n b b N N
          (functions (length ps) r r
          (λ ms ks same. alike_meaning all (with_arguments ps ms N) (with_arguments ps ks N)
          (alike_arguments ps ms ks N N same known.alike) body))
          known.alike;
    }
known_behind all S N known (Checking check label) = known
known_behind all S N known (Flagging check label) = known
known_behind all S N known (Showing hidden shown) = known
known_behind all S N known (Including path) = known

-- ---- before the first item

known_onto : List Predefined → Scope → Scope
known_onto [] S = S
known_onto (p ∷ ps) S = known_onto ps ((spelling p, predefined_known p) ∷ S)

abbrev pub names_onto : Content → Execution → List Predefined → Names Event → Names Event
names_onto t x [] N = N
names_onto t x (p ∷ ps) N = names_onto t x ps ((spelling p, predefined_bound t x p) ∷ N)

onto_known : (t : Content) (x : Execution) (ps : List Predefined) (S : Scope) (N : Names Event)
    → AreKnown S N → AreKnown (known_onto ps S) (names_onto t x ps N)
unfolding known_onto
onto_known t x [] S N known = known
onto_known t x (p ∷ ps) S N known =
    let m : Meaning Event =
    choice_of (predefined.is_set p) (ASet (EventsOf t x p)) (ARelation (PairsOf t x p)) in
    let k : KnownName =
    value_with (if predefined.is_set p then OfSet else OfRelation) 1 false in
    onto_known t x ps ((spelling p, predefined_known p) ∷ S)
    ((spelling p, predefined_bound t x p) ∷ N)
    (record {
      rise = more (spelling p) (AsValue k) (ToMeaning m) (ToMeaning m) S N N (plain_value k m)
          known.rise;
      alike = alikes.more (spelling p) (ToMeaning m) (ToMeaning m) N N (same_value m)
          known.alike;
    })

scope_is : known_onto predefined_names [] ≡ outermost_scope
unfolding known_onto
scope_is = refl

pub names_are : (t : Content) (x : Execution) → names_onto t x predefined_names [] ≡ outermost t x
names_are t x = refl

pub outermost_known : (t : Content) (x : Execution) → AreKnown outermost_scope (outermost t x)
outermost_known t x =
    subst (λ (S : Scope). AreKnown S (outermost t x)) scope_is
    (subst (λ (N : Names Event). AreKnown (known_onto predefined_names []) N) (names_are t x)
    (onto_known t x predefined_names [] [] (record { rise = none; alike = alikes.none })))

-- ---- behind all items

-- the scope behind items
scope_behind : Scope → List Clause → Scope
scope_behind S [] = S
scope_behind S (c ∷ cs) = scope_behind (known_after S c) cs

all_known : (t : Content) (x : Execution) (items : List Clause) (S : Scope) (N : Names Event)
    → AreKnown S N → AreKnown (scope_behind S items) (names_behind (IsEvent t x) N items)
unfolding scope_behind
all_known t x [] S N known = known
all_known t x (c ∷ cs) S N known =
    all_known t x cs (known_after S c) (names_after (IsEvent t x) N c)
    (known_behind (IsEvent t x) S N known c)

last_free : (S : Scope) (items : List Clause) (c : Clause)
    → faults_from S (items ++ c ∷ []) ≡ [] → faults_of_item (scope_behind S items) c ≡ []
unfolding scope_behind
last_free S [] c e = (no_parts (faults_of_item S c) [] e).0
last_free S (d ∷ items) c e =
    last_free (known_after S d) items c
    (no_parts (faults_of_item S d) (faults_from (known_after S d) (items ++ c ∷ [])) e).1

-- what is known of the group that stands behind items
record IsLast (t : Content) (x : Execution) (items : List Clause) (group : List (Name × Term))
    : Type 1 where
  scope : Scope
  rise : RisesNames scope (names_behind (IsEvent t x) (outermost t x) items)
      (names_behind (IsEvent t x) (outermost t x) items)
  free : faults_of_item scope (Binding true group) ≡ []

last_group : (t : Content) (x : Execution) (items : List Clause) (group : List (Name × Term))
    → faults (items ++ Binding true group ∷ []) ≡ [] → IsLast t x items group
last_group t x items group e = record {
  scope = scope_behind outermost_scope items;
  rise = (all_known t x items outermost_scope (outermost t x) (outermost_known t x)).rise;
  free = last_free outermost_scope items (Binding true group) e;
}

pub groups_grow : GroupsGrow
groups_grow t x items group e c d inside b there =
    let last : IsLast t x items group = last_group t x items group e in
    group_grows (IsEvent t x) last.scope (names_behind (IsEvent t x) (outermost t x) items)
    last.rise group last.free c d inside b there

-- ---- the least solution

module _ (t : Content) (x : Execution) (items : List Clause) (group : List (Name × Term))
    (last : IsLast t x items group) where
  -- what a body gives of less, it gives of more
  given_more : (R Q : Name → Relation Event) → AreInside group R Q → (b : Name × Term)
      → Contains group b → (a c : Event) → GivenByBody t x items group R b.1 a c
      → GivenByBody t x items group Q b.1 a c
  given_more R Q inside b there a c pair =
      let N : Names Event = names_behind (IsEvent t x) (outermost t x) items in
      pair_inside (meaning_of (IsEvent t x) (cat.with_group R group N) b.1)
      (meaning_of (IsEvent t x) (cat.with_group Q group N) b.1)
      (bodies_grow (IsEvent t x) last.scope N last.rise group last.free R Q inside b there) a c
      pair

  least_closed : (b : Name × Term) → Contains group b → (a c : Event)
      → GivenByBody t x items group (LeastBehind t x items group) b.1 a c
      → LeastBehind t x items group b.0 a c
  least_closed b there a c pair choice closed =
      closed b there a c
      (given_more (LeastBehind t x items group) (IsChosen choice)
      (λ d in_group p q least. least choice closed) b there a c pair)

  abbrev Solution : Choice Event → Type 0
  Solution choice =
      (b : Name × Term) → Contains group b → (a c : Event)
      → IsChosen choice b.0 a c
      ↔ GivenByBody t x items group (LeastBehind t x items group) b.1 a c

  solution_closed : (choice : Choice Event) → Solution choice
      → IsClosed (IsEvent t x) (names_behind (IsEvent t x) (outermost t x) items) group choice
  solution_closed choice same b there a c pair =
      (same b there a c).1
      (given_more (IsChosen choice) (LeastBehind t x items group)
      (λ d in_group p q chosen. least_closed d in_group p q ((same d in_group p q).0 chosen)) b
      there a c pair)

  solved : Solves t x items group
  solved = record {
    closed = least_closed;
    exact = λ choice same b there a c least.
        (same b there a c).0 (least choice (solution_closed choice same));
  }

pub groups_are_solved : FaultlessGroupsAreSolved
groups_are_solved t x items group e = solved t x items group (last_group t x items group e)
