-- An expression without the fault M3 means no less where the names of a recursive group stand for
-- more, also through functions.
use Rattle.std.proofs.Common.{◌≡◌, ℕ, suc, List, [], ◌∷◌, ◌++◌, length, nat_eq, nat_lt, bytes_eq, map, Bool, true, false, ◌&&◌, ◌||◌, Option, Some, None, refl, sym, ap, subst, ◌∙◌, append_assoc, arith}
use Rattle.std.specs.Prelude.{not, if◌then◌else◌, replicate}
use Rattle.std.specs.List.{list_any}
use Rattle.std.proofs.lemmas.Bool.{eqb-true}
use Rattle.std.proofs.lemmas.List.Folds.{list_any-append}
use Rattle.text_values.specs.declared.model.Infix.{Infix}
use Rattle.text_values.specs.declared.model.Infix.TheVariants as infixes
use Rattle.text_values.specs.declared.model.Postfix.{Postfix}
use Rattle.text_values.specs.ModelValue.{Term, Terms, Atom, AllEvents, EmptyRelation, EmptySet, Join, Mark, Not, On, Apply, NoTerm, OneMore}
use Rattle.meaning.specs.Sets.{Set}
use Rattle.meaning.specs.Names.{Name}
use Rattle.meaning.specs.Cat.{Meaning, Nothing, Bound, ToMeaning, ToFunction, ToNothing, Names, choice_of, bound_of, of_name, of_application, of_infix, of_postfix, of_complement, of_identity, meaning_of, meanings_of, with_arguments}
use Rattle.meaning.specs.Faults.{ModelFault, NotMonotone, Kind, TooLarge, Arity, OfAny, KnownName, Finding, Known, AsValue, AsFunction, Scope, known_as, takes, is_set, is_relation, is_falling_right, fault_if, is_kind_fault, is_monotone_fault, value_with, in_name, is_falling_parameter, faults_in, in_application, in_wrong_application, in_use, in_term, in_terms, with_parameters, in_body}
use Rattle.meaning_laws.specs.Inside.{IsInside, IsAlike}
use Rattle.meaning_laws.proofs.Inside.{itself, alike_itself, through, infix_inside, infix_alike, postfix_inside, identity_inside, complement_inside}
use Rattle.meaning_laws.proofs.Alike.{AllAlike, AlikeNames, alike_meaning, alike_arguments}

-- alike, if the test is true, and else inside
abbrev pub IsRisen : {E : Type 0} → Bool → Meaning E → Meaning E → Type 0
IsRisen true m k = IsAlike m k
IsRisen false m k = IsInside m k

alike_risen : {E : Type 0} (f : Bool) (m k : Meaning E) → IsAlike m k → IsRisen f m k
alike_risen true m k h = h
alike_risen false m k h = h.0

pub same_risen : {E : Type 0} (f : Bool) (m : Meaning E) → IsRisen f m m
same_risen f m = alike_risen f m m (alike_itself m)

-- one by one, by a test of the index
abbrev pub AreRisen : {E : Type 0} → (ℕ → Bool) → ℕ → List (Meaning E) → List (Meaning E) → Type 0
AreRisen g i [] [] = Unit {0}
AreRisen g i (m ∷ ms) (k ∷ ks) = IsRisen (g i) m k × AreRisen g (suc i) ms ks
AreRisen g i _ _ = ⊥

-- no fault is M3
abbrev pub NoFall : List ModelFault → Type 0
NoFall fs = list_any is_monotone_fault fs ≡ false

-- a function gives no less of more, in the arguments that may grow
abbrev pub DoesRise : {E : Type 0} → (List KnownName → Finding) → ℕ → (List (Meaning E) → Meaning E) → Type 1
DoesRise {E} body arity r =
    (ms ks : List (Meaning E)) → arity ≡ length ms → arity ≡ length ks
    → AreRisen (is_falling_parameter body) 0 ms ks → IsInside (r ms) (r ks)

pub data RisesBound {E : Type 0} : Known → Bound E → Bound E → Type 1 where
  value : (v : KnownName) (m k : Meaning E) → IsRisen (not v.recursive) m k
      → RisesBound (AsValue v) (ToMeaning m) (ToMeaning k)
  function : (arity : ℕ) (body : List KnownName → Finding) (r : List (Meaning E) → Meaning E)
      → DoesRise body arity r
      → RisesBound (AsFunction arity body) (ToFunction arity r) (ToFunction arity r)

pub data RisesNames {E : Type 0} : Scope → Names E → Names E → Type 1 where
  none : RisesNames [] [] []
  more : (n : Name) (k : Known) (b c : Bound E) (S : Scope) (N K : Names E) → RisesBound k b c
      → RisesNames S N K → RisesNames ((n, k) ∷ S) ((n, b) ∷ N) ((n, c) ∷ K)

data Looked {E : Type 0} : Option Known → Bound E → Bound E → Type 1 where
  unbound : Looked None ToNothing ToNothing
  bound : (k : Known) (b c : Bound E) → RisesBound k b c → Looked (Some k) b c

looked_either : {E : Type 0} (t : Bool) (k : Known) (b c : Bound E) (o : Option Known) (d e : Bound E)
    → RisesBound k b c → Looked o d e
    → Looked (if t then Some k else o) (choice_of t b d) (choice_of t c e)
looked_either true k b c o d e first second = bound k b c first
looked_either false k b c o d e first second = second

looked : {E : Type 0} (S : Scope) (N K : Names E) → RisesNames S N K → (n : Name)
    → Looked (known_as S n) (bound_of N n) (bound_of K n)
looked S N K none n = unbound
looked S N K (more q k b c T M L first rest) n =
    looked_either (bytes_eq q n) k b c (known_as T n) (bound_of M n) (bound_of L n) first
    (looked T M L rest n)

-- ---- faults

either_false : (x y : Bool) → (x || y) ≡ false → (x ≡ false) × (y ≡ false)
either_false true y e = absurd (let wrong : ⊥ = cc in wrong)
either_false false y e = (refl, e)

pub fall_split : (fs gs : List ModelFault) → NoFall (fs ++ gs) → NoFall fs × NoFall gs
fall_split fs gs e =
    either_false (list_any is_monotone_fault fs) (list_any is_monotone_fault gs)
    (sym (list_any-append is_monotone_fault fs gs) ∙ e)

value_risen : {E : Type 0} (r f : Bool) (m k : Meaning E) → IsRisen (not r) m k
    → NoFall (fault_if (r && f) NotMonotone) → IsRisen f m k
value_risen true true m k h e = absurd (let wrong : true ≡ false = e in let never : ⊥ = cc in never)
value_risen true false m k h e = h
value_risen false true m k h e = h
value_risen false false m k h e = h.0

name_risen : {E : Type 0} (f : Bool) (o : Option Known) (b c : Bound E) → Looked o b c
    → NoFall (in_name f o).faults → IsRisen f (of_name b) (of_name c)
name_risen f o b c unbound e = same_risen f Nothing
name_risen f o b c (bound k d g (value v m l h)) e = value_risen v.recursive f m l h e
name_risen f o b c (bound k d g (function arity body r h)) e = same_risen f Nothing

-- ---- operators

join_risen : {E : Type 0} (f : Bool) (op : Infix) (m k n l : Meaning E) → IsRisen f m k
    → IsRisen (is_falling_right op f) n l → IsRisen f (of_infix op m n) (of_infix op k l)
join_risen true infixes.Union m k n l h g = infix_alike infixes.Union m k n l h g
join_risen true infixes.Intersection m k n l h g = infix_alike infixes.Intersection m k n l h g
join_risen true infixes.Difference m k n l h g = infix_alike infixes.Difference m k n l h g
join_risen true infixes.Product m k n l h g = infix_alike infixes.Product m k n l h g
join_risen true infixes.Sequence m k n l h g = infix_alike infixes.Sequence m k n l h g
join_risen false infixes.Union m k n l h g = infix_inside infixes.Union m k n l h g
join_risen false infixes.Intersection m k n l h g =
    infix_inside infixes.Intersection m k n l h g
join_risen false infixes.Difference m k n l h g = infix_inside infixes.Difference m k n l h g.1
join_risen false infixes.Product m k n l h g = infix_inside infixes.Product m k n l h g
join_risen false infixes.Sequence m k n l h g = infix_inside infixes.Sequence m k n l h g

mark_risen : {E : Type 0} (f : Bool) (all : Set E) (op : Postfix) (m k : Meaning E) → IsRisen f m k
    → IsRisen f (of_postfix all op m) (of_postfix all op k)
mark_risen true all op m k h = (postfix_inside all op m k h.0, postfix_inside all op k m h.1)
mark_risen false all op m k h = postfix_inside all op m k h

not_risen : {E : Type 0} (f : Bool) (all : Set E) (m k : Meaning E) → IsAlike m k
    → IsRisen f (of_complement all m) (of_complement all k)
not_risen f all m k h =
    alike_risen f (of_complement all m) (of_complement all k)
    (complement_inside all k m h.1, complement_inside all m k h.0)

on_risen : {E : Type 0} (f : Bool) (m k : Meaning E) → IsRisen f m k
    → IsRisen f (of_identity m) (of_identity k)
on_risen true m k h = (identity_inside m k h.0, identity_inside k m h.1)
on_risen false m k h = identity_inside m k h

-- ---- applications

risen_length : {E : Type 0} (g : ℕ → Bool) (i : ℕ) (ms ks : List (Meaning E)) → AreRisen g i ms ks
    → length ms ≡ length ks
risen_length g i [] [] h = refl
risen_length g i [] (k ∷ ks) h = absurd h
risen_length g i (m ∷ ms) [] h = absurd h
risen_length g i (m ∷ ms) (k ∷ ks) h = ap suc (risen_length g (suc i) ms ks h.1)

-- where all are alike, they have risen by any test, and the other way round
all_alike : {E : Type 0} (g : ℕ → Bool) (i : ℕ) (ms ks : List (Meaning E)) → AreRisen (λ j. true) i ms ks
    → AreRisen g i ms ks × AreRisen g i ks ms
all_alike g i [] [] h = (tt, tt)
all_alike g i [] (k ∷ ks) h = absurd h
all_alike g i (m ∷ ms) [] h = absurd h
all_alike g i (m ∷ ms) (k ∷ ks) h =
    let rest : AreRisen g (suc i) ms ks × AreRisen g (suc i) ks ms = all_alike g (suc i) ms ks h.1 in
    ((alike_risen (g i) m k h.0, rest.0), (alike_risen (g i) k m (h.0.1, h.0.0), rest.1))

result_risen : {E : Type 0} (f : Bool) (body : List KnownName → Finding) (arity : ℕ)
    (r : List (Meaning E) → Meaning E) (ms ks : List (Meaning E)) → DoesRise body arity r
    → arity ≡ length ms → arity ≡ length ks
    → AreRisen (λ i. f || is_falling_parameter body i) 0 ms ks → IsRisen f (r ms) (r ks)
result_risen true body arity r ms ks rise ms_as ks_as h =
    let both : AreRisen (is_falling_parameter body) 0 ms ks × AreRisen (is_falling_parameter body) 0 ks ms = all_alike (is_falling_parameter body) 0 ms ks h in
    (rise ms ks ms_as ks_as both.0, rise ks ms ks_as ms_as both.1)
result_risen false body arity r ms ks rise ms_as ks_as h = rise ms ks ms_as ks_as h

-- what is found in the arguments, by what must not grow, and what follows where none of it is M3
abbrev Argued : {E : Type 0} → (ℕ → Bool) → ((ℕ → Bool) → List Finding) → List (Meaning E)
    → List (Meaning E) → Type 0
Argued f arguments ms ks =
    (g : ℕ → Bool) → NoFall (faults_in (arguments g)) → AreRisen (λ i. f i || g i) 0 ms ks

application_faults : (inside : Bool) (body : Finding) (arguments : List Finding)
    → NoFall (in_application inside body arguments).faults → NoFall (faults_in arguments)
application_faults inside body arguments e =
    let large : List ModelFault = fault_if (not inside && nat_lt 4096 body.size) TooLarge in
    let kind : List ModelFault = fault_if (list_any is_kind_fault body.faults) Kind in
    (fall_split kind (faults_in arguments) (fall_split large (kind ++ faults_in arguments) e).1).1

function_risen : {E : Type 0} (f inside : Bool) (arity : ℕ) (body : List KnownName → Finding)
    (r : List (Meaning E) → Meaning E) (arguments : (ℕ → Bool) → List Finding)
    (ms ks : List (Meaning E)) (t : Bool) → DoesRise body arity r
    → nat_eq arity (length (arguments (λ i. false))) ≡ t
    → length (arguments (λ i. false)) ≡ length ms → length ms ≡ length ks
    → Argued (λ i. f) arguments ms ks
    → NoFall (if t then in_application inside (body (map (λ a. value_with a.kind a.size false) (arguments (λ i. false)))) (arguments (is_falling_parameter body)) else in_wrong_application Arity arguments).faults
    → IsRisen f (choice_of t (r ms) Nothing) (choice_of t (r ks) Nothing)
function_risen f inside arity body r arguments ms ks false rise test plain same argued e =
    same_risen f Nothing
function_risen f inside arity body r arguments ms ks true rise test plain same argued e =
    let ms_as : arity ≡ length ms = eqb-true arity (length (arguments (λ i. false))) test ∙ plain in
    result_risen f body arity r ms ks rise ms_as (ms_as ∙ same)
    (argued (is_falling_parameter body)
    (application_faults inside (body (map (λ a. value_with a.kind a.size false) (arguments (λ i. false))))
    (arguments (is_falling_parameter body)) e))

use_risen : {E : Type 0} (f inside : Bool) (o : Option Known) (b c : Bound E)
    (arguments : (ℕ → Bool) → List Finding) (ms ks : List (Meaning E)) → Looked o b c
    → length (arguments (λ i. false)) ≡ length ms → length ms ≡ length ks
    → Argued (λ i. f) arguments ms ks → NoFall (in_use inside o arguments).faults
    → IsRisen f (of_application b ms) (of_application c ks)
use_risen f inside o b c arguments ms ks unbound plain same argued e = same_risen f Nothing
use_risen f inside o b c arguments ms ks (bound k d g (value v m l h)) plain same argued e =
    same_risen f Nothing
use_risen f inside o b c arguments ms ks (bound k d g (function arity body r rise)) plain same argued e =
    let t : Bool = nat_eq arity (length (arguments (λ i. false))) in
    subst (λ (n : ℕ). IsRisen f (of_application (ToFunction arity r) ms) (choice_of (nat_eq arity n) (r ks) Nothing))
    (plain ∙ same)
    (subst (λ (n : ℕ). IsRisen f (choice_of (nat_eq arity n) (r ms) Nothing) (choice_of t (r ks) Nothing))
    plain
    (function_risen f inside arity body r arguments ms ks t rise refl plain same argued e))

arguments_length : {E : Type 0} (all : Set E) (inside : Bool) (S : Scope) (g : ℕ → Bool) (i : ℕ) (ts : Terms)
    (N : Names E) → length (in_terms inside S g i ts) ≡ length (meanings_of all N ts)
arguments_length all inside S g i NoTerm N = refl
arguments_length all inside S g i (OneMore a ts) N =
    ap suc (arguments_length all inside S g (suc i) ts N)

meanings_length : {E : Type 0} (all : Set E) (N K : Names E) (ts : Terms)
    → length (meanings_of all N ts) ≡ length (meanings_of all K ts)
meanings_length all N K NoTerm = refl
meanings_length all N K (OneMore a ts) = ap suc (meanings_length all N K ts)

-- ---- expressions

mutual
  pub rises : {E : Type 0} (all : Set E) (S : Scope) (N K : Names E) → RisesNames S N K
      → (inside f : Bool) (t : Term) → NoFall (in_term inside S f t).faults
      → IsRisen f (meaning_of all N t) (meaning_of all K t)
  rises all S N K names inside f (Atom n) e =
      name_risen f (known_as S n) (bound_of N n) (bound_of K n) (looked S N K names n) e
  rises all S N K names inside f AllEvents e = same_risen f (meaning_of all N AllEvents)
  rises all S N K names inside f EmptyRelation e =
      same_risen f (meaning_of all N EmptyRelation)
  rises all S N K names inside f EmptySet e = same_risen f (meaning_of all N EmptySet)
  rises all S N K names inside f (Join op a b) e =
      let x : Finding = in_term inside S f a in
      let y : Finding = in_term inside S (is_falling_right op f) b in
      let clash : List ModelFault = fault_if (not (takes op x.kind y.kind)) Kind in
      let parts : NoFall x.faults × NoFall (clash ++ y.faults) = fall_split x.faults (clash ++ y.faults) e in
      join_risen f op (meaning_of all N a) (meaning_of all K a) (meaning_of all N b)
      (meaning_of all K b) (rises all S N K names inside f a parts.0)
      (rises all S N K names inside (is_falling_right op f) b (fall_split clash y.faults parts.1).1)
  rises all S N K names inside f (Mark op a) e =
      let x : Finding = in_term inside S f a in
      mark_risen f all op (meaning_of all N a) (meaning_of all K a)
      (rises all S N K names inside f a (fall_split x.faults (fault_if (not (is_relation x.kind)) Kind) e).0)
  rises all S N K names inside f (Not a) e =
      not_risen f all (meaning_of all N a) (meaning_of all K a)
      (rises all S N K names inside true a e)
  rises all S N K names inside f (On a) e =
      let x : Finding = in_term inside S f a in
      on_risen f (meaning_of all N a) (meaning_of all K a)
      (rises all S N K names inside f a (fall_split (fault_if (not (is_set x.kind)) Kind) x.faults e).1)
  rises all S N K names inside f (Apply n ts) e =
      use_risen f inside (known_as S n) (bound_of N n) (bound_of K n)
      (λ g. in_terms inside S (λ i. f || g i) 0 ts) (meanings_of all N ts) (meanings_of all K ts)
      (looked S N K names n) (arguments_length all inside S (λ i. f || false) 0 ts N)
      (meanings_length all N K ts)
      (λ g free. rises_all all S N K names inside (λ i. f || g i) 0 ts free) e

  pub rises_all : {E : Type 0} (all : Set E) (S : Scope) (N K : Names E) → RisesNames S N K
      → (inside : Bool) (g : ℕ → Bool) (i : ℕ) (ts : Terms)
      → NoFall (faults_in (in_terms inside S g i ts))
      → AreRisen g i (meanings_of all N ts) (meanings_of all K ts)
  rises_all all S N K names inside g i NoTerm e = tt
  rises_all all S N K names inside g i (OneMore a ts) e =
      let parts : NoFall (in_term inside S (g i) a).faults × NoFall (faults_in (in_terms inside S g (suc i) ts)) = fall_split (in_term inside S (g i) a).faults (faults_in (in_terms inside S g (suc i) ts)) e in
      (rises all S N K names inside (g i) a parts.0, rises_all all S N K names inside g (suc i) ts parts.1)

-- ---- functions

abbrev plain_name : KnownName
plain_name = value_with OfAny 1 false

abbrev growing_name : KnownName
growing_name = value_with OfAny 1 true

abbrev one_grows : ℕ → List KnownName
one_grows i = replicate i plain_name ++ growing_name ∷ []

rest_rise : {E : Type 0} (ps : List Name) (ms : List (Meaning E)) (S : Scope) (N K : Names E)
    → length ps ≡ length ms → RisesNames S N K
    → RisesNames (with_parameters ps [] S) (with_arguments ps ms N) (with_arguments ps ms K)
rest_rise [] ms S N K same names = names
rest_rise (p ∷ ps) [] S N K same names = absurd (omega (arith, same))
rest_rise (p ∷ ps) (m ∷ ms) S N K same names =
    rest_rise ps ms ((p, AsValue plain_name) ∷ S) ((p, ToMeaning m) ∷ N) ((p, ToMeaning m) ∷ K)
    (omega (arith, same))
    (more p (AsValue plain_name) (ToMeaning m) (ToMeaning m) S N K
    (value plain_name m m (alike_itself m)) names)

rest_rise_on : {E : Type 0} (ps : List Name) (after : List (Meaning E)) (S : Scope) (N K : Names E) (p : Name)
    (m k : Meaning E) → length ps ≡ length after → IsInside m k → RisesNames S N K
    → RisesNames (with_parameters ps [] ((p, AsValue growing_name) ∷ S))
    (with_arguments ps after ((p, ToMeaning m) ∷ N)) (with_arguments ps after ((p, ToMeaning k) ∷ K))
rest_rise_on ps after S N K p m k same h names =
    rest_rise ps after ((p, AsValue growing_name) ∷ S) ((p, ToMeaning m) ∷ N)
    ((p, ToMeaning k) ∷ K) same
    (more p (AsValue growing_name) (ToMeaning m) (ToMeaning k) S N K (value growing_name m k h) names)

one_rises : {E : Type 0} (ps : List Name) (before : List (Meaning E)) (m k : Meaning E)
    (after : List (Meaning E)) (S : Scope) (N K : Names E)
    → length ps ≡ length (before ++ m ∷ after) → IsInside m k → RisesNames S N K
    → RisesNames (with_parameters ps (one_grows (length before)) S)
    (with_arguments ps (before ++ m ∷ after) N) (with_arguments ps (before ++ k ∷ after) K)
one_rises [] [] m k after S N K same h names = absurd (omega (arith, same))
one_rises [] (x ∷ before) m k after S N K same h names = absurd (omega (arith, same))
one_rises (p ∷ ps) [] m k after S N K same h names =
    rest_rise_on ps after S N K p m k (omega (arith, same)) h names
one_rises (p ∷ ps) (x ∷ before) m k after S N K same h names =
    one_rises ps before m k after ((p, AsValue plain_name) ∷ S) ((p, ToMeaning x) ∷ N)
    ((p, ToMeaning x) ∷ K) (omega (arith, same)) h
    (more p (AsValue plain_name) (ToMeaning x) (ToMeaning x) S N K
    (value plain_name x x (alike_itself x)) names)

each_alike : {E : Type 0} (ms : List (Meaning E)) → AllAlike ms ms
each_alike [] = tt
each_alike (m ∷ ms) = (alike_itself m, each_alike ms)

alike_but_one : {E : Type 0} (before : List (Meaning E)) (m k : Meaning E) (after : List (Meaning E))
    → IsAlike m k → AllAlike (before ++ m ∷ after) (before ++ k ∷ after)
alike_but_one [] m k after h = (h, each_alike after)
alike_but_one (x ∷ before) m k after h = (alike_itself x, alike_but_one before m k after h)

-- a function rises in one argument
step_inside : {E : Type 0} (all : Set E) (S : Scope) (N : Names E) → RisesNames S N N → AlikeNames N N
    → (ps : List Name) (t : Term) (before : List (Meaning E)) (m k : Meaning E)
    (after : List (Meaning E)) (f : Bool) → is_falling_parameter (in_body S ps t) (length before) ≡ f
    → length ps ≡ length (before ++ m ∷ after) → IsRisen f m k
    → IsInside (meaning_of all (with_arguments ps (before ++ m ∷ after) N) t)
    (meaning_of all (with_arguments ps (before ++ k ∷ after) N) t)
step_inside all S N names alike ps t before m k after true test same h =
    (alike_meaning all (with_arguments ps (before ++ m ∷ after) N)
    (with_arguments ps (before ++ k ∷ after) N)
    (alike_arguments ps (before ++ m ∷ after) (before ++ k ∷ after) N N
    (alike_but_one before m k after h) alike) t).0
step_inside all S N names alike ps t before m k after false test same h =
    rises all (with_parameters ps (one_grows (length before)) S)
    (with_arguments ps (before ++ m ∷ after) N) (with_arguments ps (before ++ k ∷ after) N)
    (one_rises ps before m k after S N N same h names) true false t test

push_length : {E : Type 0} (before : List (Meaning E)) (k : Meaning E)
    → suc (length before) ≡ length (before ++ k ∷ [])
push_length [] k = refl
push_length (x ∷ before) k = ap suc (push_length before k)

same_lengths : {E : Type 0} (before ms : List (Meaning E)) (m k : Meaning E)
    → length (before ++ m ∷ ms) ≡ length (before ++ k ∷ ms)
same_lengths [] ms m k = refl
same_lengths (x ∷ before) ms m k = ap suc (same_lengths before ms m k)

-- and so in all, one after another
chain : {E : Type 0} (all : Set E) (S : Scope) (N : Names E) → RisesNames S N N → AlikeNames N N
    → (ps : List Name) (t : Term) (before ms ks : List (Meaning E))
    → length ps ≡ length (before ++ ms)
    → AreRisen (is_falling_parameter (in_body S ps t)) (length before) ms ks
    → IsInside (meaning_of all (with_arguments ps (before ++ ms) N) t)
    (meaning_of all (with_arguments ps (before ++ ks) N) t)
chain all S N names alike ps t before [] [] same h =
    itself (meaning_of all (with_arguments ps (before ++ []) N) t)
chain all S N names alike ps t before [] (k ∷ ks) same h = absurd h
chain all S N names alike ps t before (m ∷ ms) [] same h = absurd h
chain {E} all S N names alike ps t before (m ∷ ms) (k ∷ ks) same h =
    let r : List (Meaning E) → Meaning E = λ (l : List (Meaning E)). meaning_of all (with_arguments ps l N) t in
    let f : Bool = is_falling_parameter (in_body S ps t) (length before) in
    let first : IsInside (r (before ++ m ∷ ms)) (r (before ++ k ∷ ms)) = step_inside all S N names alike ps t before m k ms f refl same h.0 in
    let moved : (before ++ k ∷ []) ++ ms ≡ before ++ k ∷ ms = append_assoc before (k ∷ []) ms in
    let ends : (before ++ k ∷ []) ++ ks ≡ before ++ k ∷ ks = append_assoc before (k ∷ []) ks in
    let rest : AreRisen (is_falling_parameter (in_body S ps t)) (length (before ++ k ∷ [])) ms ks = subst (λ (i : ℕ). AreRisen (is_falling_parameter (in_body S ps t)) i ms ks) (push_length before k) h.1 in
    let later : IsInside (r ((before ++ k ∷ []) ++ ms)) (r ((before ++ k ∷ []) ++ ks)) = chain all S N names alike ps t (before ++ k ∷ []) ms ks (same ∙ (same_lengths before ms m k ∙ ap (λ (l : List (Meaning E)). length l) (sym moved))) rest in
    through (r (before ++ m ∷ ms)) (r (before ++ k ∷ ms)) (r (before ++ k ∷ ks)) first
    (subst (λ (l : List (Meaning E)). IsInside (r l) (r (before ++ k ∷ ks))) moved
    (subst (λ (l : List (Meaning E)). IsInside (r ((before ++ k ∷ []) ++ ms)) (r l)) ends later))

pub body_rises : {E : Type 0} (all : Set E) (S : Scope) (N : Names E) → RisesNames S N N → AlikeNames N N
    → (ps : List Name) (t : Term)
    → DoesRise (in_body S ps t) (length ps) (λ ms. meaning_of all (with_arguments ps ms N) t)
body_rises all S N names alike ps t ms ks ms_as ks_as h =
    chain all S N names alike ps t [] ms ks ms_as h
