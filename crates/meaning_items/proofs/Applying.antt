-- An expression means what it means with the functions that it applies put in.
use Rattle.std.proofs.Common.{ℕ, zero, suc, ◌≡◌, ◌<◌, List, [], ◌∷◌, ◌++◌, length, reverse, get_or, Bool, true, false, bytes_eq, Option, Some, None, Result, Ok, Err, refl, ap, ap₂, sym, ◌∙◌, subst, arith}
use Rattle.std.specs.Prelude.{nat_eq, if◌then◌else◌, slice_get}
use Rattle.std.proofs.lemmas.Bool.{eq-eqb, eqb-true}
use Rattle.std.proofs.lemmas.List.{reverse-append, length-append}
use Rattle.text_values.specs.ModelValue.{Term, Terms, Atom, AllEvents, EmptyRelation, EmptySet, Join, Mark, Not, On, Apply, NoTerm, OneMore}
use Rattle.binding_kinds.specs.declared.fault.ModelFault as program
use Rattle.binding_kinds.specs.declared.fault.ModelFault.TheVariants as faults
use Rattle.binding_kinds.specs.declared.scope.Found.{Found}
use Rattle.binding_kinds.specs.declared.scope.Binder.{Binder}
use Rattle.binding_kinds.specs.declared.scope.Binder.TheVariants as binders
use Rattle.binding_kinds.specs.Value.{Naming}
use Rattle.binding_kinds.specs.Kinds.{found}
use Rattle.binding_kinds.specs.Meanings.{parameter_of}
use Rattle.binding_kinds.specs.Verdict.{or_else, of_use}
use Rattle.binding_kinds.specs.Formula.{Formula, Value, Parameter, Everything, NoPairs, NoEvents, Joined, Marked, Complement, Identity, filled}
use Rattle.binding_kinds.specs.Senses.{Sense, with_arity, sense_of_binder, sense_of, count_of}
use Rattle.binding_kinds.specs.Functions.{sense_seen, named_formula, bound_formula, applied_formula, formula_in, formulas_in}
use Rattle.binding_kinds.specs.First.{fault_inside, apply_fault, first_of_body, first_of_bodies}
use Rattle.binding_kinds.specs.Fits.{IsValue, IsKnownValue, IsFitApplied, IsFit, AreFitArguments}
use Rattle.meaning.specs.Sets.{Set}
use Rattle.meaning.specs.Names.{Name}
use Rattle.meaning.specs.Cat.{Meaning, Bound, ToMeaning, ToFunction, Names, Nothing, choice_of, bound_of, of_name, of_application, of_infix, of_postfix, of_complement, of_identity, meaning_of, meanings_of, with_arguments}
use Rattle.meaning_items.specs.Formulas.{argument_at, formula_meaning, formula_meanings}
use Rattle.meaning_items.specs.Bound.{IsFunctionAs, IsBoundBy, IsBoundAs, AreBound}

-- ---- arguments in the places of the parameters

argument_filled : {E : Type 0} (all : Set E) (value : ℕ → Meaning E) (ms : List (Meaning E))
    (fs : List Formula) (i : ℕ)
    → formula_meaning all value ms (get_or fs i NoPairs)
    ≡ argument_at (formula_meanings all value ms fs) i
argument_filled all value ms [] i = refl
argument_filled all value ms (f ∷ fs) zero = refl
argument_filled all value ms (f ∷ fs) (suc i) = argument_filled all value ms fs i

-- with its arguments put in, an expression means what it means for the meanings of the arguments
pub filled_meaning : {E : Type 0} (all : Set E) (value : ℕ → Meaning E) (ms : List (Meaning E))
    (fs : List Formula) (f : Formula)
    → formula_meaning all value ms (filled fs f)
    ≡ formula_meaning all value (formula_meanings all value ms fs) f
filled_meaning all value ms fs (Value f) = refl
filled_meaning all value ms fs (Parameter i) = argument_filled all value ms fs i
filled_meaning all value ms fs Everything = refl
filled_meaning all value ms fs NoPairs = refl
filled_meaning all value ms fs NoEvents = refl
filled_meaning all value ms fs (Joined op a b) =
    ap₂ (of_infix op) (filled_meaning all value ms fs a) (filled_meaning all value ms fs b)
filled_meaning all value ms fs (Marked op a) =
    ap (of_postfix all op) (filled_meaning all value ms fs a)
filled_meaning all value ms fs (Complement a) =
    ap (of_complement all) (filled_meaning all value ms fs a)
filled_meaning all value ms fs (Identity a) = ap of_identity (filled_meaning all value ms fs a)

-- ---- parameters

abbrev shifted : Option ℕ → Bool → Option ℕ
shifted (Some i) b = Some (suc i)
shifted None true = Some 0
shifted None false = None

parameter_before : (ps : List Name) (p x : Name)
    → parameter_of (ps ++ p ∷ []) x ≡ shifted (parameter_of ps x) (bytes_eq p x)
parameter_before [] p x = at_test (bytes_eq p x)
  where
    at_test : (b : Bool) → (if b then Some 0 else None) ≡ shifted None b
    at_test true = refl
    at_test false = refl
parameter_before (q ∷ ps) p x = at_test (bytes_eq q x) (parameter_before ps p x)
  where
    long : length (ps ++ p ∷ []) ≡ suc (length ps)
    long = let l = length-append ps (p ∷ []) in omega (arith, l)

    at_test : (b : Bool)
        → parameter_of (ps ++ p ∷ []) x ≡ shifted (parameter_of ps x) (bytes_eq p x)
        → (if b then Some (length (ps ++ p ∷ [])) else parameter_of (ps ++ p ∷ []) x)
        ≡ shifted (if b then Some (length ps) else parameter_of ps x) (bytes_eq p x)
    at_test true h = ap (λ (n : ℕ). Some n) long
    at_test false h = h

-- what a name of a body is bound to, which is a parameter or another
abbrev pub bound_inside : {E : Type 0} → List (Meaning E) → Option ℕ → Bound E → Bound E
bound_inside ms None b = b
bound_inside ms (Some i) b = ToMeaning (argument_at ms i)

pub parameter_bound : {E : Type 0} (ps : List Name) (ms : List (Meaning E)) (N : Names E) (x : Name)
    → length ms ≡ length ps
    → bound_of (with_arguments ps ms N) x
    ≡ bound_inside ms (parameter_of (reverse ps) x) (bound_of N x)
parameter_bound [] ms N x long = refl
parameter_bound (p ∷ ps) [] N x long = absurd (omega (arith, long))
parameter_bound {E} (p ∷ ps) (m ∷ ms) N x long =
    parameter_bound ps ms ((p, ToMeaning m) ∷ N) x (omega (arith, long))
    ∙ (at_parameter (parameter_of (reverse ps) x) (bytes_eq p x)
    ∙ sym (ap (λ (o : Option ℕ). bound_inside (m ∷ ms) o (bound_of N x))
    (ap (λ (l : List Name). parameter_of l x) (reverse-append (p ∷ []) ps)
    ∙ parameter_before (reverse ps) p x)))
  where
    at_parameter : (o : Option ℕ) (b : Bool)
        → bound_inside ms o (choice_of b (ToMeaning m) (bound_of N x))
        ≡ bound_inside (m ∷ ms) (shifted o b) (bound_of N x)
    at_parameter (Some i) b = refl
    at_parameter None true = refl
    at_parameter None false = refl

-- ---- which names are right

abbrev IsRightName : Option ℕ → Option Found → Type 0
IsRightName (Some i) o = Unit {0}
IsRightName None None = ⊥
IsRightName None (Some f) = IsValue f.binder

abbrev IsRightUse : Option Sense → Type 0
IsRightUse None = ⊥
IsRightUse (Some s) = Unit {0}

abbrev mutual
  -- Each name of a body is a parameter or bound, and what is applied is a function of so many.
  pub IsRight : List Sense → List Naming → List Name → Term → Type 0
  IsRight ss names ps (Atom x) = IsRightName (parameter_of (reverse ps) x) (found names x)
  IsRight ss names ps AllEvents = Unit {0}
  IsRight ss names ps EmptyRelation = Unit {0}
  IsRight ss names ps EmptySet = Unit {0}
  IsRight ss names ps (Join op a b) = IsRight ss names ps a × IsRight ss names ps b
  IsRight ss names ps (Mark op a) = IsRight ss names ps a
  IsRight ss names ps (Not a) = IsRight ss names ps a
  IsRight ss names ps (On a) = IsRight ss names ps a
  IsRight ss names ps (Apply x ts) =
      IsRightUse (sense_seen ss names ps (count_of ts) x) × AreRight ss names ps ts

  pub AreRight : List Sense → List Naming → List Name → Terms → Type 0
  AreRight ss names ps NoTerm = Unit {0}
  AreRight ss names ps (OneMore a ts) = IsRight ss names ps a × AreRight ss names ps ts

-- ---- what is applied

-- the name is no parameter, and a function of the program
pub record IsSeen (ss : List Sense) (names : List Naming) (ps : List Name) (count : ℕ) (x : Name)
    (s : Sense) : Type 0 where
  pub found_so : Found
  pub function : ℕ
  pub no_parameter : parameter_of (reverse ps) x ≡ None
  pub is_found : found names x ≡ Some found_so
  pub is_function : found_so.binder ≡ binders.Applicable function
  pub there : slice_get ss function ≡ Some s
  pub arity : s.arity ≡ count

arity_right : (count : ℕ) (o : Option Sense) (s : Sense) → with_arity count o ≡ Ok s
    → (o ≡ Some s) × (s.arity ≡ count)
arity_right count None s e = absurd (let f : Err faults.Arity ≡ Ok s = e in cc)
arity_right count (Some t) s e = at_test (nat_eq t.arity count) (eqb-true t.arity count) e
  where
    at_test : (b : Bool) → (b ≡ true → t.arity ≡ count)
        → (if b then Ok t else Err faults.Arity) ≡ Ok s → (Some t ≡ Some s) × (s.arity ≡ count)
    at_test true is h =
        let same : t ≡ s = let f : Ok t ≡ Ok s = h in cc in
        (ap (λ (q : Sense). Some q) same, subst (λ (q : Sense). q.arity ≡ count) same (is refl))
    at_test false is h = absurd (let f : Err faults.Arity ≡ Ok s = h in cc)

binder_seen : (ss : List Sense) (names : List Naming) (ps : List Name) (count : ℕ) (x : Name)
    (s : Sense) (f : Found) (b : Binder) → parameter_of (reverse ps) x ≡ None
    → found names x ≡ Some f → f.binder ≡ b → sense_of_binder ss count b ≡ Ok s
    → IsSeen ss names ps count x s
binder_seen ss names ps count x s f (binders.Predefined p) none is bound e =
    absurd (let g : Err faults.Arity ≡ Ok s = e in cc)
binder_seen ss names ps count x s f (binders.Bound i) none is bound e =
    absurd (let g : Err faults.Arity ≡ Ok s = e in cc)
binder_seen ss names ps count x s f (binders.Applicable g) none is bound e =
    let right = arity_right count (slice_get ss g) s e in
    record {
      found_so = f;
      function = g;
      no_parameter = none;
      is_found = is;
      is_function = bound;
      there = right.0;
      arity = right.1;
    }

found_seen : (ss : List Sense) (names : List Naming) (ps : List Name) (count : ℕ) (x : Name)
    (s : Sense) (o : Option Found) → parameter_of (reverse ps) x ≡ None → found names x ≡ o
    → sense_of ss count o ≡ Ok s → IsSeen ss names ps count x s
found_seen ss names ps count x s None none is e =
    absurd (let g : Err faults.Unbound ≡ Ok s = e in cc)
found_seen ss names ps count x s (Some f) none is e =
    binder_seen ss names ps count x s f f.binder none is refl e

pub seen : (ss : List Sense) (names : List Naming) (ps : List Name) (count : ℕ) (x : Name)
    (s : Sense) → sense_seen ss names ps count x ≡ Some s → IsSeen ss names ps count x s
seen ss names ps count x s e =
    at_parameter (parameter_of (reverse ps) x) (sense_of ss count (found names x)) refl refl
  where
    at_parameter : (o : Option ℕ) (r : Result Sense program.ModelFault)
        → parameter_of (reverse ps) x ≡ o → sense_of ss count (found names x) ≡ r
        → IsSeen ss names ps count x s
    at_parameter (Some i) r is there =
        let none : sense_seen ss names ps count x ≡ None = rw is refl in
        absurd (let g : None ≡ Some s = sym none ∙ e in cc)
    at_parameter None (Err k) is there =
        let none : sense_seen ss names ps count x ≡ None = rw (is, there) refl in
        absurd (let g : None ≡ Some s = sym none ∙ e in cc)
    at_parameter None (Ok t) is there =
        let some : sense_seen ss names ps count x ≡ Some t = rw (is, there) refl in
        let same : t ≡ s = let g : Some t ≡ Some s = sym some ∙ e in cc in
        found_seen ss names ps count x s (found names x) is refl
        (there ∙ ap (λ (q : Sense). Ok q) same)

-- ---- bodies

long_meanings : {E : Type 0} (all : Set E) (N : Names E) (ts : Terms)
    → length (meanings_of all N ts) ≡ count_of ts
long_meanings all N NoTerm = refl
long_meanings all N (OneMore a ts) = ap suc (long_meanings all N ts)

name_means : {E : Type 0} (all : Set E) (ss : List Sense) (value : ℕ → Meaning E)
    (ms : List (Meaning E)) (b : Bound E) (i : Option ℕ) (o : Option Found) → IsRightName i o
    → IsBoundAs all ss value o b
    → of_name (bound_inside ms i b) ≡ formula_meaning all value ms (named_formula i o)
name_means all ss value ms b (Some i) o right bound = refl
name_means all ss value ms b None None right bound = absurd right
name_means {E} all ss value ms b None (Some f) right bound = at_binder f.binder right bound
  where
    at_binder : (c : Binder) → IsValue c → IsBoundBy all ss value f.slot c b
        → of_name b ≡ formula_meaning all value ms (bound_formula f c)
    at_binder (binders.Predefined p) right bound = ap of_name bound
    at_binder (binders.Bound i) right bound = ap of_name bound
    at_binder (binders.Applicable g) right bound = absurd right

application_means : {E : Type 0} (all : Set E) (ss : List Sense) (names : List Naming) (N : Names E)
    (value : ℕ → Meaning E) (ps : List Name) (count : ℕ) (x : Name) (s : Sense)
    (ms js : List (Meaning E)) → AreBound all ss value names N → length ms ≡ length ps
    → IsSeen ss names ps count x s → length js ≡ count
    → of_application (bound_of (with_arguments ps ms N) x) js
    ≡ formula_meaning all value js s.formula
application_means {E} all ss names N value ps count x s ms js bound long h many =
    ap (λ (b : Bound E). of_application b js)
    (parameter_bound ps ms N x long
    ∙ ap (λ (o : Option ℕ). bound_inside ms o (bound_of N x)) h.no_parameter)
    ∙ (ap (λ (b : Bound E). of_application b js) function.1
    ∙ (ap (λ (t : Bool). choice_of t (function.0 js) Nothing)
    (eq-eqb s.arity (length js) (h.arity ∙ sym many))
    ∙ function.2 js (many ∙ sym h.arity)))
  where
    at_name : IsBoundAs all ss value (Some h.found_so) (bound_of N x)
    at_name = subst (λ (o : Option Found). IsBoundAs all ss value o (bound_of N x)) h.is_found
        (bound x)

    at_binder : IsFunctionAs all ss value h.found_so.slot h.function (bound_of N x)
    at_binder = subst (λ (b : Binder). IsBoundBy all ss value h.found_so.slot b (bound_of N x))
        h.is_function at_name

    same : at_binder.0 ≡ s
    same = let e : Some at_binder.0 ≡ Some s = sym at_binder.1 ∙ h.there in cc

    function : (result : List (Meaning E) → Meaning E) × (bound_of N x ≡ ToFunction s.arity result)
        × ((ks : List (Meaning E)) → length ks ≡ s.arity
        → result ks ≡ formula_meaning all value ks s.formula)
    function = subst
        (λ (q : Sense). (result : List (Meaning E) → Meaning E)
        × (bound_of N x ≡ ToFunction q.arity result)
        × ((ks : List (Meaning E)) → length ks ≡ q.arity
        → result ks ≡ formula_meaning all value ks q.formula)) same
        (at_binder.3, at_binder.4, at_binder.5)

sense_means : {E : Type 0} (all : Set E) (ss : List Sense) (names : List Naming) (N : Names E)
    (value : ℕ → Meaning E) (ps : List Name) (ms : List (Meaning E))
    → AreBound all ss value names N → length ms ≡ length ps → (x : Name) (ts : Terms)
    (o : Option Sense) → sense_seen ss names ps (count_of ts) x ≡ o → IsRightUse o
    → meanings_of all (with_arguments ps ms N) ts
    ≡ formula_meanings all value ms (formulas_in ss names ps ts)
    → of_application (bound_of (with_arguments ps ms N) x)
    (meanings_of all (with_arguments ps ms N) ts)
    ≡ formula_meaning all value ms
    (applied_formula (sense_seen ss names ps (count_of ts) x) (formulas_in ss names ps ts))
sense_means all ss names N value ps ms bound long x ts None is it same = absurd it
sense_means {E} all ss names N value ps ms bound long x ts (Some s) is it same =
    application_means all ss names N value ps (count_of ts) x s ms
    (meanings_of all (with_arguments ps ms N) ts) bound long
    (seen ss names ps (count_of ts) x s is) (long_meanings all (with_arguments ps ms N) ts)
    ∙ (ap (λ (js : List (Meaning E)). formula_meaning all value js s.formula) same
    ∙ (sym (filled_meaning all value ms (formulas_in ss names ps ts) s.formula)
    ∙ ap (λ (o : Option Sense). formula_meaning all value ms
    (applied_formula o (formulas_in ss names ps ts))) (sym is)))

mutual
  -- a body where its parameters stand for arguments
  pub body_means : {E : Type 0} (all : Set E) (ss : List Sense) (names : List Naming) (N : Names E)
      (value : ℕ → Meaning E) (ps : List Name) (ms : List (Meaning E))
      → AreBound all ss value names N → length ms ≡ length ps → (t : Term) → IsRight ss names ps t
      → meaning_of all (with_arguments ps ms N) t
      ≡ formula_meaning all value ms (formula_in ss names ps t)
  body_means all ss names N value ps ms bound long (Atom x) right =
      ap of_name (parameter_bound ps ms N x long)
      ∙ name_means all ss value ms (bound_of N x) (parameter_of (reverse ps) x) (found names x) right
      (bound x)
  body_means all ss names N value ps ms bound long AllEvents right = refl
  body_means all ss names N value ps ms bound long EmptyRelation right = refl
  body_means all ss names N value ps ms bound long EmptySet right = refl
  body_means all ss names N value ps ms bound long (Join op a b) right =
      ap₂ (of_infix op) (body_means all ss names N value ps ms bound long a right.0)
      (body_means all ss names N value ps ms bound long b right.1)
  body_means all ss names N value ps ms bound long (Mark op a) right =
      ap (of_postfix all op) (body_means all ss names N value ps ms bound long a right)
  body_means all ss names N value ps ms bound long (Not a) right =
      ap (of_complement all) (body_means all ss names N value ps ms bound long a right)
  body_means all ss names N value ps ms bound long (On a) right =
      ap of_identity (body_means all ss names N value ps ms bound long a right)
  body_means all ss names N value ps ms bound long (Apply x ts) right =
      sense_means all ss names N value ps ms bound long x ts
      (sense_seen ss names ps (count_of ts) x) refl right.0
      (bodies_mean all ss names N value ps ms bound long ts right.1)

  pub bodies_mean : {E : Type 0} (all : Set E) (ss : List Sense) (names : List Naming) (N : Names E)
      (value : ℕ → Meaning E) (ps : List Name) (ms : List (Meaning E))
      → AreBound all ss value names N → length ms ≡ length ps → (ts : Terms)
      → AreRight ss names ps ts
      → meanings_of all (with_arguments ps ms N) ts
      ≡ formula_meanings all value ms (formulas_in ss names ps ts)
  bodies_mean all ss names N value ps ms bound long NoTerm right = refl
  bodies_mean all ss names N value ps ms bound long (OneMore a ts) right =
      ap₂ (λ m ms. m ∷ ms) (body_means all ss names N value ps ms bound long a right.0)
      (bodies_mean all ss names N value ps ms bound long ts right.1)

-- ---- expressions and bodies without fault

fit_use : (ss : List Sense) (names : List Naming) (count : ℕ) (x : Name)
    (r : Result Sense program.ModelFault) (sizes : List ℕ) (kinds : _)
    → sense_of ss count (found names x) ≡ r → IsFitApplied r sizes kinds
    → IsRightUse (sense_seen ss names [] count x)
fit_use ss names count x (Ok s) sizes kinds is h =
    let some : sense_seen ss names [] count x ≡ Some s = rw is refl in
    subst IsRightUse (sym some) tt
fit_use ss names count x (Err k) sizes kinds is h = absurd h

mutual
  pub fit_right : (ss : List Sense) (names : List Naming) (t : Term) → IsFit ss names t
      → IsRight ss names [] t
  fit_right ss names (Atom x) h = at_found (found names x) h
    where
      at_found : (o : Option Found) → IsKnownValue o → IsRightName None o
      at_found None h = absurd h
      at_found (Some f) h = h.0
  fit_right ss names AllEvents h = tt
  fit_right ss names EmptyRelation h = tt
  fit_right ss names EmptySet h = tt
  fit_right ss names (Join op a b) h = (fit_right ss names a h.0, fit_right ss names b h.1)
  fit_right ss names (Mark op a) h = fit_right ss names a h.0
  fit_right ss names (Not a) h = fit_right ss names a h
  fit_right ss names (On a) h = fit_right ss names a h.0
  fit_right ss names (Apply x ts) h = (
    fit_use ss names (count_of ts) x (sense_of ss (count_of ts) (found names x)) _ _ refl h.0,
    fit_arguments_right ss names ts h.1,
  )

  fit_arguments_right : (ss : List Sense) (names : List Naming) (ts : Terms)
      → AreFitArguments ss names ts → AreRight ss names [] ts
  fit_arguments_right ss names NoTerm h = tt
  fit_arguments_right ss names (OneMore a ts) h =
      (fit_right ss names a h.0, fit_arguments_right ss names ts h.1)

pub none_first : (o q : Option program.ModelFault) → or_else o q ≡ None → (o ≡ None) × (q ≡ None)
none_first None q e = (refl, e)
none_first (Some k) q e = absurd (let f : Some k ≡ None = e in cc)

right_inside : (i : Option ℕ) (o : Option Found) → fault_inside i o ≡ None → IsRightName i o
right_inside (Some i) o e = tt
right_inside None None e = absurd (let f : Some faults.Unbound ≡ None = e in cc)
right_inside None (Some f) e = at_binder f.binder e
  where
    at_binder : (b : Binder) → of_use b 0 false f.slot ≡ None → IsValue b
    at_binder (binders.Predefined p) e = tt
    at_binder (binders.Bound i) e = tt
    at_binder (binders.Applicable g) e = absurd (let h : Some faults.Arity ≡ None = e in cc)

right_applied : (ss : List Sense) (names : List Naming) (ps : List Name) (count : ℕ) (x : Name)
    (i : Option ℕ) (r : Result Sense program.ModelFault) → parameter_of (reverse ps) x ≡ i
    → sense_of ss count (found names x) ≡ r → apply_fault i r ≡ None
    → IsRightUse (sense_seen ss names ps count x)
right_applied ss names ps count x (Some i) r is there e =
    absurd (let f : Some faults.Arity ≡ None = e in cc)
right_applied ss names ps count x None (Ok s) is there e =
    let some : sense_seen ss names ps count x ≡ Some s = rw (is, there) refl in
    subst IsRightUse (sym some) tt
right_applied ss names ps count x None (Err k) is there e =
    absurd (let f : Some k ≡ None = e in cc)

mutual
  pub body_right : (ss : List Sense) (names : List Naming) (ps : List Name) (t : Term)
      → first_of_body ss names ps t ≡ None → IsRight ss names ps t
  body_right ss names ps (Atom x) e =
      right_inside (parameter_of (reverse ps) x) (found names x) e
  body_right ss names ps AllEvents e = tt
  body_right ss names ps EmptyRelation e = tt
  body_right ss names ps EmptySet e = tt
  body_right ss names ps (Join op a b) e =
      let both = none_first (first_of_body ss names ps a) (first_of_body ss names ps b) e in
      (body_right ss names ps a both.0, body_right ss names ps b both.1)
  body_right ss names ps (Mark op a) e = body_right ss names ps a e
  body_right ss names ps (Not a) e = body_right ss names ps a e
  body_right ss names ps (On a) e = body_right ss names ps a e
  body_right ss names ps (Apply x ts) e =
      let both = none_first
      (apply_fault (parameter_of (reverse ps) x)
      (sense_of ss (count_of ts) (found names x)))
      (first_of_bodies ss names ps ts) e in (
        right_applied ss names ps (count_of ts) x (parameter_of (reverse ps) x)
            (sense_of ss (count_of ts) (found names x)) refl refl both.0,
        bodies_right ss names ps ts both.1,
      )

  bodies_right : (ss : List Sense) (names : List Naming) (ps : List Name) (ts : Terms)
      → first_of_bodies ss names ps ts ≡ None → AreRight ss names ps ts
  bodies_right ss names ps NoTerm e = tt
  bodies_right ss names ps (OneMore a ts) e =
      let both = none_first (first_of_body ss names ps a) (first_of_bodies ss names ps ts) e in
      (body_right ss names ps a both.0, bodies_right ss names ps ts both.1)
