-- What is said of the kinds of a function holds of its body with the functions that it applies put
-- in.
use Rattle.std.proofs.Common.{ℕ, zero, suc, ◌≡◌, ◌<◌, ◌++◌, List, [], ◌∷◌, length, reverse, Bool, true, false, ◌||◌, IsTrue, Option, Some, None, Result, Ok, Err, refl, sym, ap, ◌∙◌, subst, arith, rules}
use Rattle.std.specs.Prelude.{nat_eq, not, if◌then◌else◌, get_or, slice_get}
use Rattle.text_values.specs.ModelValue.{Term, Terms, Atom, AllEvents, EmptyRelation, EmptySet, Join, Mark, Not, On, Apply, NoTerm, OneMore}
use Rattle.binding_kinds.specs.declared.fault.ModelFault.{ModelFault}
use Rattle.binding_kinds.specs.declared.fault.ModelFault.TheVariants as faults
use Rattle.binding_kinds.specs.declared.kinds.Kind.{Kind}
use Rattle.binding_kinds.specs.declared.kinds.Kind.TheVariants.{OfSet, OfRelation, OfAny}
use Rattle.binding_kinds.specs.declared.scope.Found.{Found}
use Rattle.binding_kinds.specs.declared.scope.Binder.{Binder}
use Rattle.binding_kinds.specs.declared.scope.Binder.TheVariants as binders
use Rattle.binding_kinds.specs.Value.{Naming}
use Rattle.binding_kinds.specs.Kinds.{found, kind_found, takes, is_relation, is_set_kind, joined_kind, marked, narrowed}
use Rattle.binding_kinds.specs.Combinations.{has_any}
use Rattle.binding_kinds.specs.Meanings.{parameter_of}
use Rattle.binding_kinds.specs.Verdict.{or_else}
use Rattle.binding_kinds.specs.First.{fault_inside, apply_fault, first_of_body, first_of_bodies}
use Rattle.binding_kinds.specs.Formula.{Formula, Value, Parameter, Everything, NoPairs, NoEvents, Joined, Marked, Complement, Identity, filled}
use Rattle.binding_kinds.specs.Senses.{Sense, with_arity, sense_of_binder, sense_of, count_of}
use Rattle.binding_kinds.specs.Functions.{with_parameters, sense_seen, kind_of_sense, clash_of_sense, kind_of_body, kinds_of_body, clashes_in, clash_among, bound_formula, named_formula, applied_formula, formula_in, formulas_in, sense_of_function}
use Rattle.binding_kinds.specs.Fits.{IsKnown, IsKnownUnlessFunction, AreKnown, kind_of, IsTyped, AreKnownKinds, IsSoundSense, AreSoundSenses}
use Rattle.binding_kinds.proofs.Applications.{found_arity}
use Rattle.binding_kinds.proofs.Fitting.{typed_known, known_found}
use Rattle.binding_kinds.proofs.Tables.{parameter_kind, other_kind, parameter_below}
use Rattle.std.proofs.lemmas.Bool.{or_parts}

-- ---- arguments in the places of the parameters

-- each argument has the kind at its index
abbrev pub AreTyped : List Kind → List Formula → List Kind → Type 0
AreTyped js [] [] = Unit {0}
AreTyped js [] (k ∷ ks) = ⊥
AreTyped js (f ∷ fs) [] = ⊥
AreTyped js (f ∷ fs) (k ∷ ks) = (IsTyped js f × (kind_of js f ≡ k)) × AreTyped js fs ks

argument_typed : (js : List Kind) (fs : List Formula) (ks : List Kind) (i : ℕ) → AreTyped js fs ks
    → IsKnown (get_or ks i OfAny)
    → IsTyped js (get_or fs i NoPairs) × (kind_of js (get_or fs i NoPairs) ≡ get_or ks i OfAny)
argument_typed js [] [] i h k = absurd k
argument_typed js [] (l ∷ ks) i h k = absurd h
argument_typed js (f ∷ fs) [] i h k = absurd h
argument_typed js (f ∷ fs) (l ∷ ks) zero h k = h.0
argument_typed js (f ∷ fs) (l ∷ ks) (suc i) h k = argument_typed js fs ks i h.1 k

pub same_true : (b c : Bool) → b ≡ c → IsTrue c → IsTrue b
same_true b c e h = rw e h

-- a body is typed with arguments of the kinds with which it is typed, and has the same kind
pub filled_typed : (js : List Kind) (fs : List Formula) (ks : List Kind) (f : Formula)
    → AreTyped js fs ks → IsTyped ks f
    → IsTyped js (filled fs f) × (kind_of js (filled fs f) ≡ kind_of ks f)
filled_typed js fs ks (Value f) all h = (h, refl)
filled_typed js fs ks (Parameter i) all h = argument_typed js fs ks i all h
filled_typed js fs ks Everything all h = (tt, refl)
filled_typed js fs ks NoPairs all h = (tt, refl)
filled_typed js fs ks NoEvents all h = (tt, refl)
filled_typed js fs ks (Joined op a b) all h =
    let l = filled_typed js fs ks a all h.0 in
    let r = filled_typed js fs ks b all h.1 in
    let k : joined_kind op (kind_of js (filled fs a)) (kind_of js (filled fs b)) ≡ joined_kind op (kind_of ks a) (kind_of ks b) = rw (l.1, r.1) refl in
    let t : takes op (kind_of js (filled fs a)) (kind_of js (filled fs b)) ≡ takes op (kind_of ks a) (kind_of ks b) = rw (l.1, r.1) refl in
    ((l.0, r.0, same_true _ _ t h.2), k)
filled_typed js fs ks (Marked op a) all h =
    let l = filled_typed js fs ks a all h.0 in
    ((l.0, same_true _ _ (ap is_relation l.1) h.1), ap marked l.1)
filled_typed js fs ks (Complement a) all h = filled_typed js fs ks a all h
filled_typed js fs ks (Identity a) all h =
    let l = filled_typed js fs ks a all h.0 in
    ((l.0, same_true _ _ (ap is_set_kind l.1) h.1), ap narrowed l.1)

pub typed_all_known : (js : List Kind) (fs : List Formula) (ks : List Kind) → AreTyped js fs ks
    → AreKnownKinds ks
typed_all_known js [] [] h = tt
typed_all_known js [] (k ∷ ks) h = absurd h
typed_all_known js (f ∷ fs) [] h = absurd h
typed_all_known js (f ∷ fs) (k ∷ ks) h =
    (subst IsKnown h.0.1 (typed_known js f h.0.0), typed_all_known js fs ks h.1)

-- ---- functions

sound_at : (ss : List Sense) (i : ℕ) (s : Sense) → AreSoundSenses ss → slice_get ss i ≡ Some s → IsSoundSense s
sound_at [] i s h e = absurd (let f : None ≡ Some s = e in cc)
sound_at (t ∷ ss) zero s h e =
    let same : t ≡ s = let f : Some t ≡ Some s = e in cc in subst IsSoundSense same h.0
sound_at (t ∷ ss) (suc i) s h e = sound_at ss i s h.1 e

-- ---- bodies

not_true : (b : Bool) → not b ≡ false → IsTrue b
not_true true e = search rules
not_true false e = absurd (let f : true ≡ false = e in cc)

none_first : (o q : Option ModelFault) → or_else o q ≡ None → (o ≡ None) × (q ≡ None)
none_first None q e = (refl, e)
none_first (Some k) q e = absurd (let f : Some k ≡ None = e in cc)

known_at : (ks : List Kind) (i : ℕ) → AreKnownKinds ks → i < length ks → IsKnown (get_or ks i OfAny)
known_at [] i h lt = absurd (omega (arith, lt))
known_at (k ∷ ks) zero h lt = h.0
known_at (k ∷ ks) (suc i) h lt = known_at ks i h.1 (omega (arith, lt))

-- a name of a body that is no parameter
other_name : (ks : List Kind) (names : List Naming) (x : List ℕ) (o : Option Found) → AreKnown names
    → found names x ≡ o → fault_inside None o ≡ None
    → IsTyped ks (named_formula None o) × (kind_found o ≡ kind_of ks (named_formula None o))
other_name ks names x None known is e = absurd (let f : Some faults.Unbound ≡ None = e in cc)
other_name ks names x (Some f) known is e = at_binder f.binder (known_found names x f known is) e
  where
    at_binder : (b : Binder) → IsKnownUnlessFunction b f.kind
        → fault_inside None (Some (record { slot = f.slot; kind = f.kind; binder = b })) ≡ None
        → IsTyped ks (bound_formula f b) × (f.kind ≡ kind_of ks (bound_formula f b))
    at_binder (binders.Predefined p) k e = (k, refl)
    at_binder (binders.Bound i) k e = (k, refl)
    at_binder (binders.Applicable g) k e = absurd (let f : Some faults.Arity ≡ None = e in cc)

body_name : (names : List Naming) (ps : List (List ℕ)) (ks : List Kind) (x : List ℕ) (o : Option ℕ)
    → AreKnown names → length ks ≡ length ps → AreKnownKinds ks → parameter_of (reverse ps) x ≡ o
    → fault_inside o (found names x) ≡ None
    → IsTyped ks (named_formula o (found names x))
    × (kind_found (found (with_parameters ps ks names) x)
    ≡ kind_of ks (named_formula o (found names x)))
body_name names ps ks x None known long kinds is e =
    let n = other_name ks names x (found names x) known refl e in
    (n.0, sym (other_kind ps ks names x long (sym is)) ∙ n.1)
body_name names ps ks x (Some i) known long kinds is e = (
  known_at ks i kinds (let lt = parameter_below ps x i (sym is) in omega (arith, lt, long)),
  sym (parameter_kind ps ks names x i long (sym is)),
)

-- what a name with arguments stands for in a body without fault
seen_function : (ss : List Sense) (names : List Naming) (ps : List (List ℕ)) (n : ℕ) (x : List ℕ)
    (o : Option ℕ) (r : Result Sense ModelFault) → parameter_of (reverse ps) x ≡ o
    → sense_of ss n (found names x) ≡ r → apply_fault o r ≡ None
    → (s : Sense) × (sense_seen ss names ps n x ≡ Some s) × (sense_of ss n (found names x) ≡ Ok s)
seen_function ss names ps n x (Some i) r is there e =
    absurd (let f : Some faults.Arity ≡ None = e in cc)
seen_function ss names ps n x None (Err k) is there e = absurd (let f : Some k ≡ None = e in cc)
seen_function ss names ps n x None (Ok s) is there e = (s, rw (is, there) refl, there)

sound_binder : (ss : List Sense) (n : ℕ) (s : Sense) (b : Binder) → AreSoundSenses ss
    → sense_of_binder ss n b ≡ Ok s → IsSoundSense s
sound_binder ss n s (binders.Predefined p) sound e =
    absurd (let f : Err faults.Arity ≡ Ok s = e in cc)
sound_binder ss n s (binders.Bound i) sound e = absurd (let f : Err faults.Arity ≡ Ok s = e in cc)
sound_binder ss n s (binders.Applicable i) sound e = at_function (slice_get ss i) refl e
  where
    at_test : (t : Sense) (b : Bool) → IsSoundSense t → (if b then Ok t else Err faults.Arity) ≡ Ok s
        → IsSoundSense s
    at_test t true one h =
        let same : t ≡ s = let q : Ok t ≡ Ok s = h in cc in subst IsSoundSense same one
    at_test t false one h = absurd (let f : Err faults.Arity ≡ Ok s = h in cc)

    at_function : (o : Option Sense) → slice_get ss i ≡ o → with_arity n o ≡ Ok s → IsSoundSense s
    at_function None is h = absurd (let f : Err faults.Arity ≡ Ok s = h in cc)
    at_function (Some t) is h = at_test t (nat_eq t.arity n) (sound_at ss i t sound is) h

pub sound_function : (ss : List Sense) (n : ℕ) (o : Option Found) (s : Sense) → AreSoundSenses ss
    → sense_of ss n o ≡ Ok s → IsSoundSense s
sound_function ss n None s sound e = absurd (let f : Err faults.Unbound ≡ Ok s = e in cc)
sound_function ss n (Some f) s sound e = sound_binder ss n s f.binder sound e

applied_body : (ss : List Sense) (names : List Naming) (ps : List (List ℕ)) (ks ls : List Kind)
    (n : ℕ) (x : List ℕ) (fs : List Formula) (s : Sense) (among : Bool)
    → sense_seen ss names ps n x ≡ Some s → IsSoundSense s → length ls ≡ s.arity → AreTyped ks fs ls
    → clash_of_sense (sense_seen ss names ps n x) among ls ≡ false
    → IsTyped ks (applied_formula (sense_seen ss names ps n x) fs)
    × (kind_of_sense (sense_seen ss names ps n x) ls
    ≡ kind_of ks (applied_formula (sense_seen ss names ps n x) fs))
applied_body ss names ps ks ls n x fs s among sense_is sound long typed clash =
    let quiet : s.clashes ls ≡ false = (or_parts among (s.clashes ls) (sym (ap (λ (o : Option Sense). clash_of_sense o among ls) sense_is) ∙ clash)).1 in
    let one = sound ls long (typed_all_known ks fs ls typed) quiet in
    let whole = filled_typed ks fs ls s.formula typed one.0 in
    rw sense_is (whole.0, one.1 ∙ sym whole.1)

quiet_arguments : (o : Option Sense) (s : Sense) (among : Bool) (ls : List Kind) → o ≡ Some s
    → clash_of_sense o among ls ≡ false → among ≡ false
quiet_arguments o s among ls sense_is clash =
    (or_parts among (s.clashes ls) (sym (ap (λ (q : Option Sense). clash_of_sense q among ls)
    sense_is) ∙ clash)).0

long_kinds : (ss : List Sense) (names : List Naming) (ps : List (List ℕ)) (ks : List Kind)
    (ts : Terms) → length (kinds_of_body ss names ps ks ts) ≡ count_of ts
long_kinds ss names ps ks NoTerm = refl
long_kinds ss names ps ks (OneMore a others) = ap suc (long_kinds ss names ps ks others)

-- a body without fault, whose operators take their operands where the parameters have these kinds
module _ (ss : List Sense) (names : List Naming) (ps : List (List ℕ)) (ks : List Kind)
    (sound : AreSoundSenses ss) (known : AreKnown names) (long : length ks ≡ length ps)
    (kinds : AreKnownKinds ks) where
  mutual
    pub body_typed : (t : Term) → first_of_body ss names ps t ≡ None
        → clashes_in ss names ps ks t ≡ false
        → IsTyped ks (formula_in ss names ps t)
        × (kind_of_body ss names ps ks t ≡ kind_of ks (formula_in ss names ps t))
    body_typed (Atom x) e c =
        body_name names ps ks x (parameter_of (reverse ps) x) known long kinds refl e
    body_typed AllEvents e c = (tt, refl)
    body_typed EmptyRelation e c = (tt, refl)
    body_typed EmptySet e c = (tt, refl)
    body_typed (Join op a b) e c =
        let faults = none_first (first_of_body ss names ps a) (first_of_body ss names ps b) e in
        let outer = or_parts (clashes_in ss names ps ks a || clashes_in ss names ps ks b) (not (takes op (kind_of_body ss names ps ks a) (kind_of_body ss names ps ks b))) c in
        let inner = or_parts (clashes_in ss names ps ks a) (clashes_in ss names ps ks b) outer.0 in
        let l = body_typed a faults.0 inner.0 in
        let r = body_typed b faults.1 inner.1 in
        let k : joined_kind op (kind_of_body ss names ps ks a) (kind_of_body ss names ps ks b) ≡ joined_kind op (kind_of ks (formula_in ss names ps a)) (kind_of ks (formula_in ss names ps b)) = rw (l.1, r.1) refl in
        let t : takes op (kind_of ks (formula_in ss names ps a)) (kind_of ks (formula_in ss names ps b)) ≡ takes op (kind_of_body ss names ps ks a) (kind_of_body ss names ps ks b) = rw (l.1, r.1) refl in
        ((l.0, r.0, same_true _ _ t (not_true _ outer.1)), k)
    body_typed (Mark op a) e c =
        let both = or_parts (clashes_in ss names ps ks a) (not (is_relation (kind_of_body ss names ps ks a))) c in
        let l = body_typed a e both.0 in
        ((l.0, same_true _ _ (ap is_relation (sym l.1)) (not_true _ both.1)), ap marked l.1)
    body_typed (Not a) e c = body_typed a e c
    body_typed (On a) e c =
        let both = or_parts (clashes_in ss names ps ks a) (not (is_set_kind (kind_of_body ss names ps ks a))) c in
        let l = body_typed a e both.0 in
        ((l.0, same_true _ _ (ap is_set_kind (sym l.1)) (not_true _ both.1)), ap narrowed l.1)
    body_typed (Apply x ts) e c =
        let faults = none_first (apply_fault (parameter_of (reverse ps) x) (sense_of ss (count_of ts) (found names x))) (first_of_bodies ss names ps ts) e in
        let f = seen_function ss names ps (count_of ts) x (parameter_of (reverse ps) x) (sense_of ss (count_of ts) (found names x)) refl refl faults.0 in
        let quiet = quiet_arguments (sense_seen ss names ps (count_of ts) x) f.0 (clash_among ss names ps ks ts) (kinds_of_body ss names ps ks ts) f.1 c in
        applied_body ss names ps ks (kinds_of_body ss names ps ks ts) (count_of ts) x
        (formulas_in ss names ps ts) f.0 (clash_among ss names ps ks ts) f.1
        (sound_function ss (count_of ts) (found names x) f.0 sound f.2)
        (long_kinds ss names ps ks ts ∙ sym (found_arity ss (count_of ts) (found names x) f.0 f.2))
        (bodies_typed ts faults.1 quiet) c

    bodies_typed : (ts : Terms) → first_of_bodies ss names ps ts ≡ None
        → clash_among ss names ps ks ts ≡ false
        → AreTyped ks (formulas_in ss names ps ts) (kinds_of_body ss names ps ks ts)
    bodies_typed NoTerm e c = tt
    bodies_typed (OneMore a others) e c =
        let faults = none_first (first_of_body ss names ps a) (first_of_bodies ss names ps others) e in
        let both = or_parts (clashes_in ss names ps ks a) (clash_among ss names ps ks others) c in
        let l = body_typed a faults.0 both.0 in
        ((l.0, sym l.1), bodies_typed others faults.1 both.1)

none_any : (ks : List Kind) → AreKnownKinds ks → has_any ks ≡ false
none_any [] h = refl
none_any (OfSet ∷ ks) h = none_any ks h.1
none_any (OfRelation ∷ ks) h = none_any ks h.1
none_any (OfAny ∷ ks) h = absurd h.0

-- a function whose body has no fault is sound
pub function_sound : (ss : List Sense) (names : List Naming) (ps : List (List ℕ)) (t : Term)
    → AreSoundSenses ss → AreKnown names → first_of_body ss names ps t ≡ None
    → IsSoundSense (sense_of_function ss names ps t)
function_sound ss names ps t sound known e ks long kinds quiet =
    let h = body_typed ss names ps ks sound known long kinds t e quiet in (
      h.0,
      ap (λ (b : Bool). if b then OfAny else kind_of_body ss names ps ks t)
          (none_any ks kinds) ∙ h.1,
    )

pub sound_more : (ss : List Sense) (s : Sense) → AreSoundSenses ss → IsSoundSense s → AreSoundSenses (ss ++ s ∷ [])
sound_more [] s sound one = (one, tt)
sound_more (t ∷ ss) s sound one = (sound.0, sound_more ss s sound.1 one)
