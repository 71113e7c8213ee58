-- Functions put no name of a recursive group where it may not stand: with arguments that hold none
-- their bodies hold none, and where a parameter stands under no complement its argument may hold
-- one.
use Rattle.std.proofs.Common.{ℕ, ◌≡◌, ◌<◌, ◌≤◌, ◌+◌, zero, suc, List, [], ◌∷◌, ◌++◌, length, map, reverse, Bool, true, false, nat_le, Option, Some, None, Result, Ok, Err, refl, sym, ap, ◌∙◌, subst, arith, get_or}
use Rattle.std.specs.Prelude.{◌&&◌, is_some, nat_eq, bytes_eq, if◌then◌else◌, slice_get}
use Rattle.std.specs.List.{AllByRecursion}
use Rattle.std.proofs.lemmas.Bool.{leb-true, or_left, or_right}
use Rattle.std.proofs.lemmas.Bool.Decides.{nat_tests}
use Rattle.text_values.specs.declared.model.Infix.TheVariants as infixes
use Rattle.text_values.specs.ModelValue.{Term, Terms, Atom, AllEvents as Everywhere, EmptyRelation, EmptySet, Join, Mark, Not, On, Apply, NoTerm, OneMore}
use Rattle.binding_kinds.specs.declared.fault.ModelFault.{ModelFault}
use Rattle.binding_kinds.specs.declared.fault.ModelFault.TheVariants as faults
use Rattle.binding_kinds.specs.declared.scope.Found.{Found}
use Rattle.binding_kinds.specs.declared.scope.Used.{Used}
use Rattle.binding_kinds.specs.declared.scope.Binder.{Binder}
use Rattle.binding_kinds.specs.declared.scope.Binder.TheVariants as binders
use Rattle.binding_kinds.specs.Value.{Naming, Bound, BareItem, Group, Check, Mute, Defined}
use Rattle.binding_kinds.specs.Kinds.{found}
use Rattle.binding_kinds.specs.Meanings.{parameter_of}
use Rattle.binding_kinds.specs.Formula.{Formula, Value, Parameter, Everything, NoPairs, NoEvents, Joined, Marked, Complement, Identity, filled}
use Rattle.binding_kinds.specs.declared.kinds.Kind.TheVariants.{OfRelation}
use Rattle.binding_kinds.specs.Senses.{Sense, kind_in, with_arity, sense_of_binder, sense_of, count_of}
use Rattle.binding_kinds.specs.Functions.{sense_seen, is_at, under_at, is_under_in, is_under_among, bound_formula, named_formula, applied_formula, formula_in, formulas_in, sense_of_function}
use Rattle.binding_kinds.specs.Faults.{with_own, with_all, names_after, senses_after}
use Rattle.binding_graph.specs.declared.resolved.Blend.TheVariants as blends
use Rattle.binding_graph.specs.Meaning.{source_of, source_of_binder, rel_tree}
use Rattle.binding_graph.specs.Trees.{RelTree, RelName, NoPair, BlendRelations, SequenceRelations, ProductOfSets, IdentityOn, Close, ComplementRelation}
use Rattle.cat_machine.specs.Least.{IsNotOwn, HasNoOwnName, IsMonotone}

-- the slot of a name is that of a name that is seen
found_below : (names : List Naming) (x : List ℕ) (f : Found) → found names x ≡ Some f
    → f.slot < length names
found_below [] x f e = absurd (let g : None ≡ Some f = e in cc)
found_below (n ∷ ns) x f e = at_test (bytes_eq n.name x) (found_below ns x f) e
  where
    at_test : (b : Bool) → (found ns x ≡ Some f → f.slot < length ns)
        → (if b then Some (record { slot = length ns; kind = n.kind; binder = n.binder })
        else found ns x) ≡ Some f → f.slot < length (n ∷ ns)
    at_test true below e =
        let g : Found = record { slot = length ns; kind = n.kind; binder = n.binder } in
        let s : g ≡ f = let same : Some g ≡ Some f = e in cc in
        rw (← s) (omega arith)
    at_test false below e = let lt = below e in omega arith

-- ---- expressions that hold no name of a group, and those that rise with the names of a group

abbrev pub Fixed : List Used → ℕ → Formula → Type 0
Fixed us from f = HasNoOwnName (rel_tree us from f)

abbrev pub Rises : List Used → ℕ → Formula → Type 0
Rises us from f = IsMonotone (rel_tree us from f)

abbrev pub AllFixed : List Used → ℕ → List Formula → Type 0
AllFixed us from [] = Unit {0}
AllFixed us from (f ∷ fs) = Fixed us from f × AllFixed us from fs

-- all rise, and those that are marked hold no name of the group
abbrev pub AllRise : List Used → ℕ → (ℕ → Bool) → ℕ → List Formula → Type 0
AllRise us from turned k [] = Unit {0}
AllRise us from turned k (f ∷ fs) =
    (Rises us from f × (turned k ≡ true → Fixed us from f)) × AllRise us from turned (suc k) fs

-- the function sees that many names: the names of a later group have slots behind them
abbrev pub IsSafe : ℕ → Sense → Type 0
IsSafe n s =
    (us : List Used) (from : ℕ) (fs : List Formula) → n ≤ from
    → (AllFixed us from fs → Fixed us from (filled fs s.formula))
    × (AllRise us from s.is_under 0 fs → Rises us from (filled fs s.formula))

abbrev pub AreSafe : ℕ → List Sense → Type 0
AreSafe n ss = AllByRecursion (IsSafe n) ss

abbrev pub SafeIf : ℕ → Option Sense → Type 0
SafeIf n None = Unit {0}
SafeIf n (Some s) = IsSafe n s

pub fixed_rises : (t : RelTree) → HasNoOwnName t → IsMonotone t
fixed_rises (RelName source) h = tt
fixed_rises NoPair h = tt
fixed_rises (BlendRelations blends.Union e f) h = (fixed_rises e h.0, fixed_rises f h.1)
fixed_rises (BlendRelations blends.Intersection e f) h = (fixed_rises e h.0, fixed_rises f h.1)
fixed_rises (BlendRelations blends.Difference e f) h = (fixed_rises e h.0, h.1)
fixed_rises (SequenceRelations e f) h = (fixed_rises e h.0, fixed_rises f h.1)
fixed_rises (ProductOfSets s t) h = tt
fixed_rises (IdentityOn s) h = tt
fixed_rises (Close how e) h = fixed_rises e h
fixed_rises (ComplementRelation e) h = h

-- one argument, marked or not
pub by_turned : (us : List Used) (from : ℕ) (f : Formula) (b : Bool) → (b ≡ true → Fixed us from f)
    → (b ≡ false → Rises us from f) → Rises us from f × (b ≡ true → Fixed us from f)
by_turned us from f true fixed rises = (fixed_rises (rel_tree us from f) (fixed refl), fixed)
by_turned us from f false fixed rises = (rises refl, fixed)

fixed_at : (us : List Used) (from : ℕ) (fs : List Formula) (j : ℕ) → AllFixed us from fs
    → Fixed us from (get_or fs j NoPairs)
fixed_at us from [] j h = tt
fixed_at us from (f ∷ fs) zero h = h.0
fixed_at us from (f ∷ fs) (suc j) h = fixed_at us from fs j h.1

rises_at : (us : List Used) (from : ℕ) (turned : ℕ → Bool) (k : ℕ) (fs : List Formula) (j : ℕ)
    → AllRise us from turned k fs → Rises us from (get_or fs j NoPairs)
rises_at us from turned k [] j h = tt
rises_at us from turned k (f ∷ fs) zero h = h.0.0
rises_at us from turned k (f ∷ fs) (suc j) h = rises_at us from turned (suc k) fs j h.1

turned_at : (us : List Used) (from : ℕ) (turned : ℕ → Bool) (k : ℕ) (fs : List Formula) (j m : ℕ)
    → m ≡ k + j → AllRise us from turned k fs → turned m ≡ true
    → Fixed us from (get_or fs j NoPairs)
turned_at us from turned k [] j m is h e = tt
turned_at us from turned k (f ∷ fs) zero m is h e =
    h.0.1 (subst (λ (i : ℕ). turned i ≡ true) (omega (arith, is)) e)
turned_at us from turned k (f ∷ fs) (suc j) m is h e =
    turned_at us from turned (suc k) fs j m (omega (arith, is)) h.1 e

-- ---- arguments put into arguments

get_filled : (gs fs : List Formula) (i : ℕ)
    → filled gs (get_or fs i NoPairs) ≡ get_or (map (filled gs) fs) i NoPairs
get_filled gs [] i = refl
get_filled gs (f ∷ fs) zero = refl
get_filled gs (f ∷ fs) (suc i) = get_filled gs fs i

fill_twice : (gs fs : List Formula) (g : Formula)
    → filled gs (filled fs g) ≡ filled (map (filled gs) fs) g
fill_twice gs fs (Value f) = refl
fill_twice gs fs (Parameter i) = get_filled gs fs i
fill_twice gs fs Everything = refl
fill_twice gs fs NoPairs = refl
fill_twice gs fs NoEvents = refl
fill_twice gs fs (Joined op a b) =
    ap (λ (x : Formula). Joined op x (filled gs (filled fs b))) (fill_twice gs fs a)
    ∙ ap (λ (y : Formula). Joined op (filled (map (filled gs) fs) a) y) (fill_twice gs fs b)
fill_twice gs fs (Marked op a) = ap (λ (x : Formula). Marked op x) (fill_twice gs fs a)
fill_twice gs fs (Complement a) = ap (λ (x : Formula). Complement x) (fill_twice gs fs a)
fill_twice gs fs (Identity a) = ap (λ (x : Formula). Identity x) (fill_twice gs fs a)

-- ---- the function that a name stands for

some_and : (o : Option Sense) (s : Sense) (b : Bool) → o ≡ Some s → b ≡ true
    → (is_some o && b) ≡ true
some_and None s b is e = absurd (let f : None ≡ Some s = is in cc)
some_and (Some t) s b is e = e

same_number : (n : ℕ) → nat_eq n n ≡ true
same_number n = grind (arith, nat_tests)

sense_at : (P : Sense → Type 0) (ss : List Sense) (i : ℕ) (s : Sense) → AllByRecursion P ss
    → slice_get ss i ≡ Some s → P s
sense_at P [] i s h e = absurd (let f : None ≡ Some s = e in cc)
sense_at P (t ∷ ss) zero s h e =
    let same : t ≡ s = let f : Some t ≡ Some s = e in cc in subst P same h.0
sense_at P (t ∷ ss) (suc i) s h e = sense_at P ss i s h.1 e

sense_bound : (P : Sense → Type 0) (ss : List Sense) (n : ℕ) (s : Sense) (b : Binder)
    → AllByRecursion P ss → sense_of_binder ss n b ≡ Ok s → P s
sense_bound P ss n s (binders.Predefined p) all e =
    absurd (let f : Err faults.Arity ≡ Ok s = e in cc)
sense_bound P ss n s (binders.Bound i) all e = absurd (let f : Err faults.Arity ≡ Ok s = e in cc)
sense_bound P ss n s (binders.Applicable i) all e = at_function (slice_get ss i) refl e
  where
    at_test : (t : Sense) (b : Bool) → P t → (if b then Ok t else Err faults.Arity) ≡ Ok s → P s
    at_test t true one h = let same : t ≡ s = let q : Ok t ≡ Ok s = h in cc in subst P same one
    at_test t false one h = absurd (let f : Err faults.Arity ≡ Ok s = h in cc)

    at_function : (o : Option Sense) → slice_get ss i ≡ o → with_arity n o ≡ Ok s → P s
    at_function None is h = absurd (let f : Err faults.Arity ≡ Ok s = h in cc)
    at_function (Some t) is h = at_test t (nat_eq t.arity n) (sense_at P ss i t all is) h

pub sense_found : (P : Sense → Type 0) (ss : List Sense) (n : ℕ) (o : Option Found) (s : Sense)
    → AllByRecursion P ss → sense_of ss n o ≡ Ok s → P s
sense_found P ss n None s all e = absurd (let f : Err faults.Unbound ≡ Ok s = e in cc)
sense_found P ss n (Some f) s all e = sense_bound P ss n s f.binder all e

pub seen_safe : (m : ℕ) (ss : List Sense) (names : List Naming) (ps : List (List ℕ)) (n : ℕ)
    (x : List ℕ) (o : Option ℕ) (r : Result Sense ModelFault) → parameter_of (reverse ps) x ≡ o
    → sense_of ss n (found names x) ≡ r → AreSafe m ss → SafeIf m (sense_seen ss names ps n x)
seen_safe m ss names ps n x (Some i) r is there safe =
    let w : sense_seen ss names ps n x ≡ None = rw is refl in subst (SafeIf m) (sym w) tt
seen_safe m ss names ps n x None (Err k) is there safe =
    let w : sense_seen ss names ps n x ≡ None = rw (is, there) refl in subst (SafeIf m) (sym w) tt
seen_safe m ss names ps n x None (Ok s) is there safe =
    let w : sense_seen ss names ps n x ≡ Some s = rw (is, there) refl in
    subst (SafeIf m) (sym w) (sense_found (IsSafe m) ss n (found names x) s safe there)

-- ---- names

outer_source : (us : List Used) (slot : ℕ) (b : Binder) → IsNotOwn (source_of_binder us slot b)
outer_source us slot (binders.Predefined p) = tt
outer_source us slot (binders.Bound i) = tt
outer_source us slot (binders.Applicable f) = tt

pub source_outside : (us : List Used) (from : ℕ) (f : Found) → (from ≤ f.slot → ⊥)
    → IsNotOwn (source_of us from f)
source_outside us from f none = at_test (nat_le from f.slot) refl
  where
    at_test : (b : Bool) → nat_le from f.slot ≡ b → IsNotOwn (source_of us from f)
    at_test true e = absurd (none (leb-true from f.slot e))
    at_test false e = rw e (outer_source us f.slot f.binder)

bound_fixed : (us : List Used) (from : ℕ) (args : List Formula) (f : Found) (b : Binder)
    → (from ≤ f.slot → ⊥) → Fixed us from (filled args (bound_formula f b))
bound_fixed us from args f (binders.Predefined p) none = source_outside us from f none
bound_fixed us from args f (binders.Bound i) none = source_outside us from f none
bound_fixed us from args f (binders.Applicable g) none = tt

bound_rises : (us : List Used) (from : ℕ) (args : List Formula) (f : Found) (b : Binder)
    → Rises us from (filled args (bound_formula f b))
bound_rises us from args f (binders.Predefined p) = tt
bound_rises us from args f (binders.Bound i) = tt
bound_rises us from args f (binders.Applicable g) = tt

-- ---- bodies of functions

module _ (ss : List Sense) (names : List Naming) (ps : List (List ℕ)) (us : List Used) (from : ℕ)
    (args : List Formula) (le : length names ≤ from) (safe : AreSafe (length names) ss) where
  atom_fixed : (x : List ℕ) (o : Option ℕ) (q : Option Found) → found names x ≡ q
      → ((j : ℕ) → is_at j o ≡ true → Fixed us from (get_or args j NoPairs))
      → Fixed us from (filled args (named_formula o q))
  atom_fixed x (Some p) q is h = h p (same_number p)
  atom_fixed x None None is h = tt
  atom_fixed x None (Some f) is h =
      bound_fixed us from args f f.binder (λ past.
      let below = found_below names x f is in absurd (omega (arith, below, past, le)))

  atom_rises : (o : Option ℕ) (q : Option Found) → ((j : ℕ) → Rises us from (get_or args j NoPairs))
      → Rises us from (filled args (named_formula o q))
  atom_rises (Some p) q rises = rises p
  atom_rises None None rises = tt
  atom_rises None (Some f) rises = bound_rises us from args f f.binder

  apply_fixed : (o : Option Sense) (fs : List Formula) → SafeIf (length names) o
      → ((s : Sense) → o ≡ Some s → AllFixed us from (map (filled args) fs))
      → Fixed us from (filled args (applied_formula o fs))
  apply_fixed None fs one h = tt
  apply_fixed (Some s) fs one h =
      subst (Fixed us from) (sym (fill_twice args fs s.formula))
      ((one us from (map (filled args) fs) le).0 (h s refl))

  apply_rises : (o : Option Sense) (fs : List Formula) → SafeIf (length names) o
      → ((s : Sense) → o ≡ Some s → AllRise us from (under_at o) 0 (map (filled args) fs))
      → Rises us from (filled args (applied_formula o fs))
  apply_rises None fs one h = tt
  apply_rises (Some s) fs one h =
      subst (Rises us from) (sym (fill_twice args fs s.formula))
      ((one us from (map (filled args) fs) le).1 (h s refl))

  sense_safe : (ts : Terms) (x : List ℕ)
      → SafeIf (length names) (sense_seen ss names ps (count_of ts) x)
  sense_safe ts x =
      seen_safe (length names) ss names ps (count_of ts) x (parameter_of (reverse ps) x)
      (sense_of ss (count_of ts) (found names x)) refl refl safe

  -- seen under a complement
  mutual
    pub body_fixed : (t : Term)
        → ((j : ℕ) → is_under_in ss names ps j true t ≡ true
        → Fixed us from (get_or args j NoPairs))
        → Fixed us from (filled args (formula_in ss names ps t))
    body_fixed (Atom x) h = atom_fixed x (parameter_of (reverse ps) x) (found names x) refl h
    body_fixed Everywhere h = tt
    body_fixed EmptyRelation h = tt
    body_fixed EmptySet h = tt
    body_fixed (Join infixes.Union a b) h =
        (body_fixed a (λ j e. h j (or_left _ _ e)), body_fixed b (λ j e. h j (or_right _ _ e)))
    body_fixed (Join infixes.Intersection a b) h =
        (body_fixed a (λ j e. h j (or_left _ _ e)), body_fixed b (λ j e. h j (or_right _ _ e)))
    body_fixed (Join infixes.Difference a b) h =
        (body_fixed a (λ j e. h j (or_left _ _ e)), body_fixed b (λ j e. h j (or_right _ _ e)))
    body_fixed (Join infixes.Sequence a b) h =
        (body_fixed a (λ j e. h j (or_left _ _ e)), body_fixed b (λ j e. h j (or_right _ _ e)))
    body_fixed (Join infixes.Product a b) h = tt
    body_fixed (Mark op a) h = body_fixed a h
    body_fixed (Not a) h = body_fixed a h
    body_fixed (On a) h = tt
    body_fixed (Apply x ts) h =
        let o = sense_seen ss names ps (count_of ts) x in
        apply_fixed o (formulas_in ss names ps ts) (sense_safe ts x) (λ s is.
        bodies_fixed (under_at o) 0 ts (λ j e. h j (some_and o s _ is e)))

    bodies_fixed : (turned : ℕ → Bool) (k : ℕ) (ts : Terms)
        → ((j : ℕ) → is_under_among ss names ps j true turned k ts ≡ true
        → Fixed us from (get_or args j NoPairs))
        → AllFixed us from (map (filled args) (formulas_in ss names ps ts))
    bodies_fixed turned k NoTerm h = tt
    bodies_fixed turned k (OneMore a others) h = (
      body_fixed a (λ j e. h j (or_left _ _ e)),
      bodies_fixed turned (suc k) others (λ j e. h j (or_right _ _ e)),
    )

  -- seen under none
  mutual
    pub body_rises : (t : Term)
        → ((j : ℕ) → is_under_in ss names ps j false t ≡ true
        → Fixed us from (get_or args j NoPairs))
        → ((j : ℕ) → Rises us from (get_or args j NoPairs))
        → Rises us from (filled args (formula_in ss names ps t))
    body_rises (Atom x) h rises = atom_rises (parameter_of (reverse ps) x) (found names x) rises
    body_rises Everywhere h rises = tt
    body_rises EmptyRelation h rises = tt
    body_rises EmptySet h rises = tt
    body_rises (Join infixes.Union a b) h rises = (
      body_rises a (λ j e. h j (or_left _ _ e)) rises,
      body_rises b (λ j e. h j (or_right _ _ e)) rises,
    )
    body_rises (Join infixes.Intersection a b) h rises = (
      body_rises a (λ j e. h j (or_left _ _ e)) rises,
      body_rises b (λ j e. h j (or_right _ _ e)) rises,
    )
    body_rises (Join infixes.Difference a b) h rises = (
      body_rises a (λ j e. h j (or_left _ _ e)) rises,
      body_fixed b (λ j e. h j (or_right _ _ e)),
    )
    body_rises (Join infixes.Sequence a b) h rises = (
      body_rises a (λ j e. h j (or_left _ _ e)) rises,
      body_rises b (λ j e. h j (or_right _ _ e)) rises,
    )
    body_rises (Join infixes.Product a b) h rises = tt
    body_rises (Mark op a) h rises = body_rises a h rises
    body_rises (Not a) h rises = body_fixed a h
    body_rises (On a) h rises = tt
    body_rises (Apply x ts) h rises =
        let o = sense_seen ss names ps (count_of ts) x in
        apply_rises o (formulas_in ss names ps ts) (sense_safe ts x) (λ s is.
        bodies_rise (under_at o) 0 ts (λ j e. h j (some_and o s _ is e)) rises)

    bodies_rise : (turned : ℕ → Bool) (k : ℕ) (ts : Terms)
        → ((j : ℕ) → is_under_among ss names ps j false turned k ts ≡ true
        → Fixed us from (get_or args j NoPairs))
        → ((j : ℕ) → Rises us from (get_or args j NoPairs))
        → AllRise us from turned k (map (filled args) (formulas_in ss names ps ts))
    bodies_rise turned k NoTerm h rises = tt
    bodies_rise turned k (OneMore a others) h rises = (
      by_turned us from (filled args (formula_in ss names ps a)) (turned k)
          (λ e. body_fixed a (λ j u.
          h j (or_left (is_under_in ss names ps j (turned k) a) _ (rw e u))))
          (λ e. body_rises a
          (λ j u. h j (or_left (is_under_in ss names ps j (turned k) a) _ (rw e u))) rises),
      bodies_rise turned (suc k) others (λ j e. h j (or_right _ _ e)) rises,
    )

function_safe : (ss : List Sense) (names : List Naming) (ps : List (List ℕ)) (t : Term)
    → AreSafe (length names) ss → IsSafe (length names) (sense_of_function ss names ps t)
function_safe ss names ps t safe = λ us from fs le. (
  λ all. body_fixed ss names ps us from fs le safe t (λ j e. fixed_at us from fs j all),
  λ all. body_rises ss names ps us from fs le safe t
      (λ j e.
      turned_at us from (λ i. is_under_in ss names ps i false t) 0 fs j j (omega arith) all e)
      (λ j. rises_at us from (λ i. is_under_in ss names ps i false t) 0 fs j all),
)

-- ---- after an item

safe_later : (n m : ℕ) (ss : List Sense) → n ≤ m → AreSafe n ss → AreSafe m ss
safe_later n m [] le h = tt
safe_later n m (s ∷ ss) le h =
    (λ us from fs past. h.0 us from fs (omega (arith, le, past)), safe_later n m ss le h.1)

safe_more : (n : ℕ) (ss : List Sense) (s : Sense) → AreSafe n ss → IsSafe n s
    → AreSafe n (ss ++ s ∷ [])
safe_more n [] s h one = (one, tt)
safe_more n (t ∷ ss) s h one = (h.0, safe_more n ss s h.1 one)

own_longer : (names : List Naming) (item at : ℕ) (bs : List Bound)
    → length names ≤ length (with_own names item at bs)
own_longer names item at [] = omega arith
own_longer names item at (b ∷ bs) =
    let own : Naming = record { name = b.name; kind = OfRelation; binder = binders.Bound (record { item = item; position = at }) } in
    let h = own_longer (own ∷ names) item (suc at) bs in
    omega (arith, h)

all_longer : (ss : List Sense) (outer names : List Naming) (item at : ℕ) (bs : List Bound)
    → length names ≤ length (with_all ss outer names item at bs)
all_longer ss outer names item at [] = omega arith
all_longer ss outer names item at (b ∷ bs) =
    let one : Naming = record { name = b.name; kind = kind_in ss outer b.body; binder = binders.Bound (record { item = item; position = at }) } in
    let h = all_longer ss outer (one ∷ names) item (suc at) bs in
    omega (arith, h)

pub safe_after : (ss : List Sense) (names : List Naming) (item : ℕ) (c : BareItem)
    → AreSafe (length names) ss
    → AreSafe (length (names_after ss names item c)) (senses_after ss names c)
safe_after ss names item (Group true bs) h = safe_later _ _ ss (own_longer names item 0 bs) h
safe_after ss names item (Group false bs) h =
    safe_later _ _ ss (all_longer ss names names item 0 bs) h
safe_after ss names item (Check w e) h = h
safe_after ss names item Mute h = h
safe_after ss names item (Defined n ps b) h =
    safe_later (length names) _ _ (omega arith) (safe_more (length names) ss
    (sense_of_function ss names ps b) h (function_safe ss names ps b h))
