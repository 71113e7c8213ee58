-- What an expression means depends on the values of its own slots alone.
use Rattle.std.proofs.Common.{ℕ, zero, suc, ◌≡◌, ◌<◌, ◌≤◌, List, [], ◌∷◌, length, reverse, get_or, Bool, true, false, bytes_eq, Option, Some, None, refl, ap, ap₂, sym, ◌∙◌, subst, arith}
use Rattle.std.specs.Prelude.{nat_eq, if◌then◌else◌}
use Rattle.std.proofs.lemmas.Bool.{eq-eqb, eqb-true}
use Rattle.text_values.specs.ModelValue.{Term, Terms, Atom, AllEvents, EmptyRelation, EmptySet, Join, Mark, Not, On, Apply, NoTerm, OneMore}
use Rattle.binding_kinds.specs.declared.scope.Found.{Found}
use Rattle.binding_kinds.specs.declared.scope.Binder.{Binder}
use Rattle.binding_kinds.specs.declared.scope.Binder.TheVariants as binders
use Rattle.binding_kinds.specs.Value.{Naming}
use Rattle.binding_kinds.specs.Kinds.{found}
use Rattle.binding_kinds.specs.Meanings.{parameter_of}
use Rattle.binding_kinds.specs.Formula.{Formula, Value, Parameter, Everything, NoPairs, NoEvents, Joined, Marked, Complement, Identity, filled}
use Rattle.binding_kinds.specs.Senses.{Sense, count_of}
use Rattle.binding_kinds.specs.Fits.{IsValue}
use Rattle.binding_kinds.specs.Functions.{sense_seen, named_formula, bound_formula, applied_formula, formula_in, formulas_in}
use Rattle.meaning.specs.Sets.{Set}
use Rattle.meaning.specs.Names.{Name}
use Rattle.meaning.specs.Cat.{Meaning, Bound, ToMeaning, Names, choice_of, bound_of, of_name, of_infix, of_postfix, of_complement, of_identity}
use Rattle.meaning_items.specs.Formulas.{formula_meaning, HasNames, IsBelow}
use Rattle.meaning_items.specs.Bound.{value_at, IsFunctionAs, IsBoundBy, IsBoundAs, AreBound, AreSame}
use Rattle.meaning_items.proofs.Applying.{IsSeen, seen}

-- two values are the same in the slots below that one
abbrev pub AreSameBelow : {E : Type 0} → ℕ → (ℕ → Meaning E) → (ℕ → Meaning E) → Type 1
AreSameBelow n value other = (slot : ℕ) → slot < n → value slot ≡ other slot

pub same_below : {E : Type 0} (all : Set E) (n : ℕ) (value other : ℕ → Meaning E)
    → AreSameBelow n value other → (ms : List (Meaning E)) (f : Formula) → IsBelow n f
    → formula_meaning all value ms f ≡ formula_meaning all other ms f
same_below all n value other same ms (Value f) below = same f.slot below
same_below all n value other same ms (Parameter i) below = refl
same_below all n value other same ms Everything below = refl
same_below all n value other same ms NoPairs below = refl
same_below all n value other same ms NoEvents below = refl
same_below all n value other same ms (Joined op a b) below =
    ap₂ (of_infix op) (same_below all n value other same ms a below.0)
    (same_below all n value other same ms b below.1)
same_below all n value other same ms (Marked op a) below =
    ap (of_postfix all op) (same_below all n value other same ms a below)
same_below all n value other same ms (Complement a) below =
    ap (of_complement all) (same_below all n value other same ms a below)
same_below all n value other same ms (Identity a) below =
    ap of_identity (same_below all n value other same ms a below)

-- ---- names of expressions

pub names_more : (P Q : Found → Type 0) → ((g : Found) → P g → Q g) → (f : Formula)
    → HasNames P f → HasNames Q f
names_more P Q more (Value f) h = more f h
names_more P Q more (Parameter i) h = tt
names_more P Q more Everything h = tt
names_more P Q more NoPairs h = tt
names_more P Q more NoEvents h = tt
names_more P Q more (Joined op a b) h = (names_more P Q more a h.0, names_more P Q more b h.1)
names_more P Q more (Marked op a) h = names_more P Q more a h
names_more P Q more (Complement a) h = names_more P Q more a h
names_more P Q more (Identity a) h = names_more P Q more a h

pub names_both : (P Q : Found → Type 0) (f : Formula) → HasNames P f → HasNames Q f
    → HasNames (λ g. P g × Q g) f
names_both P Q (Value f) h k = (h, k)
names_both P Q (Parameter i) h k = tt
names_both P Q Everything h k = tt
names_both P Q NoPairs h k = tt
names_both P Q NoEvents h k = tt
names_both P Q (Joined op a b) h k = (names_both P Q a h.0 k.0, names_both P Q b h.1 k.1)
names_both P Q (Marked op a) h k = names_both P Q a h k
names_both P Q (Complement a) h k = names_both P Q a h k
names_both P Q (Identity a) h k = names_both P Q a h k

abbrev pub AllHaveNames : (Found → Type 0) → List Formula → Type 0
AllHaveNames P [] = Unit {0}
AllHaveNames P (f ∷ fs) = HasNames P f × AllHaveNames P fs

argument_names : (P : Found → Type 0) (fs : List Formula) (i : ℕ) → AllHaveNames P fs
    → HasNames P (get_or fs i NoPairs)
argument_names P [] i h = tt
argument_names P (f ∷ fs) zero h = h.0
argument_names P (f ∷ fs) (suc i) h = argument_names P fs i h.1

pub filled_names : (P : Found → Type 0) (fs : List Formula) → AllHaveNames P fs → (f : Formula)
    → HasNames P f → HasNames P (filled fs f)
filled_names P fs all (Value f) h = h
filled_names P fs all (Parameter i) h = argument_names P fs i all
filled_names P fs all Everything h = tt
filled_names P fs all NoPairs h = tt
filled_names P fs all NoEvents h = tt
filled_names P fs all (Joined op a b) h = (filled_names P fs all a h.0, filled_names P fs all b h.1)
filled_names P fs all (Marked op a) h = filled_names P fs all a h
filled_names P fs all (Complement a) h = filled_names P fs all a h
filled_names P fs all (Identity a) h = filled_names P fs all a h

-- the slot of a name is that of a name that is seen
pub found_below : (names : List Naming) (x : Name) (f : Found) → found names x ≡ Some f
    → f.slot < length names
found_below [] x f e = absurd (let g : None ≡ Some f = e in cc)
found_below (n ∷ ns) x f e = at_test (bytes_eq n.name x) (found_below ns x f) e
  where
    at_test : (b : Bool) → (found ns x ≡ Some f → f.slot < length ns)
        → (if b then Some (record { slot = length ns; kind = n.kind; binder = n.binder })
        else found ns x) ≡ Some f → f.slot < length (n ∷ ns)
    at_test true below e =
        let g : Found = record { slot = length ns; kind = n.kind; binder = n.binder } in
        let s : g ≡ f = let same : Some g ≡ Some f = e in cc in
        rw (← s) (omega arith)
    at_test false below e = let lt = below e in omega (arith, lt)

name_names : (P : Found → Type 0) (i : Option ℕ) (o : Option Found)
    → ((f : Found) → o ≡ Some f → IsValue f.binder → P f) → HasNames P (named_formula i o)
name_names P (Some i) o h = tt
name_names P None None h = tt
name_names P None (Some f) h = at_binder f.binder (h f refl)
  where
    at_binder : (b : Binder) → (IsValue b → P f) → HasNames P (bound_formula f b)
    at_binder (binders.Predefined p) is = is tt
    at_binder (binders.Bound i) is = is tt
    at_binder (binders.Applicable g) is = tt

applied_names : (P : Found → Type 0) (o : Option Sense) (fs : List Formula)
    → ((s : Sense) → o ≡ Some s → HasNames P s.formula) → AllHaveNames P fs
    → HasNames P (applied_formula o fs)
applied_names P None fs h all = tt
applied_names P (Some s) fs h all = filled_names P fs all s.formula (h s refl)

-- the names of an expression are found, or stand in the bodies of functions
module _ (P : Found → Type 0) (ss : List Sense) (names : List Naming) (ps : List Name)
    (at_name : (x : Name) (f : Found) → found names x ≡ Some f → IsValue f.binder → P f)
    (at_sense : (count : ℕ) (x : Name) (s : Sense) → IsSeen ss names ps count x s
    → HasNames P s.formula) where
  mutual
    pub formula_names : (t : Term) → HasNames P (formula_in ss names ps t)
    formula_names (Atom x) =
        name_names P (parameter_of (reverse ps) x) (found names x) (λ f e. at_name x f e)
    formula_names AllEvents = tt
    formula_names EmptyRelation = tt
    formula_names EmptySet = tt
    formula_names (Join op a b) = (formula_names a, formula_names b)
    formula_names (Mark op a) = formula_names a
    formula_names (Not a) = formula_names a
    formula_names (On a) = formula_names a
    formula_names (Apply x ts) =
        applied_names P (sense_seen ss names ps (count_of ts) x) (formulas_in ss names ps ts)
        (λ s e. at_sense (count_of ts) x s (seen ss names ps (count_of ts) x s e))
        (formulas_names ts)

    formulas_names : (ts : Terms) → AllHaveNames P (formulas_in ss names ps ts)
    formulas_names NoTerm = tt
    formulas_names (OneMore a ts) = (formula_names a, formulas_names ts)

-- the body of a function has names before the function
pub sense_names : {E : Type 0} (all : Set E) (ss : List Sense) (value : ℕ → Meaning E)
    (names : List Naming) (N : Names E) → AreBound all ss value names N → (ps : List Name)
    (count : ℕ) (x : Name) (s : Sense) → (h : IsSeen ss names ps count x s)
    → IsBelow h.found_so.slot s.formula
sense_names {E} all ss value names N bound ps count x s h =
    subst (λ (q : Sense). IsBelow h.found_so.slot q.formula) same at_binder.2
  where
    at_name : IsBoundAs all ss value (Some h.found_so) (bound_of N x)
    at_name = subst (λ (o : Option Found). IsBoundAs all ss value o (bound_of N x)) h.is_found
        (bound x)

    at_binder : IsFunctionAs all ss value h.found_so.slot h.function (bound_of N x)
    at_binder = subst (λ (b : Binder). IsBoundBy all ss value h.found_so.slot b (bound_of N x))
        h.is_function at_name

    same : at_binder.0 ≡ s
    same = let e : Some at_binder.0 ≡ Some s = sym at_binder.1 ∙ h.there in cc

pub formula_below : {E : Type 0} (all : Set E) (ss : List Sense) (value : ℕ → Meaning E)
    (names : List Naming) (N : Names E) → AreBound all ss value names N → (ps : List Name)
    (t : Term) → IsBelow (length names) (formula_in ss names ps t)
formula_below all ss value names N bound ps t =
    formula_names (λ g. g.slot < length names) ss names ps
    (λ x f e is. found_below names x f e)
    (λ count x s h. names_more (λ g. g.slot < h.found_so.slot) (λ g. g.slot < length names)
    (λ g lt. let below = found_below names x h.found_so h.is_found in omega (arith, below, lt))
    s.formula (sense_names all ss value names N bound ps count x s h)) t

-- ---- one name more

function_again : {E : Type 0} (all : Set E) (ss : List Sense) (n : ℕ) (value other : ℕ → Meaning E)
    → AreSameBelow n value other → (slot f : ℕ) (b : Bound E) → slot < n
    → IsFunctionAs all ss value slot f b → IsFunctionAs all ss other slot f b
function_again all ss n value other same slot f b lt h = (
  h.0,
  h.1,
  h.2,
  h.3,
  h.4,
  λ ms long. h.5 ms long
      ∙ same_below all slot value other (λ k below. same k (omega (arith, below, lt))) ms
      h.0.formula h.2,
)

binder_again : {E : Type 0} (all : Set E) (ss : List Sense) (n : ℕ) (value other : ℕ → Meaning E)
    → AreSameBelow n value other → (slot : ℕ) (c : Binder) (b : Bound E) → slot < n
    → IsBoundBy all ss value slot c b → IsBoundBy all ss other slot c b
binder_again {E} all ss n value other same slot (binders.Predefined p) b lt h =
    h ∙ ap (λ (m : Meaning E). ToMeaning m) (same slot lt)
binder_again {E} all ss n value other same slot (binders.Bound i) b lt h =
    h ∙ ap (λ (m : Meaning E). ToMeaning m) (same slot lt)
binder_again all ss n value other same slot (binders.Applicable f) b lt h =
    function_again all ss n value other same slot f b lt h

pub bound_again : {E : Type 0} (all : Set E) (ss : List Sense) (names : List Naming)
    (value other : ℕ → Meaning E) → AreSameBelow (length names) value other → (x : Name)
    (o : Option Found) (b : Bound E) → found names x ≡ o → IsBoundAs all ss value o b
    → IsBoundAs all ss other o b
bound_again all ss names value other same x None b is h = tt
bound_again all ss names value other same x (Some f) b is h =
    binder_again all ss (length names) value other same f.slot f.binder b
    (found_below names x f is) h

pub older_values : {E : Type 0} (b : Name × Bound E) (N : Names E) (n : ℕ) → n ≡ length N
    → AreSameBelow n (value_at N) (value_at (b ∷ N))
older_values {E} b N n is slot lt =
    sym (ap (λ (t : Bool). choice_of t (of_name b.1) (value_at N slot))
    (differs (nat_eq slot (length N)) (eqb-true slot (length N))))
  where
    differs : (t : Bool) → (t ≡ true → slot ≡ length N) → t ≡ false
    differs true same = let e = same refl in absurd (omega (arith, e, is, lt))
    differs false same = refl

-- a name with what is bound in its slot
pub more_bound : {E : Type 0} (all : Set E) (ss : List Sense) (names : List Naming) (N : Names E)
    → AreSame all ss names N → (n : Naming) (b : Name × Bound E) → n.name ≡ b.0
    → IsBoundBy all ss (value_at (b ∷ N)) (length names) n.binder b.1
    → AreSame all ss (n ∷ names) (b ∷ N)
more_bound {E} all ss names N same n b named here = (ap suc same.0, at_name)
  where
    at_test : (x : Name) (t : Bool)
        → IsBoundAs all ss (value_at (b ∷ N)) (found names x) (bound_of N x)
        → IsBoundAs all ss (value_at (b ∷ N))
        (if t then Some (record { slot = length names; kind = n.kind; binder = n.binder })
        else found names x) (choice_of t b.1 (bound_of N x))
    at_test x true rest = here
    at_test x false rest = rest

    at_name : AreBound all ss (value_at (b ∷ N)) (n ∷ names) (b ∷ N)
    at_name x =
        subst
        (λ (m : Name). IsBoundAs all ss (value_at (b ∷ N))
        (if bytes_eq n.name x then Some (record { slot = length names; kind = n.kind; binder = n.binder })
        else found names x) (choice_of (bytes_eq m x) b.1 (bound_of N x))) named
        (at_test x (bytes_eq n.name x)
        (bound_again all ss names (value_at N) (value_at (b ∷ N))
        (older_values b N (length names) same.0) x (found names x) (bound_of N x) refl
        (same.1 x)))

-- the value of the latest name
pub latest_value : {E : Type 0} (b : Name × Bound E) (N : Names E) (n : ℕ) → n ≡ length N
    → value_at (b ∷ N) n ≡ of_name b.1
latest_value {E} b N n is =
    ap (λ (t : Bool). choice_of t (of_name b.1) (value_at N n)) (eq-eqb n (length N) is)
