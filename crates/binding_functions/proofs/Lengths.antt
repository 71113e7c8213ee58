-- The size of an expression is the length of its list in postfix order, with the functions that it
-- applies put in.
use Rattle.std.proofs.Common.{ℕ, zero, suc, ◌≡◌, ◌<◌, ◌≤◌, ◌+◌, ◌*◌, ◌++◌, List, [], ◌∷◌, length, Bool, true, false, Option, Some, None, Result, Ok, Err, refl, sym, ap, ◌∙◌, subst, arith, length-append, inl, inr}
use Rattle.std.specs.Prelude.{nat_eq, if◌then◌else◌, get_or, slice_get}
use Rattle.std.proofs.lemmas.Bool.{eq-eqb, eqb-true}
use Rattle.text_values.specs.ModelValue.{Term, Terms, Atom, AllEvents, EmptyRelation, EmptySet, Join, Mark, Not, On, Apply, NoTerm, OneMore}
use Rattle.binding_kinds.specs.declared.fault.ModelFault.{ModelFault}
use Rattle.binding_kinds.specs.declared.fault.ModelFault.TheVariants as faults
use Rattle.binding_kinds.specs.declared.function.Function.{Function}
use Rattle.binding_kinds.specs.declared.function.Piece.TheVariants as pieces
use Rattle.binding_kinds.specs.declared.kinds.Kind.{Kind}
use Rattle.binding_kinds.specs.declared.scope.Found.{Found}
use Rattle.binding_kinds.specs.declared.scope.Binder.{Binder}
use Rattle.binding_kinds.specs.declared.scope.Binder.TheVariants as binders
use Rattle.binding_kinds.specs.Value.{Naming}
use Rattle.binding_kinds.specs.Kinds.{found}
use Rattle.binding_kinds.specs.Formula.{Formula, Value, Parameter, Everything, NoPairs, NoEvents, Joined, Marked, Complement, Identity, filled, constant_of, factor_of, HasParameters, postfix}
use Rattle.binding_kinds.specs.Senses.{Sense, HaveSenses, sense_of_binder, sense_of, with_arity, count_of, size_of_arguments, size_applied, size_in, sizes_in, kinds_in}
use Rattle.binding_kinds.specs.Functions.{sense_seen, bound_formula, named_formula, applied_formula, formulas_in}
use Rattle.binding_kinds.specs.Fits.{IsFitApplied, IsFit}
use Rattle.binding_kinds.proofs.Applications.{kept_back}
use Rattle.binding_functions.specs.Templates.{pieces_in, HasLarge}
use Rattle.binding_kinds.proofs.Sizes.{args_both}

args_none : (from : ℕ) (sizes : List ℕ) → size_of_arguments (λ p. 0) from sizes ≡ 0
args_none from [] = refl
args_none from (s ∷ ss) = let h = args_none (suc from) ss in omega (arith, h)

one_if : (b : Bool) (s : ℕ) → b ≡ true → (if b then 1 else 0) * s ≡ s
one_if true s e = omega arith
one_if false s e = absurd (let f : false ≡ true = e in cc)

none_if : (b : Bool) (s : ℕ) → (b ≡ true → ⊥) → (if b then 1 else 0) * s ≡ 0
none_if true s e = absurd (e refl)
none_if false s e = omega arith

args_past : (index from : ℕ) (sizes : List ℕ) → index < from
    → size_of_arguments (λ p. if nat_eq index p then 1 else 0) from sizes ≡ 0
args_past index from [] lt = refl
args_past index from (s ∷ ss) lt =
    let h = args_past index (suc from) ss (omega (arith, lt)) in
    let z = none_if (nat_eq index from) s (λ e. let q = eqb-true index from e in omega (arith, q, lt)) in
    omega (arith, h, z)

-- the size of a parameter is that of its argument
args_one : (d index from : ℕ) (sizes : List ℕ) → index ≡ d + from → d < length sizes
    → size_of_arguments (λ p. if nat_eq index p then 1 else 0) from sizes ≡ get_or sizes d 0
args_one d index from [] e lt = absurd (omega (arith, lt))
args_one zero index from (s ∷ ss) e lt =
    let h = args_past index (suc from) ss (omega (arith, e)) in
    let o = one_if (nat_eq index from) s (eq-eqb index from (omega (arith, e))) in
    omega (arith, h, o)
args_one (suc d) index from (s ∷ ss) e lt =
    let h = args_one d index (suc from) ss (omega (arith, e)) (omega (arith, lt)) in
    let z = none_if (nat_eq index from) s (λ t. let q = eqb-true index from t in omega (arith, q, e)) in
    omega (arith, h, z)

abbrev pub lengths : List Formula → List ℕ
lengths [] = []
lengths (f ∷ fs) = length (postfix f) ∷ lengths fs

long_lengths : (fs : List Formula) → length (lengths fs) ≡ length fs
long_lengths [] = refl
long_lengths (f ∷ fs) = ap suc (long_lengths fs)

length_at : (fs : List Formula) (i : ℕ) → i < length fs
    → get_or (lengths fs) i 0 ≡ length (postfix (get_or fs i NoPairs))
length_at [] i lt = absurd (omega (arith, lt))
length_at (f ∷ fs) zero lt = refl
length_at (f ∷ fs) (suc i) lt = length_at fs i (omega (arith, lt))

-- the length of a body with arguments in the places of the parameters
filled_length : (fs : List Formula) (f : Formula) → HasParameters (length fs) f
    → length (postfix (filled fs f))
    ≡ constant_of f + size_of_arguments (factor_of f) 0 (lengths fs)
filled_length fs (Value f) h = let z = args_none 0 (lengths fs) in omega (arith, z)
filled_length fs (Parameter i) h =
    let l = long_lengths fs in
    let o = args_one i i 0 (lengths fs) (omega arith) (omega (arith, h, l)) in
    let e = length_at fs i h in
    omega (arith, o, e)
filled_length fs Everything h = let z = args_none 0 (lengths fs) in omega (arith, z)
filled_length fs NoPairs h = let z = args_none 0 (lengths fs) in omega (arith, z)
filled_length fs NoEvents h = let z = args_none 0 (lengths fs) in omega (arith, z)
filled_length fs (Joined op a b) h =
    let l = filled_length fs a h.0 in
    let r = filled_length fs b h.1 in
    let n = length-append (postfix (filled fs a)) (postfix (filled fs b) ++ pieces.Joined op ∷ []) in
    let m = length-append (postfix (filled fs b)) (pieces.Joined op ∷ []) in
    let e = args_both (factor_of a) (factor_of b) 0 (lengths fs) in
    omega (arith, l, r, n, m, e)
filled_length fs (Marked op a) h =
    let l = filled_length fs a h in
    let n = length-append (postfix (filled fs a)) (pieces.Marked op ∷ []) in omega (arith, l, n)
filled_length fs (Complement a) h =
    let l = filled_length fs a h in
    let n = length-append (postfix (filled fs a)) (pieces.Complement ∷ []) in omega (arith, l, n)
filled_length fs (Identity a) h =
    let l = filled_length fs a h in
    let n = length-append (postfix (filled fs a)) (pieces.Identity ∷ []) in omega (arith, l, n)

named_length : (o : Option Found) → 1 ≡ length (postfix (named_formula None o))
named_length None = refl
named_length (Some f) = at_binder f.binder
  where
    at_binder : (b : Binder) → 1 ≡ length (postfix (bound_formula f b))
    at_binder (binders.Predefined p) = refl
    at_binder (binders.Bound i) = refl
    at_binder (binders.Applicable g) = refl

-- the parameters of a function are among its own
within : (fs : List Function) (ss : List Sense) (n : ℕ) (b : Binder) (s : Sense) → HaveSenses fs ss
    → sense_of_binder ss n b ≡ Ok s → HasParameters n s.formula
within fs ss n (binders.Predefined p) s kept e = absurd (let f : Err faults.Arity ≡ Ok s = e in cc)
within fs ss n (binders.Bound i) s kept e = absurd (let f : Err faults.Arity ≡ Ok s = e in cc)
within fs ss n (binders.Applicable i) s kept e = at_function (slice_get ss i) refl e
  where
    at_test : (t : Sense) (b : Bool) → (b ≡ true → t.arity ≡ n) → HasParameters t.arity t.formula
        → (if b then Ok t else Err faults.Arity) ≡ Ok s → HasParameters n s.formula
    at_test t true same one h =
        let is : t ≡ s = let q : Ok t ≡ Ok s = h in cc in
        subst (λ (x : Sense). HasParameters n x.formula) is (subst
        (λ (m : ℕ). HasParameters m t.formula) (same refl) one)
    at_test t false same one h = absurd (let f : Err faults.Arity ≡ Ok s = h in cc)

    at_function : (o : Option Sense) → slice_get ss i ≡ o → with_arity n o ≡ Ok s
        → HasParameters n s.formula
    at_function None is h = absurd (let f : Err faults.Arity ≡ Ok s = h in cc)
    at_function (Some t) is h =
        at_test t (nat_eq t.arity n) (λ q. eqb-true t.arity n q)
        (kept_back fs ss i t kept is).1.within h

function_within : (fs : List Function) (ss : List Sense) (n : ℕ) (o : Option Found) (s : Sense)
    → HaveSenses fs ss → sense_of ss n o ≡ Ok s → HasParameters n s.formula
function_within fs ss n None s kept e = absurd (let f : Err faults.Unbound ≡ Ok s = e in cc)
function_within fs ss n (Some f) s kept e = within fs ss n f.binder s kept e

applied_length : (fs : List Function) (ss : List Sense) (names : List Naming) (n : ℕ) (x : List ℕ)
    (sizes : List ℕ) (gs : List Formula) (r : Result Sense ModelFault) → HaveSenses fs ss
    → sense_of ss n (found names x) ≡ r → length gs ≡ n → sizes ≡ lengths gs
    → size_applied r sizes ≡ length (postfix (applied_formula (sense_seen ss names [] n x) gs))
applied_length fs ss names n x sizes gs (Err k) kept is long same =
    let sense_is : sense_seen ss names [] n x ≡ None = rw is refl in rw sense_is refl
applied_length fs ss names n x sizes gs (Ok s) kept is long same =
    let sense_is : sense_seen ss names [] n x ≡ Some s = rw is refl in
    let w : HasParameters (length gs) s.formula = rw long (function_within fs ss n (found names x) s kept is) in
    rw (sense_is, same) (sym (filled_length gs s.formula w))

long_formulas : (ss : List Sense) (names : List Naming) (ts : Terms)
    → length (formulas_in ss names [] ts) ≡ count_of ts
long_formulas ss names NoTerm = refl
long_formulas ss names (OneMore a others) = ap suc (long_formulas ss names others)

mutual
  pub size_is : (fs : List Function) (ss : List Sense) (names : List Naming) (t : Term)
      → HaveSenses fs ss → size_in ss names t ≡ length (pieces_in ss names [] t)
  size_is fs ss names (Atom x) kept = named_length (found names x)
  size_is fs ss names AllEvents kept = refl
  size_is fs ss names EmptyRelation kept = refl
  size_is fs ss names EmptySet kept = refl
  size_is fs ss names (Join op a b) kept =
      let l = size_is fs ss names a kept in
      let r = size_is fs ss names b kept in
      let n = length-append (pieces_in ss names [] a) (pieces_in ss names [] b ++ pieces.Joined op ∷ []) in
      let m = length-append (pieces_in ss names [] b) (pieces.Joined op ∷ []) in
      omega (arith, l, r, n, m)
  size_is fs ss names (Mark op a) kept =
      let l = size_is fs ss names a kept in
      let n = length-append (pieces_in ss names [] a) (pieces.Marked op ∷ []) in omega (arith, l, n)
  size_is fs ss names (Not a) kept =
      let l = size_is fs ss names a kept in
      let n = length-append (pieces_in ss names [] a) (pieces.Complement ∷ []) in
      omega (arith, l, n)
  size_is fs ss names (On a) kept =
      let l = size_is fs ss names a kept in
      let n = length-append (pieces_in ss names [] a) (pieces.Identity ∷ []) in omega (arith, l, n)
  size_is fs ss names (Apply x ts) kept =
      applied_length fs ss names (count_of ts) x (sizes_in ss names ts) (formulas_in ss names [] ts)
      (sense_of ss (count_of ts) (found names x)) kept refl (long_formulas ss names ts)
      (sizes_are fs ss names ts kept)

  sizes_are : (fs : List Function) (ss : List Sense) (names : List Naming) (ts : Terms)
      → HaveSenses fs ss → sizes_in ss names ts ≡ lengths (formulas_in ss names [] ts)
  sizes_are fs ss names NoTerm kept = refl
  sizes_are fs ss names (OneMore a others) kept =
      ap (λ (n : ℕ). n ∷ sizes_in ss names others) (size_is fs ss names a kept)
      ∙ ap (λ (l : List ℕ). length (pieces_in ss names [] a) ∷ l)
      (sizes_are fs ss names others kept)

small_applied : (r : Result Sense ModelFault) (sizes : List ℕ) (kinds : List Kind)
    → IsFitApplied r sizes kinds → size_applied r sizes ≤ 4096
small_applied (Err k) sizes kinds h = absurd h
small_applied (Ok s) sizes kinds h = h.0

-- no application in what fits is too large
pub fit_small : (fs : List Function) (ss : List Sense) (names : List Naming) (t : Term)
    → HaveSenses fs ss → IsFit ss names t → HasLarge ss names [] t → ⊥
fit_small fs ss names (Atom x) kept fit h = absurd h
fit_small fs ss names AllEvents kept fit h = absurd h
fit_small fs ss names EmptyRelation kept fit h = absurd h
fit_small fs ss names EmptySet kept fit h = absurd h
fit_small fs ss names (Join op a b) kept fit h =
    elim h [
      | inl l ↦ fit_small fs ss names a kept fit.0 l
      | inr r ↦ fit_small fs ss names b kept
          fit.1 r
    ]
fit_small fs ss names (Mark op a) kept fit h = fit_small fs ss names a kept fit.0 h
fit_small fs ss names (Not a) kept fit h = fit_small fs ss names a kept fit h
fit_small fs ss names (On a) kept fit h = fit_small fs ss names a kept fit.0 h
fit_small fs ss names (Apply x ts) kept fit h =
    let s = small_applied (sense_of ss (count_of ts) (found names x)) (sizes_in ss names ts) (kinds_in ss names ts) fit.0 in
    let e = size_is fs ss names (Apply x ts) kept in
    omega (arith, s, e, h)
