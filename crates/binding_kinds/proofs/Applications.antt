-- Arguments one after another: their kinds as a number, their sizes as a sum.
use Rattle.std.proofs.Common.{ℕ, zero, suc, ◌≡◌, ◌<◌, ◌≤◌, ◌+◌, ◌*◌, ◌^◌, inl, inr, min, List, [], ◌∷◌, ◌++◌, length, map, Bool, true, false, Option, Some, None, Ok, Err, Vec, Global, refl, sym, ap, subst, ◌∙◌, arith, add-one, ◌≢◌, drop, ◌||◌, drop-cons}
use Rattle.std.specs.Prelude.{slice_get, get_or, not, nat_eq, if◌then◌else◌}
use Rattle.std.proofs.Math.Nat.{pow-succ', pow-le-pow_right, mul-le-mul_left, mul_assoc, mul_comm, mul-add}
use Rattle.std.proofs.lemmas.Bool.{cases_lt, eqb-true, eq-eqb, lt-ltb, le-ltb}
use Rattle.text_values.specs.declared.model.Expression.{Expression}
use Rattle.text_values.specs.declared.model.Expression.TheVariants as expressions
use Rattle.text_values.specs.ModelValues as values
use Rattle.text_values.proofs.Arguments.{applied_term}
use Rattle.text_values.specs.ModelValue.{Term, Terms, Atom, AllEvents, EmptyRelation, EmptySet, Join, Mark, Not, On, Apply, NoTerm, OneMore, gathered}
use Rattle.binding_kinds.specs.declared.fault.ModelFault.TheVariants as faults
use Rattle.binding_kinds.specs.declared.kinds.Kind.{Kind}
use Rattle.binding_kinds.specs.declared.kinds.Kind.TheVariants.{OfSet, OfRelation, OfAny}
use Rattle.binding_kinds.specs.declared.scope.Found.{Found}
use Rattle.binding_kinds.specs.declared.scope.Binder.{Binder}
use Rattle.binding_kinds.specs.declared.scope.Binder.TheVariants as binders
use Rattle.binding_kinds.specs.declared.function.Function.{Function}
use Rattle.binding_kinds.specs.Value.{Naming}
use Rattle.binding_kinds.specs.Kinds.{found}
use Rattle.binding_kinds.specs.Combinations.{digit, kinds_number, unknown}
use Rattle.binding_kinds.specs.Formula.{factor_of}
use Rattle.binding_kinds.specs.Verdict.{or_else, unless}
use Rattle.binding_kinds.proofs.Sizes.{kept_positive, kept_large}
use Rattle.binding_kinds.specs.declared.signature.Signature.{Signature}
use Rattle.binding_kinds.specs.declared.fault.ModelFault.{ModelFault}
use Rattle.binding_kinds.specs.Senses.{Sense, size_of_arguments, size_with, with_arity, sense_of_binder, sense_of, count_of, size_applied, under_of, kind_in, term_fault, first_among, size_in, sizes_in, kinds_in, kind_applied, fault_applied, ArePositive, HasSense, HaveSenses, IsSameSize}

-- one fault after another
pub or_else_assoc : (a b c : Option ModelFault) → or_else (or_else a b) c ≡ or_else a (or_else b c)
or_else_assoc None b c = refl
or_else_assoc (Some k) b c = refl

small_digit : (k : Kind) → digit k < 3
small_digit OfSet = omega arith
small_digit OfRelation = omega arith
small_digit OfAny = omega arith

pub below_power : (ks : List Kind) → kinds_number ks < 3 ^ length ks
below_power [] = omega arith
below_power (k ∷ ks) =
    let h = below_power ks in
    let d = small_digit k in
    let e = pow-succ' 3 (length ks) in
    omega (arith, h, d, e)

pub below_table : (ks : List Kind) → length ks ≤ 8 → kinds_number ks < 6561
below_table ks le =
    let h = below_power ks in
    let p : 3 ^ length ks ≤ 3 ^ 8 = pow-le-pow_right (omega arith) le in
    omega (arith, h, p)

-- one more argument of the number
pub combined : (c t p : ℕ) (k : Kind) (ks : List Kind) → c + 3 ^ p * kinds_number (k ∷ ks) ≡ t
    → (c + digit k * 3 ^ p) + 3 ^ (p + 1) * kinds_number ks ≡ t
combined c t p k ks e =
    let n = kinds_number ks in
    let q = 3 ^ p in
    let w : 3 ^ (p + 1) * n ≡ q * (3 * n) = ap (λ (m : ℕ). 3 ^ m * n) (add-one p) ∙ ap (λ (m : ℕ). m * n) (pow-succ' 3 p ∙ mul_comm 3 q) ∙ mul_assoc q 3 n in
    let v : q * (digit k + 3 * n) ≡ digit k * q + q * (3 * n) = spread q (digit k) (3 * n) in
    omega (arith, e, w, v)
  where
    spread : (q d m : ℕ) → q * (d + m) ≡ d * q + q * m
    spread q d m = mul-add q d m ∙ ap (λ (x : ℕ). x + q * m) (mul_comm q d)

alike_mul : (f a b : ℕ) → IsSameSize a b → IsSameSize (f * a) (f * b)
alike_mul zero a b e = omega arith
alike_mul (suc f) a b e = elim (cases_lt 4096 a) [
  | inl large ↦
      let one : 1 ≤ suc f = omega arith in
      let g : a * 1 ≤ a * suc f = mul-le-mul_left a one in
      let h : b * 1 ≤ b * suc f = mul-le-mul_left b one in
      let g_is = mul_comm a (suc f) in
      let h_is = mul_comm b (suc f) in
      omega (arith, e, large, g, h, g_is, h_is)
  | inr small ↦ let s : a ≡ b = omega (arith, e, small) in ap (λ (x : ℕ). min (suc f * x) 4097) s
]

-- one more argument of the size
pub sized : (f : ℕ → ℕ) (index : ℕ) (ss : List ℕ) (before after g one s total : ℕ) → g ≡ f index
    → IsSameSize one s → IsSameSize after (before + g * one)
    → IsSameSize (before + size_of_arguments f index (s ∷ ss)) total
    → IsSameSize (after + size_of_arguments f (suc index) ss) total
sized f index ss before after g one s total g_is one_is after_is e =
    let m : IsSameSize (f index * one) (f index * s) = alike_mul (f index) one s one_is in
    let a : IsSameSize after (before + f index * one) = ap (λ (x : ℕ). min after 4097) g_is ∙ after_is ∙ ap (λ (x : ℕ). min (before + x * one) 4097) g_is in
    omega (arith, m, a, e)

-- what is kept stands at the same index
pub kept_at : (fs : List Function) (ss : List Sense) (i : ℕ) (f : Function) → HaveSenses fs ss
    → slice_get fs i ≡ Some f → (s : Sense) × (slice_get ss i ≡ Some s) × HasSense f s
kept_at [] [] i f h e = absurd (let n : None ≡ Some f = e in cc)
kept_at [] (s ∷ ss) i f h e = absurd h
kept_at (g ∷ fs) [] i f h e = absurd h
kept_at (g ∷ fs) (s ∷ ss) zero f h e =
    let same : g ≡ f = cc in (s, refl, subst (λ x. HasSense x s) same h.0)
kept_at (g ∷ fs) (s ∷ ss) (suc i) f h e = kept_at fs ss i f h.1 e

pub kept_none : (fs : List Function) (ss : List Sense) (i : ℕ) → HaveSenses fs ss
    → slice_get fs i ≡ None → slice_get ss i ≡ None
kept_none [] [] i h e = refl
kept_none [] (s ∷ ss) i h e = absurd h
kept_none (g ∷ fs) [] i h e = absurd h
kept_none (g ∷ fs) (s ∷ ss) zero h e = absurd (let n : Some g ≡ None = e in cc)
kept_none (g ∷ fs) (s ∷ ss) (suc i) h e = kept_none fs ss i h.1 e

pub kept_back : (fs : List Function) (ss : List Sense) (i : ℕ) (s : Sense) → HaveSenses fs ss
    → slice_get ss i ≡ Some s → (f : Function) × HasSense f s
kept_back [] [] i s h e = absurd (let n : None ≡ Some s = e in cc)
kept_back [] (t ∷ ss) i s h e = absurd h
kept_back (g ∷ fs) [] i s h e = absurd h
kept_back (g ∷ fs) (t ∷ ss) zero s h e =
    let same : t ≡ s = cc in (g, subst (λ x. HasSense g x) same h.0)
kept_back (g ∷ fs) (t ∷ ss) (suc i) s h e = kept_back fs ss i s h.1 e

pub long_sizes : (ss : List Sense) (names : List Naming) (ts : Terms)
    → length (sizes_in ss names ts) ≡ count_of ts
long_sizes ss names NoTerm = refl
long_sizes ss names (OneMore a others) = ap suc (long_sizes ss names others)

-- the size of an application is positive where those of its arguments are
applied_positive : (fs : List Function) (ss : List Sense) (n : ℕ) (o : Option Found)
    (sizes : List ℕ) → HaveSenses fs ss → length sizes ≡ n → ArePositive sizes
    → 0 < size_applied (sense_of ss n o) sizes
applied_positive fs ss n None sizes h long p = omega arith
applied_positive fs ss n (Some f) sizes h long p = at_binder f.binder
  where
    at_function : (i : ℕ) (o : Option Sense) → slice_get ss i ≡ o
        → 0 < size_applied (with_arity n o) sizes
    at_function i None e = omega arith
    at_function i (Some s) e = at_arity (nat_eq s.arity n) (λ t. eqb-true s.arity n t)
      where
        at_arity : (b : Bool) → (b ≡ true → s.arity ≡ n)
            → 0 < size_applied (if b then Ok s else Err faults.Arity) sizes
        at_arity true same =
            kept_positive (kept_back fs ss i s h e).0 s (kept_back fs ss i s h e).1 sizes
            (long ∙ sym (same refl)) p
        at_arity false same = omega arith

    at_binder : (b : Binder) → 0 < size_applied (sense_of_binder ss n b) sizes
    at_binder (binders.Predefined q) = omega arith
    at_binder (binders.Bound i) = omega arith
    at_binder (binders.Applicable i) = at_function i (slice_get ss i) refl

mutual
  pub size_positive : (fs : List Function) (ss : List Sense) (names : List Naming) (t : Term)
      → HaveSenses fs ss → 0 < size_in ss names t
  size_positive fs ss names (Atom x) h = omega arith
  size_positive fs ss names AllEvents h = omega arith
  size_positive fs ss names EmptyRelation h = omega arith
  size_positive fs ss names EmptySet h = omega arith
  size_positive fs ss names (Join op a b) h = omega arith
  size_positive fs ss names (Mark op a) h = omega arith
  size_positive fs ss names (Not a) h = omega arith
  size_positive fs ss names (On a) h = omega arith
  size_positive fs ss names (Apply x ts) h =
      applied_positive fs ss (count_of ts) (found names x) (sizes_in ss names ts) h
      (long_sizes ss names ts) (sizes_positive fs ss names ts h)

  pub sizes_positive : (fs : List Function) (ss : List Sense) (names : List Naming) (ts : Terms)
      → HaveSenses fs ss → ArePositive (sizes_in ss names ts)
  sizes_positive fs ss names NoTerm h = tt
  sizes_positive fs ss names (OneMore a others) h =
      (size_positive fs ss names a h, sizes_positive fs ss names others h)

too_large : (s : Sense) (sizes : List ℕ) (kinds : List Kind) (later : Option ModelFault)
    → 4096 < size_with s sizes
    → (kind_applied (Ok s) sizes kinds ≡ OfAny)
    × (fault_applied (Ok s) sizes kinds later ≡ Some faults.TooLarge)
too_large s sizes kinds later lt = (
  ap (λ (b : Bool). if b then OfAny else s.kind_with kinds) (lt-ltb 4096 (size_with s sizes) lt),
  ap
      (λ (b : Bool). if b then Some faults.TooLarge
      else or_else (unless (not (s.clashes kinds)) faults.Kind) later)
      (lt-ltb 4096 (size_with s sizes) lt),
)

not_too_large : (s : Sense) (sizes : List ℕ) (kinds : List Kind) (later : Option ModelFault)
    → size_with s sizes ≤ 4096
    → (kind_applied (Ok s) sizes kinds ≡ s.kind_with kinds)
    × (fault_applied (Ok s) sizes kinds later
    ≡ or_else (unless (not (s.clashes kinds)) faults.Kind) later)
not_too_large s sizes kinds later le = (
  ap (λ (b : Bool). if b then OfAny else s.kind_with kinds) (le-ltb 4096 (size_with s sizes) le),
  ap
      (λ (b : Bool). if b then Some faults.TooLarge
      else or_else (unless (not (s.clashes kinds)) faults.Kind) later)
      (le-ltb 4096 (size_with s sizes) le),
)

-- what is judged of an application of a function whose arguments are judged
pub record IsJudged (s : Sense) (sizes : List ℕ) (kinds : List Kind) (later : Option ModelFault)
    (k : Kind) (size : ℕ) (fault : Option ModelFault) : Type 0 where
  pub kind : k ≡ kind_applied (Ok s) sizes kinds
  pub size_is : IsSameSize size (size_with s sizes)
  pub fault_is : fault ≡ fault_applied (Ok s) sizes kinds later

pub is_judged : (f : Function) (s : Sense) (sizes : List ℕ) (kinds : List Kind)
    (later : Option ModelFault) (k : Kind) (size all_size combination : ℕ)
    (fault all_fault : Option ModelFault)
    → HasSense f s → length sizes ≡ s.arity → length kinds ≡ s.arity → ArePositive sizes
    → combination ≡ kinds_number kinds
    → (f.is_oversized ≡ false → IsSameSize all_size (size_with s sizes)) → all_fault ≡ later
    → (f.is_oversized ≡ true → (k ≡ OfAny) × (fault ≡ Some faults.TooLarge) × (4096 < size))
    → (4096 < all_size → (k ≡ OfAny) × (fault ≡ Some faults.TooLarge) × (4096 < size))
    → (f.is_oversized ≡ false → all_size ≤ 4096
    → (k ≡ (get_or f.signatures.items combination unknown).kind)
    × (fault
    ≡ or_else
    (unless (not (get_or f.signatures.items combination unknown).clashes)
    faults.Kind) all_fault) × (size ≡ all_size))
    → IsJudged s sizes kinds later k size fault
is_judged f s sizes kinds later k size all_size combination fault all_fault kept long_s long_k pos
    comb_is size_is fault_is over large small = at_oversized f.is_oversized refl
  where
    at_large : 4096 < size_with s sizes
        → (k ≡ OfAny) × (fault ≡ Some faults.TooLarge) × (4096 < size)
        → IsJudged s sizes kinds later k size fault
    at_large lt h =
        let e = too_large s sizes kinds later lt in
        record { kind = h.0 ∙ sym e.0; size_is = let m = h.2 in omega (arith, m, lt); fault_is = h.1 ∙ sym e.1 }

    at_oversized : (b : Bool) → f.is_oversized ≡ b → IsJudged s sizes kinds later k size fault
    at_oversized true e = at_large (kept_large f s kept sizes e long_s pos) (over e)
    at_oversized false e = elim (cases_lt 4096 all_size) [
      | inl lt ↦ let a = size_is e in at_large (omega (arith, a, lt)) (large lt)
      | inr le ↦
          let a = size_is e in
          let r = not_too_large s sizes kinds later (omega (arith, a, le)) in
          let h = small e le in
          let g = ap (λ (n : ℕ). get_or f.signatures.items n unknown) comb_is ∙ kept.kinds kinds long_k in
          record {
            kind = h.0 ∙ ap (λ (x : Signature). x.kind) g ∙ sym r.0;
            size_is = ap (λ (n : ℕ). min n 4097) h.2 ∙ a;
            fault_is =
                h.1
                ∙ ap (λ (x : Signature). or_else (unless (not x.clashes) faults.Kind) all_fault) g
                ∙ ap
                (λ (o : Option ModelFault).
                or_else (unless (not (s.clashes kinds)) faults.Kind) o) fault_is ∙ sym r.1;
          }
    ]

pub is_function : (fs : List Function) (ss : List Sense) (n i : ℕ) (o : Option Found) (f : Found)
    (one : Function) → HaveSenses fs ss → o ≡ Some f → f.binder ≡ binders.Applicable i
    → slice_get fs i ≡ Some one → one.arity ≡ n
    → (s : Sense) × (sense_of ss n o ≡ Ok s) × HasSense one s
is_function fs ss n i o f one h o_is b_is at arity =
    let k = kept_at fs ss i one h at in (
      k.0,
      ap (sense_of ss n) o_is ∙ ap (sense_of_binder ss n) b_is ∙ ap (with_arity n) k.1
          ∙ same_arity (eq-eqb k.0.arity n (sym k.2.arity ∙ arity)),
      k.2,
    )
  where
    same_arity : {s : Sense} {b : Bool} → b ≡ true → (if b then Ok s else Err faults.Arity) ≡ Ok s
    same_arity e = rw e refl

pub another_arity : (fs : List Function) (ss : List Sense) (n i : ℕ) (o : Option Found) (f : Found)
    (one : Function) → HaveSenses fs ss → o ≡ Some f → f.binder ≡ binders.Applicable i
    → slice_get fs i ≡ Some one → one.arity ≢ n → sense_of ss n o ≡ Err faults.Arity
another_arity fs ss n i o f one h o_is b_is at arity =
    let k = kept_at fs ss i one h at in
    ap (sense_of ss n) o_is ∙ ap (sense_of_binder ss n) b_is ∙ ap (with_arity n) k.1
    ∙ other_arity k.0 (nat_eq k.0.arity n) (λ t. arity (k.2.arity ∙ eqb-true k.0.arity n t))
  where
    other_arity : (s : Sense) (b : Bool) → (b ≡ true → ⊥)
        → (if b then Ok s else Err faults.Arity) ≡ Err faults.Arity
    other_arity s true e = absurd (e refl)
    other_arity s false e = refl

pub no_function : (fs : List Function) (ss : List Sense) (n i : ℕ) (o : Option Found) (f : Found)
    → HaveSenses fs ss → o ≡ Some f → f.binder ≡ binders.Applicable i → slice_get fs i ≡ None
    → sense_of ss n o ≡ Err faults.Arity
no_function fs ss n i o f h o_is b_is at =
    ap (sense_of ss n) o_is ∙ ap (sense_of_binder ss n) b_is
    ∙ ap (with_arity n) (kept_none fs ss i h at)

-- an application is one of a name to so many arguments
abbrev arguments_of : Vec Expression Global → Terms
arguments_of args = gathered (map values.term_of args.items)

pub count_arguments : (xs : List Expression)
    → count_of (gathered (map values.term_of xs)) ≡ length xs
count_arguments [] = refl
count_arguments (x ∷ xs) = ap suc (count_arguments xs)

-- a name that is no function of so many parameters
pub unfit_term : (ss : List Sense) (names : List Naming) (from : ℕ) (under : Bool) (n : List ℕ)
    (ts : Terms) (k : ModelFault) → sense_of ss (count_of ts) (found names n) ≡ Err k
    → (OfAny ≡ kind_in ss names (Apply n ts)) × (1 ≡ size_in ss names (Apply n ts))
    × (Some k ≡ term_fault ss names from under (Apply n ts))
unfit_term ss names from under n ts k r = (
  sym (ap (λ x. kind_applied x (sizes_in ss names ts) (kinds_in ss names ts)) r),
  sym (ap (λ x. size_applied x (sizes_in ss names ts)) r),
  sym (ap
      (λ x. fault_applied x (sizes_in ss names ts) (kinds_in ss names ts)
      (first_among ss names from under (under_of x) 0 ts)) r),
)

pub unfit : (ss : List Sense) (names : List Naming) (from : ℕ) (under : Bool) (e : Expression)
    (n : List ℕ) (args : Vec Expression Global) (k : ModelFault)
    → e ≡ expressions.Applied n args → sense_of ss (length args.items) (found names n) ≡ Err k
    → (OfAny ≡ kind_in ss names (values.term_of e)) × (1 ≡ size_in ss names (values.term_of e))
    × (Some k ≡ term_fault ss names from under (values.term_of e))
unfit ss names from under e n args k is none =
    let ts = arguments_of args in
    let t : values.term_of e ≡ Apply n ts = ap values.term_of is ∙ applied_term n args in
    rw t (unfit_term ss names from under n ts k (ap (λ (m : ℕ). sense_of ss m (found names n))
    (count_arguments args.items) ∙ none))

-- an application of a function whose arguments are judged
pub fit_term : (ss : List Sense) (names : List Naming) (from : ℕ) (under : Bool) (n : List ℕ)
    (ts : Terms) (s : Sense) (k : Kind) (size : ℕ) (fault : Option ModelFault)
    → sense_of ss (count_of ts) (found names n) ≡ Ok s
    → IsJudged s (sizes_in ss names ts) (kinds_in ss names ts)
    (first_among ss names from under s.is_under 0 ts) k size fault
    → (k ≡ kind_in ss names (Apply n ts)) × IsSameSize size (size_in ss names (Apply n ts))
    × (fault ≡ term_fault ss names from under (Apply n ts))
fit_term ss names from under n ts s k size fault r judged = (
  judged.kind ∙ sym (ap (λ x. kind_applied x (sizes_in ss names ts) (kinds_in ss names ts)) r),
  judged.size_is
      ∙ ap (λ (m : ℕ). min m 4097) (sym (ap (λ x. size_applied x (sizes_in ss names ts)) r)),
  judged.fault_is
      ∙ sym (ap
      (λ x. fault_applied x (sizes_in ss names ts) (kinds_in ss names ts)
      (first_among ss names from under (under_of x) 0 ts)) r),
)

pub fit : (ss : List Sense) (names : List Naming) (from : ℕ) (under : Bool) (e : Expression)
    (n : List ℕ) (args : Vec Expression Global) (s : Sense) (k : Kind) (size : ℕ)
    (fault : Option ModelFault)
    → e ≡ expressions.Applied n args → sense_of ss (length args.items) (found names n) ≡ Ok s
    → IsJudged s (sizes_in ss names (arguments_of args)) (kinds_in ss names (arguments_of args))
    (first_among ss names from under s.is_under 0 (arguments_of args)) k size fault
    → (k ≡ kind_in ss names (values.term_of e)) × IsSameSize size (size_in ss names (values.term_of e))
    × (fault ≡ term_fault ss names from under (values.term_of e))
fit ss names from under e n args s k size fault is there judged =
    let ts = arguments_of args in
    let t : values.term_of e ≡ Apply n ts = ap values.term_of is ∙ applied_term n args in
    rw t (fit_term ss names from under n ts s k size fault
    (ap (λ (m : ℕ). sense_of ss m (found names n)) (count_arguments args.items) ∙ there)
    judged)

pub next : (xs : List Expression) (i : ℕ) (e : Expression) → i < length xs → e ≡ get_or xs i e
    → gathered (map values.term_of (drop i xs))
    ≡ OneMore (values.term_of e) (gathered (map values.term_of (drop (i + 1) xs)))
next xs i e lt is =
    ap (λ (l : List Expression). gathered (map values.term_of l)) (drop-cons xs i e lt)
    ∙ ap
    (λ (x : Expression).
    OneMore (values.term_of x) (gathered (map values.term_of (drop (suc i) xs))))
    (sym is)
    ∙ ap (λ (n : ℕ). OneMore (values.term_of e) (gathered (map values.term_of (drop n xs))))
    (sym (add-one i))

pub long_kinds : (ss : List Sense) (names : List Naming) (ts : Terms)
    → length (kinds_in ss names ts) ≡ count_of ts
long_kinds ss names NoTerm = refl
long_kinds ss names (OneMore a others) = ap suc (long_kinds ss names others)

pub next_combination : (ss : List Sense) (names : List Naming) (xs : List Expression) (i : ℕ)
    (e : Expression) (c after : ℕ) (k : Kind) (n : ℕ) → n ≡ length xs → n ≤ 8 → i < length xs
    → e ≡ get_or xs i e
    → k ≡ kind_in ss names (values.term_of e) → (i < 8 → c < 6561 → after ≡ c + digit k * 3 ^ i)
    → c + 3 ^ i * kinds_number (kinds_in ss names (gathered (map values.term_of (drop i xs))))
    ≡ kinds_number (kinds_in ss names (gathered (map values.term_of xs)))
    → after + 3 ^ (i + 1)
    * kinds_number (kinds_in ss names (gathered (map values.term_of (drop (i + 1) xs))))
    ≡ kinds_number (kinds_in ss names (gathered (map values.term_of xs)))
next_combination ss names xs i e c after k n long few lt is k_is after_is inv =
    let rest = kinds_in ss names (gathered (map values.term_of (drop (i + 1) xs))) in
    let whole = kinds_in ss names (gathered (map values.term_of xs)) in
    let length_is : length whole ≡ length xs = long_kinds ss names (gathered (map values.term_of xs)) ∙ count_arguments xs in
    let bound : kinds_number whole < 6561 = below_table whole (omega (arith, length_is, long, few)) in
    let small : c < 6561 = omega (arith, inv, bound) in
    let open_inv : c + 3 ^ i * kinds_number (kind_in ss names (values.term_of e) ∷ rest) ≡ kinds_number whole =
    sym (ap (λ (t : Terms). c + 3 ^ i * kinds_number (kinds_in ss names t)) (next xs i e lt is))
    ∙ inv in
    ap (λ (m : ℕ). m + 3 ^ (i + 1) * kinds_number rest) (after_is (omega (arith, lt, long, few)) small
    ∙ ap (λ (x : Kind). c + digit x * 3 ^ i) k_is)
    ∙ combined c (kinds_number whole) i (kind_in ss names (values.term_of e)) rest open_inv

pub next_fault : (ss : List Sense) (names : List Naming) (from : ℕ) (under : Bool)
    (turned : ℕ → Bool) (xs : List Expression) (i : ℕ) (e : Expression)
    (before after one : Option ModelFault) (inner : Bool) (total : Option ModelFault)
    → i < length xs → e ≡ get_or xs i e
    → inner ≡ (under || turned i) → one ≡ term_fault ss names from inner (values.term_of e)
    → after ≡ or_else before one
    → or_else before (first_among ss names from under turned i
    (gathered (map values.term_of (drop i xs)))) ≡ total
    → or_else after (first_among ss names from under turned (i + 1)
    (gathered (map values.term_of (drop (i + 1) xs)))) ≡ total
next_fault ss names from under turned xs i e before after one inner total lt is inner_is one_is
    after_is inv =
    let rest = gathered (map values.term_of (drop (i + 1) xs)) in
    let open_inv : or_else before (or_else (term_fault ss names from (under || turned i) (values.term_of e)) (first_among ss names from under turned (suc i) rest)) ≡ total =
    sym (ap (λ (t : Terms). or_else before (first_among ss names from under turned i t))
    (next xs i e lt is)) ∙ inv in
    let one_is_so : one ≡ term_fault ss names from (under || turned i) (values.term_of e) = one_is ∙ ap (λ (b : Bool). term_fault ss names from b (values.term_of e)) inner_is in
    ap (λ (n : ℕ). or_else after (first_among ss names from under turned n rest)) (add-one i)
    ∙ ap
    (λ (o : Option ModelFault). or_else o (first_among ss names from under turned (suc i) rest))
    (after_is ∙ ap (λ (o : Option ModelFault). or_else before o) one_is_so)
    ∙ or_else_assoc before _ (first_among ss names from under turned (suc i) rest)
    ∙ open_inv

pub next_size : (ss : List Sense) (names : List Naming) (f : ℕ → ℕ) (xs : List Expression) (i : ℕ)
    (e : Expression) (before after g one total : ℕ) → i < length xs → e ≡ get_or xs i e
    → g ≡ f i → IsSameSize one (size_in ss names (values.term_of e)) → IsSameSize after (before + g * one)
    → IsSameSize
    (before
    + size_of_arguments f i (sizes_in ss names (gathered (map values.term_of (drop i xs)))))
    total
    → IsSameSize
    (after
    + size_of_arguments f (i + 1) (sizes_in ss names
    (gathered (map values.term_of (drop (i + 1) xs))))) total
next_size ss names f xs i e before after g one total lt is g_is one_is after_is inv =
    let rest = sizes_in ss names (gathered (map values.term_of (drop (i + 1) xs))) in
    let open_inv : IsSameSize (before + size_of_arguments f i (size_in ss names (values.term_of e) ∷ rest)) total =
    sym (ap (λ (t : Terms). min (before + size_of_arguments f i (sizes_in ss names t)) 4097)
    (next xs i e lt is)) ∙ inv in
    ap (λ (n : ℕ). min (after + size_of_arguments f n rest) 4097) (add-one i)
    ∙ sized f i rest before after g one (size_in ss names (values.term_of e)) total g_is one_is
    after_is open_inv

pub found_arity : (ss : List Sense) (n : ℕ) (o : Option Found) (s : Sense) → sense_of ss n o ≡ Ok s
    → s.arity ≡ n
found_arity ss n None s e = absurd (let r : Err faults.Unbound ≡ Ok s = e in cc)
found_arity ss n (Some f) s e = at_binder f.binder e
  where
    at_arity : (t : Sense) (b : Bool) → (b ≡ true → t.arity ≡ n)
        → (if b then Ok t else Err faults.Arity) ≡ Ok s → s.arity ≡ n
    at_arity t true same h =
        let r : t ≡ s = let q : Ok t ≡ Ok s = h in cc in
        subst (λ (x : Sense). x.arity ≡ n) r (same refl)
    at_arity t false same h = absurd (let r : Err faults.Arity ≡ Ok s = h in cc)

    at_function : (o : Option Sense) → with_arity n o ≡ Ok s → s.arity ≡ n
    at_function None h = absurd (let r : Err faults.Arity ≡ Ok s = h in cc)
    at_function (Some t) h = at_arity t (nat_eq t.arity n) (λ q. eqb-true t.arity n q) h

    at_binder : (b : Binder) → sense_of_binder ss n b ≡ Ok s → s.arity ≡ n
    at_binder (binders.Predefined q) h = absurd (let r : Err faults.Arity ≡ Ok s = h in cc)
    at_binder (binders.Bound i) h = absurd (let r : Err faults.Arity ≡ Ok s = h in cc)
    at_binder (binders.Applicable i) h = at_function (slice_get ss i) h

drop_past : (xs : List Expression) (p : ℕ) → length xs ≤ p → drop p xs ≡ []
drop_past [] zero le = refl
drop_past [] (suc p) le = refl
drop_past (x ∷ xs) zero le = absurd (omega (arith, le))
drop_past (x ∷ xs) (suc p) le = drop_past xs p (omega (arith, le))

pub or_none : (o : Option ModelFault) → or_else o None ≡ o
or_none None = refl
or_none (Some k) = refl

-- the arguments are gone through
pub finished : (fs : List Function) (ss : List Sense) (names : List Naming) (from : ℕ)
    (under : Bool) (e : Expression) (n : List ℕ) (args : Vec Expression Global) (f : Function)
    (s : Sense) (m p all_comb all_size : ℕ) (all_fault : Option ModelFault) (k : Kind) (size : ℕ)
    (fault : Option ModelFault)
    → HaveSenses fs ss → e ≡ expressions.Applied n args → m ≡ length args.items
    → sense_of ss m (found names n) ≡ Ok s → HasSense f s → length args.items ≤ p
    → (length args.items ≡ s.arity
    → all_comb + 3 ^ p
    * kinds_number (kinds_in ss names
    (gathered (map values.term_of (drop p args.items))))
    ≡ kinds_number (kinds_in ss names (arguments_of args)))
    → (length args.items ≡ s.arity → f.is_oversized ≡ false
    → IsSameSize
    (all_size
    + size_of_arguments (factor_of s.formula) p (sizes_in ss names
    (gathered (map values.term_of (drop p args.items)))))
    (size_with s (sizes_in ss names (arguments_of args))))
    → (length args.items ≡ s.arity
    → or_else all_fault (first_among ss names from under s.is_under p
    (gathered (map values.term_of (drop p args.items))))
    ≡ first_among ss names from under s.is_under 0 (arguments_of args))
    → (f.is_oversized ≡ true → (k ≡ OfAny) × (fault ≡ Some faults.TooLarge) × (4096 < size))
    → (4096 < all_size → (k ≡ OfAny) × (fault ≡ Some faults.TooLarge) × (4096 < size))
    → (f.is_oversized ≡ false → all_size ≤ 4096
    → (k ≡ (get_or f.signatures.items all_comb unknown).kind)
    × (fault
    ≡ or_else
    (unless (not (get_or f.signatures.items all_comb unknown).clashes)
    faults.Kind) all_fault) × (size ≡ all_size))
    → (k ≡ kind_in ss names (values.term_of e)) × IsSameSize size (size_in ss names (values.term_of e))
    × (fault ≡ term_fault ss names from under (values.term_of e))
finished fs ss names from under e n args f s m p all_comb all_size all_fault k size fault kept is
    m_is there one past comb sizes faulty over large small =
    let ts = arguments_of args in
    let none = drop_past args.items p past in
    let long : length args.items ≡ s.arity = sym m_is ∙ sym (found_arity ss m (found names n) s there) in
    let comb_is : all_comb ≡ kinds_number (kinds_in ss names ts) =
    let h = sym (ap (λ (l : List Expression). all_comb + 3 ^ p * kinds_number (kinds_in ss names (gathered (map values.term_of l)))) none) ∙ comb long in omega (arith, h) in
    let size_is : f.is_oversized ≡ false → IsSameSize all_size (size_with s (sizes_in ss names ts)) =
    λ b.
    let h =
    sym (ap
    (λ (l : List Expression). min
    (all_size
    + size_of_arguments (factor_of s.formula) p
    (sizes_in ss names (gathered (map values.term_of l)))) 4097) none)
    ∙ sizes long b in
    omega (arith, h) in
    let fault_is : all_fault ≡ first_among ss names from under s.is_under 0 ts =
    sym (or_none all_fault)
    ∙ (sym (ap
    (λ (l : List Expression). or_else all_fault (first_among ss names from under
    s.is_under p (gathered (map values.term_of l)))) none)
    ∙ faulty long) in
    fit ss names from under e n args s k size fault is (ap
    (λ (x : ℕ). sense_of ss x (found names n)) (sym m_is) ∙ there)
    (is_judged f s (sizes_in ss names ts) (kinds_in ss names ts)
    (first_among ss names from under s.is_under 0 ts) k size all_size all_comb fault all_fault
    one
    (long_sizes ss names ts ∙ count_arguments args.items ∙ long)
    (long_kinds ss names ts ∙ count_arguments args.items ∙ long)
    (sizes_positive fs ss names ts kept)
    comb_is size_is fault_is over large small)

-- as many functions as there are
pub kept_long : (fs : List Function) (ss : List Sense) → HaveSenses fs ss → length fs ≡ length ss
kept_long [] [] h = refl
kept_long [] (s ∷ ss) h = absurd h
kept_long (f ∷ fs) [] h = absurd h
kept_long (f ∷ fs) (s ∷ ss) h = ap suc (kept_long fs ss h.1)

-- one function more
pub kept_more : (fs : List Function) (ss : List Sense) (f : Function) (s : Sense) → HaveSenses fs ss
    → HasSense f s → HaveSenses (fs ++ f ∷ []) (ss ++ s ∷ [])
kept_more [] [] f s h one = (one, tt)
kept_more [] (t ∷ ss) f s h one = absurd h
kept_more (g ∷ fs) [] f s h one = absurd h
kept_more (g ∷ fs) (t ∷ ss) f s h one = (h.0, kept_more fs ss f s h.1 one)
