-- What a name with arguments in a body stands for.
use Rattle.std.proofs.Common.{ℕ, ◌≡◌, List, map, reverse, Bool, true, false, Option, Some, None, Result, Ok, Err, refl, sym, ap, subst}
use Rattle.std.specs.Prelude.{nat_eq, slice_get, if◌then◌else◌, option_map}
use Rattle.std.proofs.lemmas.Bool.{eqb-true}
use Rattle.std.proofs.lemmas.Option.{slice_get-map}
use Rattle.text_values.specs.declared.model.Expression.{Expression}
use Rattle.text_values.specs.ModelValues.{term_of}
use Rattle.text_values.specs.ModelValue.{Terms, gathered}
use Rattle.binding_kinds.specs.declared.fault.ModelFault.{ModelFault}
use Rattle.binding_kinds.specs.declared.fault.ModelFault.TheVariants as faults
use Rattle.binding_kinds.specs.declared.function.Function.{Function}
use Rattle.binding_kinds.specs.declared.scope.Found.{Found}
use Rattle.binding_kinds.specs.declared.scope.Binder.{Binder}
use Rattle.binding_kinds.specs.declared.scope.Binder.TheVariants as binders
use Rattle.binding_kinds.specs.Value.{Naming}
use Rattle.binding_kinds.specs.Kinds.{found}
use Rattle.binding_kinds.specs.Meanings.{parameter_of}
use Rattle.binding_kinds.specs.Applicable.{applied, applied_binder, applied_found, applied_of}
use Rattle.binding_kinds.specs.Senses.{Sense, HasSense, HaveSenses, with_arity, sense_of_binder, sense_of}
use Rattle.binding_kinds.specs.Functions.{sense_seen}
use Rattle.binding_kinds.proofs.Applications.{kept_at, kept_none}

abbrev pub terms_in : List Expression → Terms
terms_in xs = gathered (map term_of xs)

-- the function at that index, and what it is
pub record IsApplied (fs : List Function) (ss : List Sense) (f n : ℕ) (o : Option Sense)
    : Type 0 where
  pub one : Function
  pub sense : Sense
  pub there : slice_get fs f ≡ Some one
  pub kept : HasSense one sense
  pub arity : sense.arity ≡ n
  pub sense_is : o ≡ Some sense

-- what is known, by the answer of the look-up
abbrev pub Tells : List Function → List Sense → ℕ → Option Sense → Result ℕ ModelFault → Type 0
Tells fs ss n o (Ok f) = IsApplied fs ss f n o
Tells fs ss n o (Err k) = o ≡ None

abbrev of_result : Result Sense ModelFault → Option Sense
of_result (Ok s) = Some s
of_result (Err k) = None

at_kept : (fs : List Function) (ss : List Sense) (n f : ℕ) (o : Option Function) → HaveSenses fs ss
    → slice_get fs f ≡ o
    → Tells fs ss n (of_result (with_arity n (slice_get ss f)))
    (applied f n (option_map (λ (g : Function). g.arity) o))
at_kept fs ss n f None kept e =
    ap (λ (q : Option Sense). of_result (with_arity n q)) (kept_none fs ss f kept e)
at_kept fs ss n f (Some one) kept e =
    let k = kept_at fs ss f one kept e in
    subst
    (λ (q : Option Sense).
    Tells fs ss n (of_result (with_arity n q)) (applied f n (Some one.arity)))
    (sym k.1)
    (subst (λ (a : ℕ). Tells fs ss n (of_result (with_arity n (Some k.0))) (applied f n (Some a)))
    (sym k.2.arity) (at_test k.0 k.2 (nat_eq k.0.arity n) (λ t. eqb-true k.0.arity n t)))
  where
    at_test : (s : Sense) → HasSense one s → (b : Bool) → (b ≡ true → s.arity ≡ n)
        → Tells fs ss n (of_result (if b then Ok s else Err faults.Arity))
        (if b then Ok f else Err faults.Arity)
    at_test s kept true same =
        record { one = one; sense = s; there = e; kept = kept; arity = same refl; sense_is = refl }
    at_test s kept false same = refl

by_binder : (fs : List Function) (ss : List Sense) (n : ℕ) (b : Binder) → HaveSenses fs ss
    → Tells fs ss n (of_result (sense_of_binder ss n b)) (applied_binder
    (λ i. slice_get (map (λ (g : Function). g.arity) fs) i) n b)
by_binder fs ss n (binders.Predefined p) kept = refl
by_binder fs ss n (binders.Bound i) kept = refl
by_binder fs ss n (binders.Applicable f) kept =
    subst
    (λ (o : Option ℕ).
    Tells fs ss n (of_result (with_arity n (slice_get ss f))) (applied f n o))
    (sym (slice_get-map (λ (g : Function). g.arity) fs f))
    (at_kept fs ss n f (slice_get fs f) kept refl)

by_found : (fs : List Function) (ss : List Sense) (n : ℕ) (o : Option Found) → HaveSenses fs ss
    → Tells fs ss n (of_result (sense_of ss n o)) (applied_found
    (λ i. slice_get (map (λ (g : Function). g.arity) fs) i) n o)
by_found fs ss n None kept = refl
by_found fs ss n (Some g) kept = by_binder fs ss n g.binder kept

-- what a name in a body with so many arguments stands for
pub seen_by : (fs : List Function) (ss : List Sense) (names : List Naming) (ps : List (List ℕ))
    (n : ℕ) (x : List ℕ) (o : Option ℕ) → HaveSenses fs ss → parameter_of (reverse ps) x ≡ o
    → Tells fs ss n (sense_seen ss names ps n x) (applied_of
    (λ i. slice_get (map (λ (g : Function). g.arity) fs) i) n o (found names x))
seen_by fs ss names ps n x (Some p) kept e = rw e refl
seen_by fs ss names ps n x None kept e =
    at_result (sense_of ss n (found names x)) refl (by_found fs ss n (found names x) kept)
  where
    at_result : (r : Result Sense ModelFault) → sense_of ss n (found names x) ≡ r
        → Tells fs ss n (of_result r) (applied_found
        (λ i. slice_get (map (λ (g : Function). g.arity) fs) i) n (found names x))
        → Tells fs ss n (sense_seen ss names ps n x) (applied_found
        (λ i. slice_get (map (λ (g : Function). g.arity) fs) i) n (found names x))
    at_result (Ok s) q h =
        let w : sense_seen ss names ps n x ≡ Some s = rw (e, q) refl in
        subst
        (λ (o : Option Sense). Tells fs ss n o (applied_found
        (λ i. slice_get (map (λ (g : Function). g.arity) fs) i) n (found names x)))
        (sym w) h
    at_result (Err k) q h =
        let w : sense_seen ss names ps n x ≡ None = rw (e, q) refl in
        subst
        (λ (o : Option Sense). Tells fs ss n o (applied_found
        (λ i. slice_get (map (λ (g : Function). g.arity) fs) i) n (found names x)))
        (sym w) h

pub told_by : (fs : List Function) (ss : List Sense) (names : List Naming) (ps : List (List ℕ))
    (n : ℕ) (x : List ℕ) (r : Result ℕ ModelFault) → HaveSenses fs ss
    → r
    ≡ applied_of (λ i. slice_get (map (λ (g : Function). g.arity) fs) i) n
    (parameter_of (reverse ps) x) (found names x)
    → Tells fs ss n (sense_seen ss names ps n x) r
told_by fs ss names ps n x r kept e =
    subst (λ (q : Result ℕ ModelFault). Tells fs ss n (sense_seen ss names ps n x) q) (sym e)
    (seen_by fs ss names ps n x (parameter_of (reverse ps) x) kept refl)
