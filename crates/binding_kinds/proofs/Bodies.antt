-- What is found of the names of a body is their first fault.
use Rattle.std.proofs.Common.{ℕ, zero, suc, ◌≡◌, List, [], ◌∷◌, map, Bool, true, false, Option, Some, None, Result, Ok, Err, refl, ap, sym, ◌∙◌}
use Rattle.std.specs.Prelude.{slice_get, nat_eq, if◌then◌else◌}
use Rattle.binding_kinds.specs.declared.fault.ModelFault.{ModelFault}
use Rattle.binding_kinds.specs.declared.fault.ModelFault.TheVariants as faults
use Rattle.binding_kinds.specs.declared.scope.Found.{Found}
use Rattle.binding_kinds.specs.declared.scope.Binder.{Binder}
use Rattle.binding_kinds.specs.declared.scope.Binder.TheVariants as binders
use Rattle.binding_kinds.specs.declared.function.Function.{Function}
use Rattle.binding_kinds.specs.Meanings.{meaning_found, meaning_of}
use Rattle.binding_kinds.specs.Applicable.{applied, applied_of}
use Rattle.binding_kinds.specs.Verdict.{of_use}
use Rattle.binding_kinds.specs.Senses.{Sense, HaveSenses, with_arity, sense_of}
use Rattle.binding_kinds.specs.First.{fault_inside, apply_fault}

abbrev pub fault_of : {A : Type 0} → Result A ModelFault → Option ModelFault
fault_of (Ok x) = None
fault_of (Err k) = Some k

-- a name without arguments
pub inside_fault : (p : Option ℕ) (o : Option Found) → fault_inside p o ≡ fault_of (meaning_of p o)
inside_fault (Some i) o = refl
inside_fault None None = refl
inside_fault None (Some f) = at_binder f.binder
  where
    at_binder : (b : Binder) → of_use b 0 false f.slot ≡ fault_of (meaning_found f b)
    at_binder (binders.Predefined q) = refl
    at_binder (binders.Bound i) = refl
    at_binder (binders.Applicable g) = refl

abbrev arity_of : Option Sense → Option ℕ
arity_of None = None
arity_of (Some s) = Some s.arity

arities : (fs : List Function) (ss : List Sense) (i : ℕ) → HaveSenses fs ss
    → slice_get (map (λ (f : Function). f.arity) fs) i ≡ arity_of (slice_get ss i)
arities [] [] i h = refl
arities [] (s ∷ ss) i h = absurd h
arities (f ∷ fs) [] i h = absurd h
arities (f ∷ fs) (s ∷ ss) zero h = ap Some h.0.arity
arities (f ∷ fs) (s ∷ ss) (suc i) h = arities fs ss i h.1

-- a name with arguments
pub applied_fault : (fs : List Function) (ss : List Sense) (n : ℕ) (p : Option ℕ) (o : Option Found)
    → HaveSenses fs ss
    → apply_fault p (sense_of ss n o)
    ≡ fault_of (applied_of (λ (i : ℕ). slice_get (map (λ (f : Function). f.arity) fs) i) n p o)
applied_fault fs ss n (Some q) o h = refl
applied_fault fs ss n None None h = refl
applied_fault fs ss n None (Some f) h = at_binder f.binder
  where
    at_test : (i : ℕ) (s : Sense) (b : Bool)
        → apply_fault None (if b then Ok s else Err faults.Arity)
        ≡ fault_of (if b then Ok i else Err faults.Arity)
    at_test i s true = refl
    at_test i s false = refl

    at_sense : (i : ℕ) (q : Option Sense)
        → apply_fault None (with_arity n q) ≡ fault_of (applied i n (arity_of q))
    at_sense i None = refl
    at_sense i (Some s) = at_test i s (nat_eq s.arity n)

    at_binder : (b : Binder)
        → apply_fault None (sense_of ss n
        (Some (record { slot = f.slot; kind = f.kind; binder = b })))
        ≡ fault_of (applied_of (λ (i : ℕ). slice_get (map (λ (g : Function). g.arity) fs) i) n
        None (Some (record { slot = f.slot; kind = f.kind; binder = b })))
    at_binder (binders.Predefined q) = refl
    at_binder (binders.Bound i) = refl
    at_binder (binders.Applicable i) =
        at_sense i (slice_get ss i)
        ∙ ap (λ (q : Option ℕ). fault_of (applied i n q)) (sym (arities fs ss i h))
