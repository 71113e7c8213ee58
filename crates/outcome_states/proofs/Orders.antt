-- The orders that are derived are those of the definitions.
use Rattle.std.proofs.Common.{ℕ, List, [], ◌∷◌, Bool, true, false, ◌&&◌, eqb, ◌≡◌, refl, sym, ap, ◌∙◌, subst, arith}
use mathlib.Core.Path.{fun_ext}
use Rattle.std.specs.Cmp.{IsTotalOrder}
use Rattle.std.specs.declared.cmp.Ordering.{Ordering}
use Rattle.std.proofs.lemmas.Cmp.{lists_total, tied_itself}
use Rattle.std.proofs.lemmas.Bool.{false≢true, and_parts}
use Rattle.std.proofs.lemmas.Bool.Decides.{Decides-eqb, Decides-int_eq, nat_tests}
use Rattle.std.specs.Bool.{Decides}
use Rattle.std.specs.Ordering.{is_eq, ordering_then, nat_cmp}
use Rattle.std.specs.declared.cmp.Ordering.TheVariants.{Less, Equal, Greater}
use Rattle.std.proofs.lemmas.Map.Lookups.{exact_signed, exact_unsigned}
use Rattle.outcome_states.specs.Order.{observable_cmp, value_cmp, state_cmp, is_observable, is_state}
use Rattle.outcome_states.specs.contracts.observable.ObservablePartialEq.TheImpl as observable_eq
use Rattle.outcome_states.specs.contracts.answer.FinalValuePartialEq.TheImpl as value_eq
use Rattle.outcome_states.specs.declared.answer.FinalValue.{FinalValue}
use Rattle.outcome_states.specs.declared.answer.FinalValue.TheVariants.{Number, Address, NoValue}
use Rattle.outcome_states.specs.declared.observable.Observable.{Observable}
use Rattle.outcome_states.specs.declared.observable.Observable.TheVariants.{Register, Location}
use Rattle.outcome_states.specs.contracts.observable.ObservableOrd.TheImpl as observable_ord
use Rattle.outcome_states.specs.contracts.answer.FinalValueOrd.TheImpl as value_ord
use Rattle.outcome_states.specs.contracts.observable.ObservableOrd.TheImpl.Laws as observable_laws
use Rattle.outcome_states.specs.contracts.answer.FinalValueOrd.TheImpl.Laws as value_laws

pub observable_order : (p q : Observable) → (observable_ord.ghosts).cmp p q ≡ observable_cmp p q
observable_order (Register t r) (Register u s) = refl
observable_order (Register t r) (Location l) = refl
observable_order (Location k) (Register u s) = refl
observable_order (Location k) (Location l) = refl

pub value_order : (v w : FinalValue) → (value_ord.ghosts).cmp v w ≡ value_cmp v w
value_order (Number m) (Number n) = refl
value_order (Number m) (Address l) = refl
value_order (Number m) NoValue = refl
value_order (Address k) (Number n) = refl
value_order (Address k) (Address l) = refl
value_order (Address k) NoValue = refl
value_order NoValue (Number n) = refl
value_order NoValue (Address l) = refl
value_order NoValue NoValue = refl

pub observable_orders : (observable_ord.ghosts).cmp ≡ observable_cmp
observable_orders = fun_ext (λ p. fun_ext (λ q. observable_order p q))

pub value_orders : (value_ord.ghosts).cmp ≡ value_cmp
value_orders = fun_ext (λ v. fun_ext (λ w. value_order v w))

pub observable_total : IsTotalOrder observable_cmp
observable_total =
    subst (λ (R : Observable → Observable → Ordering). IsTotalOrder R) observable_orders
    observable_laws.total-law

pub value_total : IsTotalOrder value_cmp
value_total =
    subst (λ (R : FinalValue → FinalValue → Ordering). IsTotalOrder R) value_orders
    value_laws.total-law

pub state_total : IsTotalOrder state_cmp
state_total = lists_total value_total

is_eq_then : (o r : Ordering) → is_eq (ordering_then o r) ≡ (is_eq o && is_eq r)
is_eq_then Less r = refl
is_eq_then Equal r = refl
is_eq_then Greater r = refl

eq_from_cmp : (m n : ℕ) → eqb m n ≡ is_eq (nat_cmp m n)
eq_from_cmp m n = grind (arith, nat_tests)

-- `==` is what the order calls equal
pub observable_eq_is : (p q : Observable) → (observable_eq.ghosts).eq p q ≡ is_observable p q
observable_eq_is (Register t r) (Register u s) =
    ap (λ (b : Bool). b && eqb r s) (eq_from_cmp t u)
    ∙ ap (λ (b : Bool). is_eq (nat_cmp t u) && b) (eq_from_cmp r s)
    ∙ sym (is_eq_then (nat_cmp t u) (nat_cmp r s))
observable_eq_is (Register t r) (Location l) = refl
observable_eq_is (Location k) (Register u s) = refl
observable_eq_is (Location k) (Location l) = eq_from_cmp k l

value_exact : (v w : FinalValue) → value_cmp v w ≡ Equal → v ≡ w
value_exact (Number m) (Number n) h = ap Number (exact_signed m n h)
value_exact (Number m) (Address l) h = cc
value_exact (Number m) NoValue h = cc
value_exact (Address k) (Number n) h = cc
value_exact (Address k) (Address l) h = ap Address (exact_unsigned k l h)
value_exact (Address k) NoValue h = cc
value_exact NoValue (Number n) h = cc
value_exact NoValue (Address l) h = cc
value_exact NoValue NoValue h = refl

both_equal : (o r : Ordering) → is_eq (ordering_then o r) ≡ true → (o ≡ Equal) × (is_eq r ≡ true)
both_equal Less r h = absurd (false≢true h)
both_equal Equal r h = (refl, h)
both_equal Greater r h = absurd (false≢true h)

-- states that the order calls equal are the same
pub is_state_same : (v w : List FinalValue) → is_state v w ≡ true → v ≡ w
is_state_same [] [] h = refl
is_state_same [] (y ∷ ys) h = absurd (false≢true h)
is_state_same (x ∷ xs) [] h = absurd (false≢true h)
is_state_same (x ∷ xs) (y ∷ ys) h =
    let e = both_equal (value_cmp x y) (state_cmp xs ys) h in
    ap (λ (z : FinalValue). z ∷ xs) (value_exact x y e.0)
    ∙ ap (λ (zs : List FinalValue). y ∷ zs) (is_state_same xs ys e.1)

pub is_observable_same : (p q : Observable) → is_observable p q ≡ true → p ≡ q
is_observable_same (Register t r) (Register u s) h =
    let e = and_parts (eqb t u) (eqb r s) (observable_eq_is (Register t r) (Register u s) ∙ h) in
    ap (λ (x : ℕ). Register x r) ((Decides-eqb t u).0 e.0)
    ∙ ap (λ (x : ℕ). Register u x) ((Decides-eqb r s).0 e.1)
is_observable_same (Register t r) (Location l) h = absurd (false≢true h)
is_observable_same (Location k) (Register u s) h = absurd (false≢true h)
is_observable_same (Location k) (Location l) h = ap Location ((Decides-eqb k l).0 (eq_from_cmp k l ∙ h))

pub is_observable_itself : (p : Observable) → is_observable p p ≡ true
is_observable_itself p = ap is_eq (tied_itself observable_total p)

-- `==` of two values says that they are the same
pub value_eq-Decides : (v w : FinalValue) → Decides ((value_eq.ghosts).eq v w) (v ≡ w)
value_eq-Decides (Number m) (Number n) =
    ((λ h. ap Number ((Decides-int_eq m n).0 h)), (λ e. (Decides-int_eq m n).1 (cc)))
value_eq-Decides (Number m) (Address l) = ((λ h. absurd (false≢true h)), (λ e. cc))
value_eq-Decides (Number m) NoValue = ((λ h. absurd (false≢true h)), (λ e. cc))
value_eq-Decides (Address k) (Number n) = ((λ h. absurd (false≢true h)), (λ e. cc))
value_eq-Decides (Address k) (Address l) =
    ((λ h. ap Address ((Decides-eqb k l).0 h)), (λ e. (Decides-eqb k l).1 (cc)))
value_eq-Decides (Address k) NoValue = ((λ h. absurd (false≢true h)), (λ e. cc))
value_eq-Decides NoValue (Number n) = ((λ h. absurd (false≢true h)), (λ e. cc))
value_eq-Decides NoValue (Address l) = ((λ h. absurd (false≢true h)), (λ e. cc))
value_eq-Decides NoValue NoValue = ((λ h. refl), (λ e. refl))
