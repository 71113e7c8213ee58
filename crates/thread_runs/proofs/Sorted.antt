-- A value at its index among others.
use Rattle.std.proofs.Common.{ℕ, ◌≡◌, inl, inr, true, false, List, sym, ap, subst, ◌∙◌, arith}
use Rattle.std.specs.List.{insert}
use Rattle.thread_runs.specs.declared.value.Value.{Value}
use Rattle.thread_runs.specs.declared.value.Value.TheVariants.{Number, Address, NoValue}
use Rattle.thread_runs.specs.Machine.{is_value}
use Rattle.thread_runs.specs.Runs.{IsLess}
use Rattle.thread_runs.specs.ValueSet.{IsProperValue, IsValueSet, IsValueAdded, IsInsertionIndex}
use Rattle.thread_runs.proofs.Pairs.{inserted_rises, inserted_all, contains_inserted}

pub less_less : (u v w : Value) → IsLess u v → IsLess v w → IsLess u w
less_less (Number k) (Number m) (Number n) p q = omega (arith, p, q)
less_less (Number k) (Number m) (Address l) p q = record {}
less_less (Number k) (Address j) (Address l) p q = record {}
less_less (Address i) (Address j) (Address l) p q = omega (arith, p, q)
less_less (Number k) (Number m) NoValue p q = absurd q
less_less (Number k) (Address j) (Number n) p q = absurd q
less_less (Number k) (Address j) NoValue p q = absurd q
less_less (Number k) NoValue w p q = absurd p
less_less (Address i) (Number m) w p q = absurd p
less_less (Address i) (Address j) (Number n) p q = absurd q
less_less (Address i) (Address j) NoValue p q = absurd q
less_less (Address i) NoValue w p q = absurd p
less_less NoValue v w p q = absurd p

one_is : (v : Value) → is_value v ≡ true → IsProperValue v
one_is v e n =
    let f : is_value v ≡ false = ap is_value n in let t : true ≡ false = sym e ∙ f in absurd cc

pub inserted_set : (vs us ws : List Value) (i : ℕ) (v : Value) → IsValueSet vs → is_value v ≡ true
    → us ≡ vs → IsInsertionIndex v us i → ws ≡ insert vs i v → IsValueSet ws
inserted_set vs us ws i v s one e p new =
    let q = subst (λ (xs : List Value). IsInsertionIndex v xs i) e p in
    subst (λ (xs : List Value). IsValueSet xs) (sym new) (record {
      rising = inserted_rises IsLess less_less vs i v v q.within s.rising q.before q.behind;
      proper = inserted_all IsProperValue vs i v s.proper (one_is v one);
    })

pub inserted_is : (vs ws : List Value) (i : ℕ) (v : Value) → is_value v ≡ true → ws ≡ insert vs i v
    → IsValueAdded v vs ws
inserted_is vs ws i v one new = subst (λ (xs : List Value). IsValueAdded v vs xs) (sym new) (λ u.
    let h = contains_inserted vs i v u in (
      (λ w. elim (h.0 w) [ inl old ↦ inl old | inr e ↦ inr (e, one_is v one) ]),
      (λ w. elim w [ inl old ↦ h.1 (inl old) | inr e ↦ h.1 (inr e.0) ]),
    ))
