-- Each execution ends in a state of words, and its state decides whether it satisfies the condition.
use Rattle.std.proofs.Common.{◌≡◌, ◌↔◌, inl, inr, ℕ, zero, suc, ◌<◌, List, [], ◌∷◌, length, get_or, Contains, refl, sym, ap, subst, arith}
use Rattle.std.specs.List.{AllZip}
use Rattle.std.proofs.lemmas.List.Elements.{Contains-append_left, Contains-append_right}
use Rattle.text_values.specs.declared.test.Place.{Place}
use Rattle.text_values.specs.declared.test.Place.TheVariants.{Location, Register}
use Rattle.text_values.specs.declared.test.Connective.TheVariants.{And, Or, Implies}
use Rattle.text_values.specs.TestValue.{Content, Formula, Constant, Holds, Not, Join}
use Rattle.meaning.specs.Machine.{Value, NoValue, value_of}
use Rattle.meaning.specs.Executions.{Execution, IsExecution}
use Rattle.meaning.specs.Outcome.{EndsWith, EndsIn, observables, observables_of, final_register, Satisfies}
use Rattle.meaning.proofs.Counting.{here, behind}
use Rattle.meaning.proofs.Finals.{ends_in_one}
use Rattle.meaning_laws.specs.Words.{IsWord, IsTestOfWords}
use Rattle.meaning_laws.proofs.Ending.{all_words, all_hold}
use Rattle.meanings_exist.proofs.Decisions.{Decided, decided_as, not_decided, both_decided, either_decided, implied_decided, test_decided, same_value, same_list, same_head}
use Rattle.meanings_exist.specs.Sorted.{IsGood}
use Rattle.meanings_exist.proofs.Observing.{named_is_observed, observed_is_location}

-- ---- the state at the end

listed_ends : {X Y : Type 0} (R : X → Y → Type 0) (xs : List X)
    → ((x : X) → Contains xs x → (y : Y) × R x y) → (ys : List Y) × AllZip R xs ys
listed_ends R [] each = ([], tt)
listed_ends R (x ∷ xs) each =
    let first : _ = each x (here x xs) in
    let rest : _ = listed_ends R xs (λ z there. each z (behind x xs z there)) in
    (first.0 ∷ rest.0, (first.1, rest.1))

good_zip : {X : Type 0} (R : X → Value → Type 0) → ((x : X) (v : Value) → R x v → IsWord v)
    → (xs : List X) (vs : List Value) → AllZip R xs vs → IsGood (length xs) vs
good_zip R words [] [] all = record { words = tt; count = refl }
good_zip R words [] (v ∷ vs) all = absurd all
good_zip R words (x ∷ xs) [] all = absurd all
good_zip R words (x ∷ xs) (v ∷ vs) all =
    let rest : _ = good_zip R words xs vs all.1 in
    record { words = (words x v all.0, rest.words); count = ap suc rest.count }

module _ (t : Content) (x : Execution) (is : IsExecution t x) where
  pub observable_ends : (p : Place) → Contains (observables t) p → (v : Value) × EndsWith t x p v
  observable_ends (Register thread r) there = (final_register x thread r, refl)
  observable_ends (Location l) there = all_hold t x is l (observed_is_location t l there)

  -- an execution ends in some state
  pub ends : (s : List Value) × EndsIn t x s
  ends = listed_ends (EndsWith t x) (observables t) observable_ends

  pub ends_or_not : (s : List Value) → Decided (EndsIn t x s)
  ends_or_not s =
      decided_as (λ e. subst (λ (r : List Value). EndsIn t x r) e ends.1)
      (λ h. ends_in_one t x ends.0 s ends.1 h) (same_list same_value ends.0 s)

  -- whose values are words
  pub ends_well : IsTestOfWords t → (s : List Value) → EndsIn t x s
      → IsGood (length (observables t)) s
  ends_well of s h = good_zip (EndsWith t x) (all_words t of x is) (observables t) s h

-- ---- what the state tells

-- an observable with another value, if it may end with it too
told_by : {X : Type 0} (R : X → Value → Type 0) (xs : List X) (vs : List Value) (k : ℕ) (d : X)
    → AllZip R xs vs → k < length xs
    → R (get_or xs k d) (get_or vs k NoValue)
    × ((u : Value) → R (get_or xs k d) u
    → (ws : List Value) × AllZip R xs ws × (vs ≡ ws → get_or vs k NoValue ≡ u))
told_by R [] vs k d all lt = absurd (omega (arith, lt))
told_by R (x ∷ xs) [] k d all lt = absurd all
told_by R (x ∷ xs) (v ∷ vs) zero d all lt =
    (all.0, λ u h. (u ∷ vs, (h, all.1), λ e. same_head v u vs vs e))
told_by R (x ∷ xs) (v ∷ vs) (suc k) d all lt =
    let rest : _ = told_by R xs vs k d all.1 (omega (arith, lt)) in (
      rest.0,
      λ u h.
          let other : _ = rest.1 u h in
          (v ∷ other.0, (all.0, other.1), λ e. other.2 (tail_same v vs other.0 e)),
    )
  where
    tail_same : (w : Value) (us ws : List Value) → w ∷ us ≡ w ∷ ws → us ≡ ws
    tail_same w us ws e = cc

-- what an observable ends with, by the state
told : (t : Content) (x : Execution) (s : List Value) → EndsIn t x s → (p : Place)
    (there : Contains (observables t) p) (v : Value)
    → EndsWith t x p v ↔ (get_or s there.0 NoValue ≡ v)
told t x s h p (k, lt, at) v = (to, back)
  where
    all : EndsWith t x (get_or (observables t) k p) (get_or s k NoValue)
        × ((u : Value) → EndsWith t x (get_or (observables t) k p) u
        → (ws : List Value) × EndsIn t x ws × (s ≡ ws → get_or s k NoValue ≡ u))
    all = told_by (EndsWith t x) (observables t) s k p h lt

    to : EndsWith t x p v → get_or s k NoValue ≡ v
    to ends =
        let other : _ = all.1 v (subst (λ (q : Place). EndsWith t x q v) (sym at) ends) in
        other.2 (ends_in_one t x s other.0 h other.1)

    back : get_or s k NoValue ≡ v → EndsWith t x p v
    back e =
        subst (λ (q : Place). EndsWith t x q v) at
        (subst (λ (u : Value). EndsWith t x (get_or (observables t) k p) u) e all.0)

-- so two executions that end in one state satisfy the same
formula_alike : (t : Content) (x y : Execution) (s : List Value) → EndsIn t x s → EndsIn t y s
    → (f : Formula)
    → ((p : Place) → Contains (observables_of f) p → Contains (observables t) p)
    → Satisfies t x f ↔ Satisfies t y f
formula_alike t x y s h g (Constant b) inside = ((λ e. e), λ e. e)
formula_alike t x y s h g (Holds p v) inside =
    let there : Contains (observables t) p = inside p (here p []) in
    let first : _ = told t x s h p there (value_of v) in
    let second : _ = told t y s g p there (value_of v) in
    ((λ e. second.1 (first.0 e)), λ e. first.1 (second.0 e))
formula_alike t x y s h g (Not a) inside =
    let rest : _ = formula_alike t x y s h g a inside in
    ((λ not e. not (rest.1 e)), λ not e. not (rest.0 e))
formula_alike t x y s h g (Join op a b) inside =
    joined op
    (formula_alike t x y s h g a
    (λ p there. inside p (Contains-append_left (observables_of a) (observables_of b) p there)))
    (formula_alike t x y s h g b
    (λ p there. inside p (Contains-append_right (observables_of a) (observables_of b) p there)))
  where
    joined : (o : _) → Satisfies t x a ↔ Satisfies t y a → Satisfies t x b ↔ Satisfies t y b
        → Satisfies t x (Join o a b) ↔ Satisfies t y (Join o a b)
    joined And first second =
        ((λ e. (first.0 e.0, second.0 e.1)), λ e. (first.1 e.0, second.1 e.1))
    joined Or first second = (
      (λ e. elim e [ inl l ↦ inl (first.0 l) | inr r ↦ inr (second.0 r) ]),
      λ e. elim e [ inl l ↦ inl (first.1 l) | inr r ↦ inr (second.1 r) ],
    )
    joined Implies first second =
        ((λ f e. second.0 (f (first.1 e))), λ f e. second.1 (f (first.0 e)))

pub satisfied_alike : (t : Content) (x y : Execution) (s : List Value) → EndsIn t x s
    → EndsIn t y s → Satisfies t x t.condition ↔ Satisfies t y t.condition
satisfied_alike t x y s h g =
    formula_alike t x y s h g t.condition (λ p there. named_is_observed t p there)

-- and whether it does is decided
formula_or_not : (t : Content) (x : Execution) (s : List Value) → EndsIn t x s → (f : Formula)
    → ((p : Place) → Contains (observables_of f) p → Contains (observables t) p)
    → Decided (Satisfies t x f)
formula_or_not t x s h (Constant b) inside = test_decided b
formula_or_not t x s h (Holds p v) inside =
    let there : Contains (observables t) p = inside p (here p []) in
    let told_here : _ = told t x s h p there (value_of v) in
    decided_as told_here.1 told_here.0 (same_value (get_or s there.0 NoValue) (value_of v))
formula_or_not t x s h (Not a) inside = not_decided (formula_or_not t x s h a inside)
formula_or_not t x s h (Join op a b) inside =
    joined op
    (formula_or_not t x s h a
    (λ p there. inside p (Contains-append_left (observables_of a) (observables_of b) p there)))
    (formula_or_not t x s h b
    (λ p there. inside p (Contains-append_right (observables_of a) (observables_of b) p there)))
  where
    joined : (o : _) → Decided (Satisfies t x a) → Decided (Satisfies t x b)
        → Decided (Satisfies t x (Join o a b))
    joined And first second = both_decided first second
    joined Or first second = either_decided first second
    joined Implies first second = implied_decided first second

pub satisfied_or_not : (t : Content) (x : Execution) → IsExecution t x
    → Decided (Satisfies t x t.condition)
satisfied_or_not t x is =
    let at : _ = ends t x is in
    formula_or_not t x at.0 at.1 t.condition (λ p there. named_is_observed t p there)
