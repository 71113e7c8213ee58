-- What can be told of facts, of elements of lists and of numbers below an end.
use Rattle.std.proofs.Common.{ℕ, ◌≡◌, ◌<◌, ◌↔◌, ◌⊎◌, ◌∙◌, zero, suc, inl, inr, List, length, get_or, Option, Some, None, refl, sym, ap, subst, arith}
use Rattle.std.specs.Prelude.{Contains}
use Rattle.std.proofs.lemmas.Bool.{cases_lt, cases_eq}
use Rattle.std.proofs.lemmas.Option.{same_Some}
use Rattle.whole_outcomes.specs.NameLaws.{Told}

pub told_both : (P Q : Type 0) → Told P → Told Q → Told (P × Q)
told_both P Q (inl p) (inl q) = inl (p, q)
told_both P Q (inl p) (inr never) = inr (λ h. never h.1)
told_both P Q (inr never) q = inr (λ h. never h.0)

pub told_either : (P Q : Type 0) → Told P → Told Q → Told (P ⊎ Q)
told_either P Q (inl p) q = inl (inl p)
told_either P Q (inr never) (inl q) = inl (inr q)
told_either P Q (inr never) (inr nor) = inr (λ h. elim h [ inl p ↦ never p | inr q ↦ nor q ])

pub told_not : (P : Type 0) → Told P → Told (P → ⊥)
told_not P (inl p) = inr (λ never. never p)
told_not P (inr never) = inl never

pub told_same : (P Q : Type 0) → P ↔ Q → Told P → Told Q
told_same P Q same (inl p) = inl (same.0 p)
told_same P Q same (inr never) = inr (λ q. never (same.1 q))

pub told_less : (a n : ℕ) → Told (a < n)
told_less a n = elim (cases_lt a n) [ inl lt ↦ inl lt | inr ge ↦ inr (λ lt. omega arith) ]

-- one of the first numbers
abbrev pub Below : (ℕ → Type 0) → ℕ → Type 0
Below P n = (a : ℕ) × (a < n) × P a

pub told_below : (P : ℕ → Type 0) → ((a : ℕ) → Told (P a)) → (n : ℕ) → Told (Below P n)
told_below P told zero = inr (λ h. omega (arith, h.1))
told_below P told (suc n) = elim (told n) [
  | inl p ↦ inl (n, omega arith, p)
  | inr never ↦ elim (told_below P told n) [
    | inl h ↦ inl (h.0, omega (arith, h.1), h.2)
    | inr none ↦ inr (λ h. elim (cases_lt h.0 n) [
      | inl lt ↦ none (h.0, lt, h.2)
      | inr ge ↦ let same : h.0 ≡ n = omega (arith, h.1) in never (subst P same h.2)
    ])
  ]
]

-- ---- options

pub none_or : {X : Type 0} (x : X) → None ≡ Some x → ⊥
none_or x e = absurd (let f : None ≡ Some x = e in cc)

-- an option of a number is that number
pub told_some : (o : Option ℕ) (a : ℕ) → Told (o ≡ Some a)
told_some None a = inr (λ e. none_or a e)
told_some (Some x) a = elim (cases_eq x a) [
  | inl same ↦ inl (ap (λ (y : ℕ). Some y) same)
  | inr other ↦ inr (λ e. other (same_Some x a e))
]

pub told_none : (o : Option ℕ) → Told (o ≡ None)
told_none None = inl refl
told_none (Some x) = inr (λ e. none_or x (sym e))

-- two options have one number
pub told_common : (o p : Option ℕ) → Told ((t : ℕ) × (o ≡ Some t) × (p ≡ Some t))
told_common None p = inr (λ h. none_or h.0 h.1)
told_common (Some x) p = elim (told_some p x) [
  | inl same ↦ inl (x, refl, same)
  | inr other ↦ inr (λ h. other (h.2 ∙ sym h.1))
]

-- ---- elements of lists

-- the element at an index
pub told_at : {X : Type 0} (P : X → Type 0) → ((x : X) → Told (P x)) → (o : Option X)
    → Told ((x : X) × (o ≡ Some x) × P x)
told_at P told None = inr (λ h. none_or h.0 h.1)
told_at {X} P told (Some x) = elim (told x) [
  | inl p ↦ inl (x, refl, p)
  | inr never ↦ inr (λ h. never (subst P (sym (same_Some x h.0 h.1)) h.2))
]

-- two elements
pub told_two : {X : Type 0} (P : X → X → Type 0) → ((x y : X) → Told (P x y)) → (o p : Option X)
    → Told ((x : X) × (y : X) × (o ≡ Some x) × (p ≡ Some y) × P x y)
told_two P told None p = inr (λ h. none_or h.0 h.2)
told_two P told (Some x) None = inr (λ h. none_or h.1 h.3)
told_two {X} P told (Some x) (Some y) = elim (told x y) [
  | inl q ↦ inl (x, y, refl, refl, q)
  | inr never ↦ inr (λ h.
      never (subst (λ (z : X). P z y) (sym (same_Some x h.0 h.2))
      (subst (P h.0) (sym (same_Some y h.1 h.3)) h.4)))
]

-- a pair stands in a list
pub told_listed : (pairs : List (ℕ × ℕ)) (a b : ℕ) → Told (Contains pairs (a, b))
told_listed pairs a b =
    told_same (Below (λ k. get_or pairs k (a, b) ≡ (a, b)) (length pairs)) (Contains pairs (a, b))
    ((λ h. (h.0, h.1, h.2)), (λ h. (h.0, h.1, h.2)))
    (told_below (λ k. get_or pairs k (a, b) ≡ (a, b)) (λ k. told_pair (get_or pairs k (a, b))) (length pairs))
  where
    told_pair : (p : ℕ × ℕ) → Told (p ≡ (a, b))
    told_pair p =
        told_same ((p.0 ≡ a) × (p.1 ≡ b)) (p ≡ (a, b))
        ((λ h. λ i. (h.0 i, h.1 i)), (λ e. (ap (λ (q : ℕ × ℕ). q.0) e, ap (λ (q : ℕ × ℕ). q.1) e)))
        (told_both (p.0 ≡ a) (p.1 ≡ b) (cases_eq p.0 a) (cases_eq p.1 b))
