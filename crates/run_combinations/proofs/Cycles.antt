-- Finite relations without a cycle.
use Rattle.std.proofs.Common.{ℕ, zero, suc, ◌≡◌, ◌<◌, ◌⊎◌, inl, inr, List, [], ◌∷◌, ◌++◌, arith, sym, subst, refl}
use Rattle.std.proofs.lemmas.Bool.{cases_eq}
use Rattle.bit_rows.specs.Pairs.{Path, Plus, IsAcyclic}

Path-append : (R : ℕ → ℕ → Type 0) (a : ℕ) (xs : List ℕ) (c : ℕ) (ys : List ℕ) (b : ℕ)
    → Path R a xs c → Path R c ys b → Path R a (xs ++ c ∷ ys) b
Path-append R a [] c ys b p q = (p, q)
Path-append R a (x ∷ xs) c ys b p q = (p.0, Path-append R x xs c ys b p.1 q)

joined : (R : ℕ → ℕ → Type 0) (a c b : ℕ) → Plus R a c → Plus R c b → Plus R a b
joined R a c b p q = (p.0 ++ c ∷ q.0, Path-append R a p.0 c q.0 b p.1 q.1)

-- the last step of a path
last_step : (R : ℕ → ℕ → Type 0) (a : ℕ) (xs : List ℕ) (b : ℕ) → Path R a xs b
    → (c : ℕ) × R c b × ((a ≡ c) ⊎ Plus R a c)
last_step R a [] b p = (a, p, inl refl)
last_step R a (x ∷ xs) b p =
    let e : (c : ℕ) × R c b × ((x ≡ c) ⊎ Plus R x c) = last_step R x xs b p.1 in (
      e.0,
      e.1,
      inr (elim e.2 [
        | inl same ↦ ([], subst (λ (y : ℕ). R a y) same p.0)
        | inr more ↦ (x ∷ more.0, (p.0, more.1))
      ]),
    )

-- a cycle, begun one step earlier
pub turned_back : (R : ℕ → ℕ → Type 0) (a : ℕ) → Plus R a a → (c : ℕ) × R c a × Plus R c c
turned_back R a p =
    let e : (c : ℕ) × R c a × ((a ≡ c) ⊎ Plus R a c) = last_step R a p.0 a p.1 in (
      e.0,
      e.1,
      elim e.2 [
        | inl same ↦ ([], subst (λ (y : ℕ). R e.0 y) same e.1)
        | inr more ↦ (a ∷ more.0, (e.1, more.1))
      ],
    )

-- what no step of a bound fails fails nowhere
pub none_fails : (n : ℕ) (P : ℕ → Type 0) → ((a : ℕ) → a < n → (P a → ⊥) → ⊥)
    → (((a : ℕ) → a < n → P a) → ⊥) → ⊥
none_fails zero P each fails = fails (λ a lt. absurd (omega (arith, lt)))
none_fails (suc n) P each fails =
    none_fails n P (λ a lt. each a (omega (arith, lt))) (λ below. each n (omega arith) (λ here.
    fails (λ a lt. elim (cases_eq a n) [
      | inl same ↦ subst P (sym same) here
      | inr other ↦ below a (omega (arith, lt, other))
    ])))

-- the steps, and those that lead past one number
abbrev Past : ℕ → (ℕ → ℕ → Type 0) → ℕ → ℕ → Type 0
Past n R a b = R a b ⊎ (R a n × R n b)

past_one : (n : ℕ) (R : ℕ → ℕ → Type 0) (a b : ℕ) → Past n R a b → Plus R a b
past_one n R a b (inl r) = ([], r)
past_one n R a b (inr r) = (n ∷ [], r)

past_all : (n : ℕ) (R : ℕ → ℕ → Type 0) (a : ℕ) (xs : List ℕ) (b : ℕ) → Path (Past n R) a xs b
    → Plus R a b
past_all n R a [] b p = past_one n R a b p
past_all n R a (x ∷ xs) b p = joined R a x b (past_one n R a x p.0) (past_all n R x xs b p.1)

-- where no step leads round, numbers below a bound of which each has one before it are none
pub none_first : (n : ℕ) (R : ℕ → ℕ → Type 0) (U : ℕ → Type 0) → IsAcyclic R
    → ((x : ℕ) → U x → x < n) → ((x : ℕ) → U x → ((y : ℕ) → U y → R y x → ⊥) → ⊥) → (x : ℕ) → U x
    → ⊥
none_first zero R U acyclic within before x u = absurd (omega (arith, within x u))
none_first (suc n) R U acyclic within before x u =
    split (none_first n (Past n R) Rest (λ a p. acyclic a (past_all n R a p.0 a p.1))
    (λ y v. omega (arith, within y v.0, v.1)) step_before)
  where
    Rest : ℕ → Type 0
    Rest y = U y × (y ≡ n → ⊥)

    step_before : (y : ℕ) → Rest y → ((z : ℕ) → Rest z → Past n R z y → ⊥) → ⊥
    step_before y v never = before y v.0 (λ z uz step. elim (cases_eq z n) [
      | inl same ↦ before n (subst U same uz) (λ w uw first. elim (cases_eq w n) [
        | inl round ↦ acyclic n ([], subst (λ (k : ℕ). R k n) round first)
        | inr other ↦ never w (uw, other) (inr (first, subst (λ (k : ℕ). R k y) same step))
      ])
      | inr other ↦ never z (uz, other) (inl step)
    ])

    split : ((y : ℕ) → Rest y → ⊥) → ⊥
    split fewer = elim (cases_eq x n) [
      | inl same ↦ before n (subst U same u) (λ z uz step. elim (cases_eq z n) [
        | inl round ↦ acyclic n ([], subst (λ (y : ℕ). R y n) round step)
        | inr other ↦ fewer z (uz, other)
      ])
      | inr other ↦ fewer x (u, other)
    ]
