-- Paths whose events in between lie below a bound.
use Rattle.std.proofs.Common.{ℕ, ◌≡◌, ◌<◌, ◌+◌, ◌↔◌, ◌⊎◌, List, [], ◌∷◌, ◌++◌, inl, inr, arith, subst}
use Rattle.std.proofs.lemmas.Bool.{cases_eq}
use Rattle.bit_rows.specs.Pairs.{Path, Plus, AllBelow, PlusBelow}

-- two paths make one
pub Path-append : (R : ℕ → ℕ → Type 0) (a : ℕ) (xs : List ℕ) (c : ℕ) (ys : List ℕ) (b : ℕ)
    → Path R a xs c → Path R c ys b → Path R a (xs ++ c ∷ ys) b
Path-append R a [] c ys b p q = (p, q)
Path-append R a (x ∷ xs) c ys b p q = (p.0, Path-append R x xs c ys b p.1 q)

AllBelow-append : (k : ℕ) (xs : List ℕ) (c : ℕ) (ys : List ℕ) → AllBelow k xs → c < k
    → AllBelow k ys → AllBelow k (xs ++ c ∷ ys)
AllBelow-append k [] c ys p lt q = (lt, q)
AllBelow-append k (x ∷ xs) c ys p lt q = (p.0, AllBelow-append k xs c ys p.1 lt q)

AllBelow-wider : (k : ℕ) (xs : List ℕ) → AllBelow k xs → AllBelow (k + 1) xs
AllBelow-wider k [] p = tt
AllBelow-wider k (x ∷ xs) p = (omega (arith, p.0), AllBelow-wider k xs p.1)

step : (R : ℕ → ℕ → Type 0) (a b : ℕ) (k : ℕ) → R a b → PlusBelow R k a b
step R a b k r = record { through = []; below = tt; path = r }

before : (R : ℕ → ℕ → Type 0) (k a c b : ℕ) → R a c → c < k → PlusBelow R k c b → PlusBelow R k a b
before R k a c b r lt p =
    record { through = c ∷ p.through; below = (lt, p.below); path = (r, p.path) }

-- a path below k + 1 avoids k, or is a path to k and one from k
split : (R : ℕ → ℕ → Type 0) (k a : ℕ) (xs : List ℕ) (b : ℕ) → AllBelow (k + 1) xs → Path R a xs b
    → PlusBelow R k a b ⊎ (PlusBelow R k a k × PlusBelow R k k b)
split R k a [] b below r = inl (step R a b k r)
split R k a (c ∷ cs) b below path = go (cases_eq c k) (split R k c cs b below.1 path.1)
  where
    go : (c ≡ k) ⊎ (c ≡ k → ⊥) → PlusBelow R k c b ⊎ (PlusBelow R k c k × PlusBelow R k k b)
        → PlusBelow R k a b ⊎ (PlusBelow R k a k × PlusBelow R k k b)
    go (inl same) (inl p) =
        inr (
          step R a k k (subst (λ (y : ℕ). R a y) same path.0),
          subst (λ (y : ℕ). PlusBelow R k y b) same p,
        )
    go (inl same) (inr p) = inr (step R a k k (subst (λ (y : ℕ). R a y) same path.0), p.1)
    go (inr other) (inl p) = inl (before R k a c b path.0 (lower below.0) p)
      where
        lower : c < k + 1 → c < k
        lower lt = omega arith
    go (inr other) (inr p) = inr (before R k a c k path.0 (lower below.0) p.0, p.1)
      where
        lower : c < k + 1 → c < k
        lower lt = omega arith

pub PlusBelow-suc : (R : ℕ → ℕ → Type 0) (k a b : ℕ)
    → PlusBelow R (k + 1) a b ↔ (PlusBelow R k a b ⊎ (PlusBelow R k a k × PlusBelow R k k b))
PlusBelow-suc R k a b = ((λ p. split R k a p.through b p.below p.path), join)
  where
    join : PlusBelow R k a b ⊎ (PlusBelow R k a k × PlusBelow R k k b) → PlusBelow R (k + 1) a b
    join (inl p) =
        record { through = p.through; below = AllBelow-wider k p.through p.below; path = p.path }
    join (inr (p, q)) = record {
      through = p.through ++ k ∷ q.through;
      below =
          AllBelow-append (k + 1) p.through k q.through (AllBelow-wider k p.through p.below)
          (omega arith) (AllBelow-wider k q.through q.below);
      path = Path-append R a p.through k q.through b p.path q.path;
    }

pub PlusBelow-zero : (R : ℕ → ℕ → Type 0) (a b : ℕ) → R a b ↔ PlusBelow R 0 a b
PlusBelow-zero R a b = (step R a b 0, (λ p. none p.through p.below p.path))
  where
    none : (xs : List ℕ) → AllBelow 0 xs → Path R a xs b → R a b
    none [] below r = r
    none (x ∷ xs) below r = absurd (omega (arith, below.0))

-- where no pair leads to an event from n on, every path is below n
pub PlusBelow-all : (R : ℕ → ℕ → Type 0) (n a b : ℕ) → ((x y : ℕ) → R x y → (x < n) × (y < n))
    → PlusBelow R n a b ↔ Plus R a b
PlusBelow-all R n a b within = (
  (λ p. (p.through, p.path)),
  (λ p. record { through = p.0; below = inside a p.0 p.1; path = p.1 }),
)
  where
    inside : (x : ℕ) (xs : List ℕ) → Path R x xs b → AllBelow n xs
    inside x [] r = tt
    inside x (c ∷ cs) r = ((within x c r.0).1, inside c cs r.1)

-- where a path begins
pub PlusBelow-start : (R : ℕ → ℕ → Type 0) (n k a b : ℕ) → ((x y : ℕ) → R x y → (x < n) × (y < n))
    → PlusBelow R k a b → a < n
PlusBelow-start R n k a b within p = start p.through p.path
  where
    start : (xs : List ℕ) → Path R a xs b → a < n
    start [] r = (within a b r).0
    start (c ∷ cs) r = (within a c r.0).0
