-- Bits of words, and sets of them.
use Rattle.std.proofs.Common.{ℕ, zero, suc, ◌≡◌, ◌<◌, ◌≤◌, ◌^◌, ◌↔◌, ◌⊎◌, Bool, true, false, nat_eq, List, replicate, get_or, inl, inr, arith, refl, sym, subst, w64}
use Rattle.std.specs.Int.{bit_not}
use Rattle.std.specs.Int.RustNames.{bit_and}
use Rattle.std.proofs.lemmas.Bool.{cases_lt, cases_eq}
use Rattle.bit_rows.specs.Relation.{Bit}
use Rattle.bit_rows.specs.Pairs.{Union}
use Rattle.bit_rows.specs.Rows.{RowsHave, AreRowsFilled}
use Rattle.bit_rows.proofs.Bits.{Bit-zero, Bit-and_not, Bit_cases, Bit-width, same_word}
use Rattle.bit_rows.proofs.Writing.{zeros}
use Rattle.store_orders.proofs.Counting.{eq_true}
use Rattle.run_combinations.specs.Keys.{InFirst, TellsAll}

-- a word has a bit, or none of the first bits
first_bits : (x n : ℕ) → ((b : ℕ) × Bit x b) ⊎ ((b : ℕ) → b < n → Bit x b → ⊥)
first_bits x zero = inr (λ b lt h. absurd (omega (arith, lt)))
first_bits x (suc n) =
    elim (first_bits x n) [
      | inl found ↦ inl found
      | inr none ↦ elim (Bit_cases x n) [
        | inl h ↦ inl (n, h)
        | inr lacks ↦ inr (λ b lt h. elim (cases_eq b n) [
          | inl same ↦ lacks
              (subst (λ (k : ℕ). Bit x k) same h)
          | inr other ↦ none b (below b n lt other)
              h
        ])
      ]
    ]
  where
    below : (b n : ℕ) → b < suc n → (b ≡ n → ⊥) → b < n
    below b n lt ne = omega (arith, lt, ne)

-- a word that is not 0 has a bit
some_bit : (x : ℕ) → ((k : ℕ) → Bit x k → k < 64) → (x ≡ 0 → ⊥) → (b : ℕ) × Bit x b
some_bit x small ne =
    elim (first_bits x 64) [
      | inl found ↦ found
      | inr none ↦ absurd (ne (same_word x 0 (λ k.
          ((λ h. absurd (none k (small k h) h)), (λ h. absurd (Bit-zero k h))))))
    ]

-- the bits of one word that another lacks
clash : {X : Type 0} (b : Bool) → b ≡ true → b ≡ false → X
clash true p q = absurd cc
clash false p q = absurd cc

left_bits : (x y z : ℕ) → x < 2 ^ 64 → ((b : ℕ) → Bit z b ↔ (Bit x b × (Bit y b → ⊥))) → (is : Bool)
    → nat_eq z 0 ≡ is → TellsAll is (Bit x) (Bit y)
left_bits x y z xs left true e =
    λ b h. elim (Bit_cases y b) [
      | inl there ↦ there
      | inr lacks ↦ absurd
          (Bit-zero b (subst (λ (w : ℕ). Bit w b) (eq_true z 0 e) ((left b).1 (h, lacks))))
    ]
left_bits x y z xs left false e =
    let ne : z ≡ 0 → ⊥ = λ q. clash (nat_eq z 0) (subst (λ (w : ℕ). nat_eq w 0 ≡ true) (sym q) refl) e in
    let s : (b : ℕ) × Bit z b = some_bit z (λ k h. Bit-width x k xs ((left k).0 h).0) ne in
    let r : Bit x s.0 × (Bit y s.0 → ⊥) = (left s.0).0 s.1 in
    (s.0, r.0, r.1)

pub tells_all : (x y : ℕ) → x < 2 ^ 64 → y < 2 ^ 64
    → TellsAll (nat_eq (bit_and x (bit_not w64 y)) 0) (Bit x) (Bit y)
tells_all x y xs ys =
    left_bits x y (bit_and x (bit_not w64 y)) xs (λ b. Bit-and_not x y b xs ys)
    (nat_eq (bit_and x (bit_not w64 y)) 0) refl

-- the first words have nothing but what the others have
abbrev pub HasFirst : List ℕ → List ℕ → ℕ → Type 0
HasFirst xs ys n = (a b : ℕ) → a < n → RowsHave xs a b → RowsHave ys a b

pub no_bits : (n a b : ℕ) → RowsHave (replicate n 0) a b → ⊥
no_bits n a b h = Bit-zero b (subst (λ (w : ℕ). Bit w b) (zeros n a) h)

-- all words before the end
pub all_words : (xs ys : List ℕ) (end n : ℕ) → end ≤ n → HasFirst xs ys n → (a b : ℕ)
    → InFirst end xs a b → RowsHave ys a b
all_words xs ys end n far before a b h = before a b (omega (arith, far, h.0)) h.1

pub all_joined : (old new others : List ℕ) (end n : ℕ) → end ≤ n → n ≤ end
    → AreRowsFilled old new n (Union (RowsHave old) (RowsHave others)) → (a b : ℕ)
    → RowsHave new a b ↔ (RowsHave old a b ⊎ InFirst end others a b)
all_joined old new others end n far near written a b =
    elim (cases_lt a n) [
      | inl lt ↦
          let inside : RowsHave new a b ↔ (RowsHave old a b ⊎ RowsHave others a b) = written.inside a lt b in (
            (λ h. elim (inside.0 h) [ inl o ↦ inl o | inr o ↦ inr (omega (arith, lt, near), o) ]),
            (λ h. elim h [ inl o ↦ inside.1 (inl o) | inr o ↦ inside.1 (inr o.1) ]),
          )
      | inr ge ↦
          let same : get_or new a 0 ≡ get_or old a 0 = written.outside a ge in (
            (λ h. inl (subst (λ (w : ℕ). Bit w b) same h)),
            (λ h. elim h [
              | inl o ↦ subst (λ (w : ℕ). Bit w b) (sym same) o
              | inr o ↦ absurd
                  (omega (arith, o.0, ge, far))
            ]),
          )
    ]
