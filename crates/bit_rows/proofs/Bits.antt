-- The laws of one bit of a word.
use Rattle.std.proofs.Common.{ℕ, ◌≡◌, ◌<◌, ◌≤◌, ◌↔◌, ◌⊎◌, ◌+◌, ◌-◌, ◌*◌, ◌%◌, ◌/◌, ◌^◌, zero, suc, refl, subst, cond, eqb, mod-lt, pow_pos, w64, min, max, inl, inr, arith, sym, ap, ◌∙◌}
use Rattle.std.specs.Int.{bit_at, bit_not}
use Rattle.std.specs.Int.RustNames.{bit_or, bit_and}
use Rattle.std.proofs.lemmas.Nat.Bits.{bit_at_or, bit_at_and, bit_at-zero, bit_at-lt, same_from_bits, bit_at_above, bit_at_not, bit_at_set_same, bit_at_set_other, shr_and_one, bit_at_ones, bit_at_ones_above, ones_shr, bit_at_cat_low}
use Rattle.std.proofs.lemmas.Bool.{cases_lt, cases_eq}
use Rattle.std.proofs.lemmas.Bool.Decides.{eqb_tells}
use Rattle.std.proofs.lemmas.Nat.{div-add-mod'}
use Rattle.bit_rows.specs.Relation.{Bit}

pub zero_or_one : (n : ℕ) → n ≡ 0 → n ≡ 1 → ⊥
zero_or_one n p q = omega arith

pub Bit-zero : (k : ℕ) → Bit 0 k → ⊥
unfolding Bit
Bit-zero k h = let z : bit_at 0 k ≡ 0 = bit_at-zero k in zero_or_one _ z h

pub Bit-or : (x y k : ℕ) → Bit (bit_or x y) k ↔ (Bit x k ⊎ Bit y k)
unfolding Bit
Bit-or x y k =
    let e : bit_at (bit_or x y) k ≡ max (bit_at x k) (bit_at y k) = bit_at_or x y k in
    let p : bit_at x k < 2 = bit_at-lt x k in
    let q : bit_at y k < 2 = bit_at-lt y k in
    rw e (max_one _ _ p q)
  where
    max_one : (m n : ℕ) → m < 2 → n < 2 → max m n ≡ 1 ↔ ((m ≡ 1) ⊎ (n ≡ 1))
    max_one m n p q = ((λ h. grind arith), (λ h. grind arith))

pub Bit-and : (x y k : ℕ) → Bit (bit_and x y) k ↔ (Bit x k × Bit y k)
unfolding Bit
Bit-and x y k =
    let e : bit_at (bit_and x y) k ≡ min (bit_at x k) (bit_at y k) = bit_at_and x y k in
    let p : bit_at x k < 2 = bit_at-lt x k in
    let q : bit_at y k < 2 = bit_at-lt y k in
    rw e (min_one _ _ p q)
  where
    min_one : (m n : ℕ) → m < 2 → n < 2 → min m n ≡ 1 ↔ ((m ≡ 1) × (n ≡ 1))
    min_one m n p q = ((λ h. (omega arith, omega arith)), (λ h. omega arith))

-- a bit is set or not
pub Bit_cases : (x k : ℕ) → Bit x k ⊎ (Bit x k → ⊥)
unfolding Bit
Bit_cases x k = let p : bit_at x k < 2 = bit_at-lt x k in one_or_not _ p
  where
    one_or_not : (m : ℕ) → m < 2 → (m ≡ 1) ⊎ (m ≡ 1 → ⊥)
    one_or_not m p = grind arith

-- two numbers with the same bits are one
pub same_word : (x y : ℕ) → ((k : ℕ) → Bit x k ↔ Bit y k) → x ≡ y
unfolding Bit
same_word x y same =
    same_from_bits x y (λ k. same_bit _ _ (bit_at-lt x k) (bit_at-lt y k) (same k))
  where
    same_bit : (m n : ℕ) → m < 2 → n < 2 → (m ≡ 1 ↔ n ≡ 1) → m ≡ n
    same_bit m n p q (f, g) = grind arith

-- a word has no bit from its width on
pub Bit-width : (x k : ℕ) → x < 2 ^ 64 → Bit x k → k < 64
unfolding Bit
Bit-width x k fits h =
    elim (cases_lt k 64) [
      | inl lt ↦ lt
      | inr ge ↦ let z : bit_at x k ≡ 0 = bit_at_above x 64 k fits ge in absurd (zero_or_one _ z h)
    ]

-- `x & !y`
pub Bit-and_not : (x y k : ℕ) → x < 2 ^ 64 → y < 2 ^ 64
    → Bit (bit_and x (bit_not w64 y)) k ↔ (Bit x k × (Bit y k → ⊥))
unfolding Bit
Bit-and_not x y k fits_x fits_y = (
  (λ h. let both = (Bit-and x (bit_not w64 y) k).0 h in
      let lt : k < 64 = Bit-width x k fits_x both.0 in
      let e : bit_at (bit_not w64 y) k ≡ 1 - bit_at y k = bit_at_not w64 y k fits_y lt in
      let m : bit_at (bit_not w64 y) k ≡ 1 = both.1 in
      (both.0, (λ (t : bit_at y k ≡ 1). clash _ _ e m t))),
  (λ h. let lt : k < 64 = Bit-width x k fits_x h.0 in
      let e : bit_at (bit_not w64 y) k ≡ 1 - bit_at y k = bit_at_not w64 y k fits_y lt in
      (Bit-and x (bit_not w64 y) k).1 (h.0, unset _ _ e (bit_at-lt y k) h.1)),
)
  where
    clash : (m n : ℕ) → m ≡ 1 - n → m ≡ 1 → n ≡ 1 → ⊥
    clash m n e p q = omega arith

    unset : (m n : ℕ) → m ≡ 1 - n → n < 2 → (n ≡ 1 → ⊥) → m ≡ 1
    unset m n e p q = omega arith

-- `x | 1 << a`
pub Bit-set : (x a k : ℕ) → a < 64 → Bit (bit_or x (1 * 2 ^ a % 2 ^ 64)) k ↔ (Bit x k ⊎ (a ≡ k))
unfolding Bit
Bit-set x a k lt =
    elim (cases_eq k a) [
      | inl same ↦ ((λ h. inr (sym same)), (λ h. rw same (bit_at_set_same w64 x a lt)))
      | inr other ↦
          let e : bit_at (bit_or x (1 * 2 ^ a % 2 ^ 64)) k ≡ bit_at x k = bit_at_set_other w64 x a lt k other in
          rw e (
            (λ h. inl h),
            (λ h. elim h [ inl old ↦ old | inr same ↦ absurd (other (sym same)) ]),
          )
    ]

-- the word of one bit
Bit-one : (a k : ℕ) → a < 64 → Bit (1 * 2 ^ a % 2 ^ 64) k ↔ (a ≡ k)
Bit-one a k lt = (
  (λ h. elim ((Bit-set 0 a k lt).0 ((Bit-or 0 (1 * 2 ^ a % 2 ^ 64) k).1 (inr h))) [
    | inl none ↦ absurd (Bit-zero k none)
    | inr same ↦ same
  ]),
  (λ e. elim ((Bit-or 0 (1 * 2 ^ a % 2 ^ 64) k).0 ((Bit-set 0 a k lt).1 (inr e))) [
    | inl none ↦ absurd (Bit-zero k none)
    | inr h ↦ h
  ]),
)

-- `acc | if s & 1 << k == 0 { 0 } else { row }`
pub Bit-chosen : (acc s k row b : ℕ) → k < 64
    → Bit (bit_or acc (cond (eqb (bit_and s (1 * 2 ^ k % 2 ^ 64)) 0) 0 row)) b
    ↔ (Bit acc b ⊎ (Bit s k × Bit row b))
Bit-chosen acc s k row b lt =
    elim (eqb_tells met 0) [
      | inl zero_met ↦ rw zero_met.0 (
        (λ h. elim ((Bit-or acc 0 b).0 h)
            [ inl old ↦ inl old | inr none ↦ absurd (Bit-zero b none) ]),
        (λ h. (Bit-or acc 0 b).1 (elim h [
          | inl old ↦ inl old
          | inr t ↦ absurd
              (Bit-zero k (subst (λ (x : ℕ). Bit x k) zero_met.1 (has t.0)))
        ])),
      )
      | inr some ↦ rw some.0 (
        (λ h. elim ((Bit-or acc row b).0 h)
            [ inl old ↦ inl old | inr new ↦ inr (set some.1, new) ]),
        (λ h. (Bit-or acc row b).1 (elim h [ inl old ↦ inl old | inr t ↦ inr t.1 ])),
      )
    ]
  where
    met : ℕ
    met = bit_and s (1 * 2 ^ k % 2 ^ 64)

    has : Bit s k → Bit met k
    has h = (Bit-and s (1 * 2 ^ k % 2 ^ 64) k).1 (h, (Bit-one k k lt).1 refl)

    set : (met ≡ 0 → ⊥) → Bit s k
    set some = elim (Bit_cases s k) [
      | inl here ↦ here
      | inr unset ↦ absurd (some (same_word met 0 (λ c. (
        (λ h.
            let t = (Bit-and s (1 * 2 ^ k % 2 ^ 64) c).0 h in
            absurd (unset (subst (λ (x : ℕ). Bit s x) (sym ((Bit-one k c lt).0 t.1)) t.0))),
        (λ h. absurd (Bit-zero c h)),
      ))))
    ]

-- all ones where the word has the bit, and else 0
unfoldable pub spread : ℕ → ℕ → ℕ
spread s k = (0 + (2 ^ 64 - bit_and (s / 2 ^ k) 1)) % 2 ^ 64

-- `acc | (0 - ((s >> k) & 1)) & row`
pub Bit-spread : (acc s k row b : ℕ) → row < 2 ^ 64
    → Bit (bit_or acc (bit_and (spread s k) row)) b ↔ (Bit acc b ⊎ (Bit s k × Bit row b))
unfolding Bit spread
Bit-spread acc s k row b fits =
    let e : bit_and (s / 2 ^ k) 1 ≡ bit_at s k = shr_and_one s k in
    rw e (go (bit_at s k) (bit_at-lt s k))
  where
    all_ones : Bit (bit_and (2 ^ 64 - 1) row) b ↔ Bit row b
    all_ones = (
      (λ h. ((Bit-and (2 ^ 64 - 1) row b).0 h).1),
      (λ h. (Bit-and (2 ^ 64 - 1) row b).1 (bit_at_ones 64 b (Bit-width row b fits h), h)),
    )

    go : (m : ℕ) → m < 2
        → Bit (bit_or acc (bit_and ((0 + (2 ^ 64 - m)) % 2 ^ 64) row)) b
        ↔ (Bit acc b ⊎ ((m ≡ 1) × Bit row b))
    go zero lt = (
      (λ h. elim ((Bit-or acc (bit_and 0 row) b).0 h) [
        | inl old ↦ inl old
        | inr none ↦ absurd (Bit-zero b ((Bit-and 0 row b).0 none).0)
      ]),
      (λ h. elim h [
        | inl old ↦ (Bit-or acc (bit_and 0 row) b).1 (inl old)
        | inr new ↦ absurd (omega (arith, new.0))
      ]),
    )
    go (suc zero) lt = (
      (λ h. elim ((Bit-or acc (bit_and (2 ^ 64 - 1) row) b).0 h) [
        | inl old ↦ inl old
        | inr new ↦ inr (refl, all_ones.0 new)
      ]),
      (λ h. (Bit-or acc (bit_and (2 ^ 64 - 1) row) b).1 (elim h
          [ inl old ↦ inl old | inr new ↦ inr (all_ones.1 new.1) ])),
    )
    go (suc (suc m)) lt = absurd (omega arith)

-- a number whose bits are all below n fits
pub fits_below : (n w : ℕ) → ((k : ℕ) → Bit w k → k < n) → w < 2 ^ n
unfolding Bit
fits_below n w below = subst (λ (x : ℕ). x < 2 ^ n) (sym (same_from_bits w (w % 2 ^ n) each)) small
  where
    small : w % 2 ^ n < 2 ^ n
    small = mod-lt w (pow_pos n)

    zero_bit : {m : ℕ} → m < 2 → (m ≡ 1 → ⊥) → m ≡ 0
    zero_bit lt not_one = omega arith

    each : (k : ℕ) → bit_at w k ≡ bit_at (w % 2 ^ n) k
    each k = elim (cases_lt k n) [
      | inl lt ↦ ap (λ (x : ℕ). bit_at x k) (sym (div-add-mod' w (2 ^ n)))
          ∙ bit_at_cat_low (w / 2 ^ n) n (w % 2 ^ n) k lt
      | inr ge ↦
          let high : bit_at (w % 2 ^ n) k ≡ 0 = bit_at_above (w % 2 ^ n) n k small ge in
          zero_bit (bit_at-lt w k) (λ h. let lt : k < n = below k h in omega arith) ∙ sym high
    ]

-- a word whose bits are all below the width fits
pub word_fits : (w : ℕ) → ((k : ℕ) → Bit w k → k < 64) → w < 2 ^ 64
word_fits w below = fits_below 64 w below

-- the lowest bits of a word of ones
pub Bit-lowest : (n b : ℕ) → n ≤ 64 → Bit ((2 ^ 64 - 1) / 2 ^ (64 - n)) b ↔ (b < n)
unfolding Bit
Bit-lowest n b le =
    let e : (2 ^ 64 - 1) / 2 ^ (64 - n) ≡ 2 ^ (64 - (64 - n)) - 1 = ones_shr 64 (64 - n) (omega arith) in
    let same : 64 - (64 - n) ≡ n = omega arith in
    rw (e, same) (
      (λ h. elim (cases_lt b n) [
        | inl lt ↦ lt
        | inr ge ↦
            let z : bit_at (2 ^ n - 1) b ≡ 0 = bit_at_ones_above n b ge in
            absurd (zero_or_one _ z h)
      ]),
      (λ lt. bit_at_ones n b lt),
    )
