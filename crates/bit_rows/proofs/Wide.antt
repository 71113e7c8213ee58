-- Rows of two words: each word comes back.
use Rattle.std.proofs.Common.{ℕ, ◌≡◌, ◌<◌, ◌≤◌, ◌+◌, ◌-◌, ◌*◌, ◌/◌, ◌%◌, ◌^◌, ◌↔◌, zero, suc, List, [], ◌∷◌, length, get_or, arith, refl, ap, ◌∙◌, sym, subst, inl, inr}
use Rattle.std.proofs.lemmas.Nat.Bits.{bit_at_cat_low, bit_at_cat_high}
use Rattle.std.proofs.lemmas.List.{get_or_past}
use Rattle.std.proofs.lemmas.Bool.{cases_lt}
use Rattle.bit_rows.specs.Rows.{RowsHave, AllFit}
use Rattle.bit_rows.proofs.Bits.{Bit-zero}
use Rattle.bit_rows.specs.Relation.{Bit, wide_word, wide, low_words, high_words}

pub joined-low : (l h : ℕ) → l < 2 ^ 64 → wide_word l h % 2 ^ 64 ≡ l
joined-low l h fits = omega arith

pub joined-high : (l h : ℕ) → l < 2 ^ 64 → wide_word l h / 2 ^ 64 ≡ h
joined-high l h fits = omega arith

again_low : (ls hs : List ℕ) → length ls ≡ length hs → AllFit ls → low_words (wide ls hs) ≡ ls
again_low [] hs e fits = refl
again_low (l ∷ ls) [] e fits = absurd (omega (arith, e))
again_low (l ∷ ls) (h ∷ hs) e fits =
    ap (λ (x : ℕ). x ∷ low_words (wide ls hs)) (joined-low l h (fits 0))
    ∙ ap (λ (xs : List ℕ). l ∷ xs) (again_low ls hs (omega (arith, e)) (λ a. fits (suc a)))

again_high : (ls hs : List ℕ) → length ls ≡ length hs → AllFit ls → high_words (wide ls hs) ≡ hs
again_high [] [] e fits = refl
again_high [] (h ∷ hs) e fits = absurd (omega (arith, e))
again_high (l ∷ ls) [] e fits = absurd (omega (arith, e))
again_high (l ∷ ls) (h ∷ hs) e fits =
    ap (λ (x : ℕ). x ∷ high_words (wide ls hs)) (joined-high l h (fits 0))
    ∙ ap (λ (xs : List ℕ). h ∷ xs) (again_high ls hs (omega (arith, e)) (λ a. fits (suc a)))

pub low_again : (ls hs : List ℕ) → length ls ≡ 128 → length hs ≡ 128 → AllFit ls
    → low_words (wide ls hs) ≡ ls
low_again ls hs p q fits = again_low ls hs (p ∙ sym q) fits

pub high_again : (ls hs : List ℕ) → length ls ≡ 128 → length hs ≡ 128 → AllFit ls
    → high_words (wide ls hs) ≡ hs
high_again ls hs p q fits = again_high ls hs (p ∙ sym q) fits

pub get_or-wide : (ls hs : List ℕ) (a : ℕ) → length ls ≡ length hs → a < length ls
    → get_or (wide ls hs) a 0 ≡ wide_word (get_or ls a 0) (get_or hs a 0)
get_or-wide [] hs a e lt = absurd (omega arith)
get_or-wide (l ∷ ls) [] a e lt = absurd (omega (arith, e))
get_or-wide (l ∷ ls) (h ∷ hs) zero e lt = refl
get_or-wide (l ∷ ls) (h ∷ hs) (suc a) e lt = get_or-wide ls hs a (omega (arith, e)) (omega arith)

pub Bit-low : (h l k : ℕ) → k < 64 → Bit (h * 2 ^ 64 + l) k ↔ Bit l k
unfolding Bit
Bit-low h l k lt = rw (bit_at_cat_low h 64 l k lt) ((λ t. t), (λ t. t))

pub Bit-high : (h l k : ℕ) → l < 2 ^ 64 → 64 ≤ k → Bit (h * 2 ^ 64 + l) k ↔ Bit h (k - 64)
unfolding Bit
Bit-high h l k fits ge = rw (bit_at_cat_high h 64 l k fits ge) ((λ t. t), (λ t. t))

pub length-wide : (ls hs : List ℕ) → length ls ≡ length hs → length (wide ls hs) ≡ length ls
length-wide [] hs e = refl
length-wide (l ∷ ls) [] e = absurd (omega (arith, e))
length-wide (l ∷ ls) (h ∷ hs) e =
    let k : length (wide ls hs) ≡ length ls = length-wide ls hs (omega (arith, e)) in omega arith

-- a bit of a wide row, by its word
pub low_bit : (ls hs : List ℕ) (a b : ℕ) → length ls ≡ length hs → b < 64
    → RowsHave (wide ls hs) a b ↔ RowsHave ls a b
low_bit ls hs a b e lt =
    elim (cases_lt a (length ls)) [
      | inl inside ↦ rw (get_or-wide ls hs a e inside)
          (Bit-low (get_or hs a 0) (get_or ls a 0) b lt)
      | inr past ↦ rw (
        get_or_past {X = ℕ} (wide ls hs) a 0 (rw (length-wide ls hs e) past),
        get_or_past {X = ℕ} ls a 0 past,
      )
          ((λ h. h), (λ h. h))
    ]

pub high_bit : (ls hs : List ℕ) (a b : ℕ) → length ls ≡ length hs → AllFit ls → 64 ≤ b
    → RowsHave (wide ls hs) a b ↔ RowsHave hs a (b - 64)
high_bit ls hs a b e fits ge =
    elim (cases_lt a (length ls)) [
      | inl inside ↦ rw (get_or-wide ls hs a e inside)
          (Bit-high (get_or hs a 0) (get_or ls a 0) b (fits a) ge)
      | inr past ↦ rw (
        get_or_past {X = ℕ} (wide ls hs) a 0 (rw (length-wide ls hs e) past),
        get_or_past {X = ℕ} hs a 0 (rw (← e) past),
      )
          ((λ h. absurd (Bit-zero b h)), (λ h. absurd (Bit-zero (b - 64) h)))
    ]

low_words_fit : (ws : List ℕ) → AllFit (low_words ws)
low_words_fit [] a = omega arith
low_words_fit (w ∷ ws) zero = omega arith
low_words_fit (w ∷ ws) (suc a) = low_words_fit ws a

pub low_fits : (ls hs : List ℕ) → low_words (wide ls hs) ≡ ls → AllFit ls
low_fits ls hs kept = subst AllFit kept (low_words_fit (wide ls hs))
