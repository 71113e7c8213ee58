-- A name that is kept in place: what stands behind its bytes is zero.
use Rattle.std.proofs.Common.{arith, ap, sym, ◌∙◌, ◌≡◌, ◌≤◌, ◌<◌, ◌+◌, ◌*◌, ◌%◌, ◌⊎◌, inl, inr, ℕ, List, [], ◌∷◌, length, take}
use Rattle.std.specs.Prelude.{min, slice_index}
use Rattle.std.specs.Int.{from_le_bytes, w64}
use Rattle.std.proofs.lemmas.Nat.{mod-mul-add}
use Rattle.std.proofs.lemmas.Grind.{common_steps}
use Rattle.std.proofs.lemmas.Bool.{cases_lt}
use Rattle.std.proofs.lemmas.List.{get_or-take, length-take-le}
use Rattle.std.proofs.Math.ListN.{get_or-eq_default}

pub at_index : (n : ℕ) (bytes : List ℕ) → ((i : ℕ) → n ≤ i → slice_index bytes i ≡ 0)
    → n ≤ length bytes → (i : ℕ) → slice_index (take n bytes) i ≡ slice_index bytes i
at_index n bytes zeros fits i = by (cases_lt i n)
  where
    by : (i < n) ⊎ (n ≤ i) → slice_index (take n bytes) i ≡ slice_index bytes i
    by (inl l) = get_or-take n bytes i 0 l
    by (inr l) =
        let long : length (take n bytes) ≤ i = omega (arith, length-take-le n bytes fits, l) in
        get_or-eq_default (take n bytes) 0 long ∙ sym (zeros i l)

pub counted : (n : ℕ) (bytes : List ℕ) → n ≤ 16 → n ≤ length bytes
    → min (length (take n bytes)) 255 ≡ n
counted n bytes short fits = grind (arith, common_steps, length-take-le n bytes fits)

-- what is left of a number times 256, with another byte
moved : (l low h n : ℕ) → l + low < 18446744073709551616 → n * 256 ≡ h * 18446744073709551616 + low
    → ((n * 256) % 18446744073709551616 + l) % 18446744073709551616 ≡ l + low
moved l low h n few split =
    let prefix : (n * 256) % 18446744073709551616 ≡ low = ap (λ m. m % 18446744073709551616) split ∙ mod-mul-add h 18446744073709551616 low (omega (arith, few)) in
    let whole : low + l ≡ 0 * 18446744073709551616 + (l + low) = omega arith in
    ap (λ m. (m + l) % 18446744073709551616) prefix
    ∙ (ap (λ m. m % 18446744073709551616) whole
    ∙ mod-mul-add 0 18446744073709551616 (l + low) few)

-- eight bytes without the last one, behind another byte
pub shifted : (l a b c d e f g h n : ℕ) → l < 256 → a < 256 → b < 256 → c < 256 → d < 256 → e < 256
    → f < 256 → g < 256
    → n ≡ from_le_bytes w64 (a ∷ b ∷ c ∷ d ∷ e ∷ f ∷ g ∷ h ∷ [])
    → ((n * 256) % 18446744073709551616 + l) % 18446744073709551616
    ≡ from_le_bytes w64 (l ∷ a ∷ b ∷ c ∷ d ∷ e ∷ f ∷ g ∷ [])
shifted l a b c d e f g h n l' a' b' c' d' e' f' g' is =
    moved l
    (a * 256 + b * 65536 + c * 16777216 + d * 4294967296 + e * 1099511627776 + f
    * 281474976710656 + g * 72057594037927936) h n
    (omega (arith, l', a', b', c', d', e', f', g')) (omega (arith, is))
    ∙ omega arith
