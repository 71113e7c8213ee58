-- Laws of relations for the crates above.
use Rattle.std.proofs.Common.{ℕ, ◌≡◌, ◌<◌, ◌≤◌, ◌^◌, ◌↔◌, ◌⊎◌, List, [], ◌∷◌, length, get_or, suc, inl, inr, arith, sym, ap, ◌∙◌, refl}
use Rattle.std.proofs.Math.Nat.{eq-or-lt_of_le}
use Rattle.std.specs.Int.RustNames.{bit_or}
use Rattle.std.proofs.lemmas.Nat.{le_or_l}
use Rattle.std.proofs.lemmas.List.{ext_get_or}
use Rattle.bit_rows.specs.Relation.{Relation, IsRegular, Has, Bit, IsSubset, room_in, room_of}
use Rattle.bit_rows.proofs.Bits.{Bit-or, fits_below, same_word}

-- two regular relations on as many events with the same pairs are one
pub same_relation : (r s : Relation) → IsRegular r → IsRegular s → r.count ≡ s.count
    → ((a b : ℕ) → Has r a b ↔ Has s a b) → r ≡ s
same_relation r s p q count same =
    let rows : r.rows ≡ s.rows = ext_get_or 0 r.rows s.rows (p.height ∙ sym q.height) (λ a lt. same_word _ _ (λ b. same a b)) in
    ap (λ (n : ℕ). of_parts n r.rows) count ∙ ap (λ (xs : List ℕ). of_parts s.count xs) rows
  where
    of_parts : ℕ → List ℕ → Relation
    of_parts n xs = record { count = n; rows = xs }

-- a word with more bits is as large
word_grows : (x y : ℕ) → ((k : ℕ) → Bit x k → Bit y k) → x ≤ y
word_grows x y within =
    let e : y ≡ bit_or x y = same_word y (bit_or x y) (λ k. ((λ h. (Bit-or x y k).1 (inr h)), (λ h. elim ((Bit-or x y k).0 h) [ inl o ↦ within k o | inr n ↦ n ]))) in
    let le : x ≤ bit_or x y = le_or_l x y in
    rw e le

rows_grow : (xs ys : List ℕ) → length xs ≡ length ys → ((i : ℕ) → get_or ys i 0 < 2 ^ 128)
    → ((i b : ℕ) → Bit (get_or xs i 0) b → Bit (get_or ys i 0) b)
    → (xs ≡ ys) ⊎ (room_in ys < room_in xs)
rows_grow [] [] e fits within = inl refl
rows_grow [] (y ∷ ys) e fits within = absurd (omega (arith, e))
rows_grow (x ∷ xs) [] e fits within = absurd (omega (arith, e))
rows_grow (x ∷ xs) (y ∷ ys) e fits within =
    let head : x ≤ y = word_grows x y (λ k. within 0 k) in
    let small : y < 2 ^ 128 = fits 0 in
    go head small (rows_grow xs ys (omega (arith, e)) (λ i. fits (suc i)) (λ i b. within (suc i) b))
  where
    go : x ≤ y → y < 2 ^ 128 → (xs ≡ ys) ⊎ (room_in ys < room_in xs)
        → ((x ∷ xs) ≡ (y ∷ ys)) ⊎ (room_in (y ∷ ys) < room_in (x ∷ xs))
    go le lt (inr less) = inr (omega arith)
    go le lt (inl same) = elim (eq-or-lt_of_le le) [
      | inl e ↦ inl (ap (λ (w : ℕ). w ∷ xs) e ∙ ap (λ (ws : List ℕ). y ∷ ws) same)
      | inr gt ↦ inr (let r : room_in xs ≡ room_in ys = ap room_in same in omega arith)
    ]

-- a relation with the pairs of another is it, or has less room left
pub grows : (r s : Relation) → IsRegular r → IsRegular s → r.count ≡ s.count → IsSubset r s
    → (r ≡ s) ⊎ (room_of s < room_of r)
grows r s p q count within =
    elim
    (rows_grow r.rows s.rows (p.height ∙ sym q.height)
    (λ a. fits_below 128 _ (λ k h. let w = q.within a k h in omega (arith, w.1, q.few)))
    (λ a b. within a b)) [
      | inl rows ↦ inl (ap (λ (n : ℕ). of_parts n r.rows) count
          ∙ ap (λ (xs : List ℕ). of_parts s.count xs) rows)
      | inr less ↦ inr less
    ]
  where
    of_parts : ℕ → List ℕ → Relation
    of_parts n xs = record { count = n; rows = xs }
