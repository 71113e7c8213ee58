-- Lines of a text.
use Rattle.std.proofs.Common.{◌≡◌, ℕ, ◌+◌, ◌-◌, ◌<◌, ◌≤◌, ◌≢◌, List, length, get_or, take, drop, arith, true, false, ◌∙◌, ap, length-drop}
use Rattle.std.specs.List.{position_or_len}
use Rattle.std.proofs.lemmas.List.{take_all}
use Rattle.std.proofs.lemmas.List.Sums.{fails_before_first, passes_at_first}
use Rattle.std.proofs.lemmas.Grind.{common_steps}
use Rattle.text_values.specs.Layout.{is_line_end}

rest : (bs : List ℕ) (i : ℕ) → take (length bs - i) (drop i bs) ≡ drop i bs
rest bs i = take_all (length bs - i) (drop i bs) (let l = length-drop i bs in omega arith)

line_is : (bs : List ℕ) (i n : ℕ)
    → n ≡ position_or_len is_line_end (take (length bs - i) (drop i bs))
    → n ≡ position_or_len is_line_end (drop i bs)
line_is bs i n h = h ∙ ap (λ (l : List ℕ). position_or_len is_line_end l) (rest bs i)

ten_is_end : (b : ℕ) → b ≡ 10 → is_line_end b ≡ false → ⊥
ten_is_end b e h = grind (arith, common_steps)

pub inside_line : (bs : List ℕ) (i n : ℕ) → i < length bs
    → n ≡ position_or_len is_line_end (take (length bs - i) (drop i bs)) → (k : ℕ) → i ≤ k
    → k < i + n → get_or bs k 0 ≢ 10
inside_line bs i n inside h k low high e =
    let at_k : get_or (drop i bs) (k - i) 0 ≡ get_or bs k 0 = grind (arith, common_steps) in
    let before : k - i < position_or_len is_line_end (drop i bs) = let p = line_is bs i n h in omega arith in
    let fails = fails_before_first is_line_end (drop i bs) (k - i) 0 before in
    let v : get_or (drop i bs) (k - i) 0 ≡ 10 = at_k ∙ e in
    ten_is_end (get_or (drop i bs) (k - i) 0) v fails

end_is_ten : (b : ℕ) → is_line_end b ≡ true → b ≡ 10
end_is_ten b h = grind (arith, common_steps)

pub end_of_line : (bs : List ℕ) (i n : ℕ) → i < length bs
    → n ≡ position_or_len is_line_end (take (length bs - i) (drop i bs)) → i + n < length bs
    → get_or bs (i + n) 0 ≡ 10
end_of_line bs i n inside h more =
    let p = line_is bs i n h in
    let l = length-drop i bs in
    let before : position_or_len is_line_end (drop i bs) < length (drop i bs) = omega arith in
    let passes = passes_at_first is_line_end (drop i bs) 0 before in
    let v : get_or (drop i bs) (position_or_len is_line_end (drop i bs)) 0 ≡ 10 = end_is_ten _ passes in
    let w : get_or (drop i bs) n 0 ≡ 10 = ap (λ (k : ℕ). get_or (drop i bs) k 0) p ∙ v in
    grind (arith, common_steps)
