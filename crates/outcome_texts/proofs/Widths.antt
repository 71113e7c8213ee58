-- The widths of columns.
use Rattle.std.proofs.Common.{◌≡◌, ℕ, ◌+◌, ◌<◌, ◌⊎◌, inl, inr, max, List, [], ◌∷◌, ◌++◌, length, get_or, take, sym, ap, ◌∙◌, subst, arith}
use Rattle.std.proofs.lemmas.Bool.{cases_order}
use Rattle.std.proofs.lemmas.Grind.{common_steps}
use Rattle.std.proofs.lemmas.List.{take_more}
use Rattle.outcome_texts.specs.Columns.{field_width, column_width}

-- a line more
widened : (lines : List (List (List ℕ))) (line : List (List ℕ)) (k : ℕ)
    → column_width (lines ++ line ∷ []) k ≡ max (column_width lines k) (field_width line k)
widened [] line k = omega arith
widened (l ∷ ls) line k = let h = widened ls line k in omega (arith, h)

pub line_more : (lines : List (List (List ℕ))) (i : ℕ) (line : List (List ℕ)) (old new : ℕ → ℕ)
    → i < length lines → line ≡ get_or lines i line
    → ((k : ℕ) → old k ≡ column_width (take i lines) k)
    → ((k : ℕ) → new k ≡ max (old k) (field_width line k)) → (k : ℕ)
    → new k ≡ column_width (take (i + 1) lines) k
line_more lines i line old new inside at_i before wider k =
    let cut : take (i + 1) lines ≡ take i lines ++ line ∷ [] = take_more lines i line inside ∙ ap (λ (l : List (List ℕ)). take i lines ++ l ∷ []) (sym at_i) in
    wider k ∙ ap (λ (n : ℕ). max n (field_width line k)) (before k)
    ∙ sym (widened (take i lines) line k)
    ∙ ap (λ (ls : List (List (List ℕ))). column_width ls k) (sym cut)

-- a field more
pub field_more : (line : List (List ℕ)) (i : ℕ) (field : List ℕ) (first old new : ℕ → ℕ)
    → i < length line → field ≡ get_or line i field
    → ((k : ℕ) → old k ≡ max (first k) (field_width (take i line) k))
    → new i ≡ max (old i) (length field) → ((k : ℕ) → (k ≡ i → ⊥) → new k ≡ old k) → (k : ℕ)
    → new k ≡ max (first k) (field_width (take (i + 1) line) k)
field_more line i field first old new inside at_i before here others k = by_column (cases_order k i)
  where
    same_width : (k ≡ i → ⊥) → field_width (take (i + 1) line) k ≡ field_width (take i line) k
    same_width other = grind (arith, common_steps)

    here_width : field_width (take (i + 1) line) i ≡ length field
    here_width = grind (arith, common_steps)

    none_width : field_width (take i line) i ≡ 0
    none_width = grind (arith, common_steps)

    elsewhere : (k ≡ i → ⊥) → new k ≡ max (first k) (field_width (take (i + 1) line) k)
    elsewhere other =
        others k other ∙ before k ∙ ap (λ (n : ℕ). max (first k) n) (sym (same_width other))

    at_column : new i ≡ max (first i) (field_width (take (i + 1) line) i)
    at_column =
        let b = before i in let n = none_width in let h = here_width in omega (arith, here, b, n, h)

    by_column : (k ≡ i) ⊎ ((k < i) ⊎ (i < k))
        → new k ≡ max (first k) (field_width (take (i + 1) line) k)
    by_column (inl same) =
        subst (λ (j : ℕ). new j ≡ max (first j) (field_width (take (i + 1) line) j)) (sym same)
        at_column
    by_column (inr (inl less)) = elsewhere (λ e. omega arith)
    by_column (inr (inr more)) = elsewhere (λ e. omega arith)
