-- Lines are read back, and fields hold no tab and no end of a line.
use Rattle.std.proofs.Common.{◌≡◌, ℕ, suc, ◌<◌, List, [], ◌∷◌, ◌++◌, true, false, length, refl, sym, ap, subst, ◌∙◌, append_assoc, arith}
use Rattle.std.specs.Prelude.{◌==◌, ◌||◌, All, map}
use Rattle.std.specs.List.{list_all, flat_map, join_with_byte, AllPass}
use Rattle.std.proofs.lemmas.Bool.{cond_both, cond-false, and_from, or_from, not_from_false, eqb-true}
use Rattle.std.proofs.lemmas.List.{append-nil}
use Rattle.std.proofs.lemmas.List.Folds.{list_all-append}
use Rattle.std.proofs.lemmas.List.Sums.{fold-append, AllPass-from_list_all}
use Rattle.escaped_texts.specs.Fields.{field_byte, field_text, line_text, is_inside_field, Inside, field_step, fields_behind, behind_lines}

abbrev pub Line : Type 0
Line = List (List ℕ)

plain_is_read : (lines : List Line) (fields : Line) (bytes : List ℕ) (b : ℕ) → (b == 92) ≡ false
    → (b == 9) ≡ false → (b == 10) ≡ false
    → field_step (Inside lines fields bytes) b ≡ Inside lines fields (bytes ++ b ∷ [])
plain_is_read lines fields bytes b backslash tab feed =
    cond-false (b == 9) _ _ tab ∙ cond-false (b == 10) _ _ feed ∙ cond-false (b == 92) _ _ backslash

byte_is_read : (lines : List Line) (fields : Line) (bytes : List ℕ) (b : ℕ)
    → fields_behind (Inside lines fields bytes) (field_byte b) ≡ Inside lines fields (bytes ++ b ∷ [])
unfolding field_byte
byte_is_read lines fields bytes b =
    let start = Inside lines fields bytes in
    let IsRead : List ℕ → Type 0 = λ t. fields_behind start t ≡ Inside lines fields (bytes ++ b ∷ []) in
    let Gives : ℕ → ℕ → Type 0 = λ letter k. fields_behind start (92 ∷ letter ∷ []) ≡ Inside lines fields (bytes ++ k ∷ []) in
    cond_both (b == 92) _ _ IsRead
    (λ is. subst (λ (k : ℕ). Gives 92 k) (sym (eqb-true b 92 is)) refl) (λ backslash.
    cond_both (b == 9) _ _ IsRead
    (λ is. subst (λ (k : ℕ). Gives 116 k) (sym (eqb-true b 9 is)) refl) (λ tab.
    cond_both (b == 10) _ _ IsRead
    (λ is. subst (λ (k : ℕ). Gives 110 k) (sym (eqb-true b 10 is)) refl) (λ feed.
    cond_both (b == 13) _ _ IsRead
    (λ is. subst (λ (k : ℕ). Gives 114 k) (sym (eqb-true b 13 is)) refl)
    (λ _. plain_is_read lines fields bytes b backslash tab feed))))

field_is_read : (lines : List Line) (fields : Line) (bytes field : List ℕ)
    → fields_behind (Inside lines fields bytes) (field_text field) ≡ Inside lines fields (bytes ++ field)
field_is_read lines fields bytes [] = ap (λ t. Inside lines fields t) (sym (append-nil bytes))
field_is_read lines fields bytes (b ∷ bs) =
    fold-append field_step (Inside lines fields bytes) (field_byte b) (field_text bs)
    ∙ ap (λ r. fields_behind r (field_text bs)) (byte_is_read lines fields bytes b)
    ∙ field_is_read lines fields (bytes ++ b ∷ []) bs
    ∙ ap (λ t. Inside lines fields t) (append_assoc bytes (b ∷ []) bs)

-- the fields of a line from one on, and its end
fields_are_read : (lines : List Line) (fields : Line) (field : List ℕ) (rest : Line)
    → fields_behind (Inside lines fields []) (join_with_byte 9 (map field_text (field ∷ rest)) ++ 10 ∷ [])
    ≡ behind_lines (lines ++ (fields ++ field ∷ rest) ∷ [])
fields_are_read lines fields field [] =
    fold-append field_step (Inside lines fields []) (field_text field) (10 ∷ [])
    ∙ ap (λ r. fields_behind r (10 ∷ [])) (field_is_read lines fields [] field)
fields_are_read lines fields field (next ∷ rest) =
    let others = join_with_byte 9 (map field_text (next ∷ rest)) in
    ap (λ t. fields_behind (Inside lines fields []) t)
    (append_assoc (field_text field) (9 ∷ others) (10 ∷ []))
    ∙ fold-append field_step (Inside lines fields []) (field_text field) (9 ∷ (others ++ 10 ∷ []))
    ∙ ap (λ r. fields_behind r (9 ∷ (others ++ 10 ∷ []))) (field_is_read lines fields [] field)
    ∙ fields_are_read lines (fields ++ field ∷ []) next rest
    ∙ ap (λ f. behind_lines (lines ++ f ∷ [])) (append_assoc fields (field ∷ []) (next ∷ rest))

line_is_read : (lines : List Line) (line : Line) → 0 < length line
    → fields_behind (behind_lines lines) (line_text line) ≡ behind_lines (lines ++ line ∷ [])
unfolding line_text
line_is_read lines [] inside = absurd (omega (arith, inside))
line_is_read lines (field ∷ rest) inside = fields_are_read lines [] field rest

each_line_is_read : (before lines : List Line) → All (λ fields. 0 < length fields) lines
    → fields_behind (behind_lines before) (flat_map line_text lines) ≡ behind_lines (before ++ lines)
each_line_is_read before [] full = ap behind_lines (sym (append-nil before))
each_line_is_read before (line ∷ lines) full =
    fold-append field_step (behind_lines before) (line_text line) (flat_map line_text lines)
    ∙ ap (λ r. fields_behind r (flat_map line_text lines))
    (line_is_read before line (full 0 [] (omega arith)))
    ∙ each_line_is_read (before ++ line ∷ []) lines
    (λ k d inside. full (suc k) d (omega (arith, inside)))
    ∙ ap behind_lines (append_assoc before (line ∷ []) lines)

pub lines_are_read : (lines : List Line) → All (λ fields. 0 < length fields) lines
    → fields_behind (behind_lines []) (flat_map line_text lines) ≡ behind_lines lines
lines_are_read lines full = each_line_is_read [] lines full

-- ---- fields

byte_is_inside : (b : ℕ) → list_all is_inside_field (field_byte b) ≡ true
unfolding field_byte
byte_is_inside b =
    let AreInside : List ℕ → Type 0 = λ t. list_all is_inside_field t ≡ true in
    cond_both (b == 92) _ _ AreInside (λ _. refl) (λ _.
    cond_both (b == 9) _ _ AreInside (λ _. refl) (λ tab.
    cond_both (b == 10) _ _ AreInside (λ _. refl) (λ feed.
    cond_both (b == 13) _ _ AreInside (λ _. refl) (λ carriage.
    let none = or_from (b == 9 || b == 10) (b == 13) (or_from (b == 9) (b == 10) tab feed) carriage in
    and_from (is_inside_field b) true (not_from_false (b == 9 || b == 10 || b == 13) none) refl))))

bytes_are_inside : (bytes : List ℕ) → list_all is_inside_field (field_text bytes) ≡ true
bytes_are_inside [] = refl
bytes_are_inside (b ∷ bs) =
    list_all-append is_inside_field (field_byte b) (field_text bs)
    ∙ and_from _ _ (byte_is_inside b) (bytes_are_inside bs)

pub field_is_inside : (bytes : List ℕ) → AllPass is_inside_field (field_text bytes)
field_is_inside bytes = AllPass-from_list_all is_inside_field (field_text bytes) (bytes_are_inside bytes)
