-- Lists that are printed one after another.
use Rattle.std.proofs.Common.{◌≡◌, ℕ, zero, suc, ◌+◌, ◌-◌, ◌<◌, ◌≤◌, List, [], ◌∷◌, ◌++◌, length, get_or, refl, sym, ap, ◌∙◌, arith, append_assoc}
use Rattle.std.specs.Prelude.{map, codes}
use Rattle.std.specs.Fmt.{decimal}
use Rattle.text_values.specs.Joined.{joined, separation}
use Rattle.text_values.proofs.Separated.{from, from_first}
use Rattle.text_values.specs.declared.test.Step.{Step}
use Rattle.text_values.specs.declared.test.Thread.{Thread}
use Rattle.text_values.specs.TestValue.{thread_steps}
use Rattle.litmus_printing.specs.Printing.{names, cell_text, step_text, row_text, rows_text}

-- ---- the header

pub header_begins : (n : ℕ)
    → from (codes " | ") 0 (names 0 (n - 0)) ≡ joined (codes " | ") (names 0 n)
header_begins n =
    let all : n - 0 ≡ n = omega arith in
    ap (λ m. from (codes " | ") 0 (names 0 m)) all ∙ from_first (codes " | ") (names 0 n)

pub header_more : (text : List ℕ) (i n : ℕ) → i < n
    → (((text ++ separation (codes " | ") i) ++ codes "P") ++ decimal i)
    ++ from (codes " | ") (i + 1) (names (i + 1) (n - (i + 1)))
    ≡ text ++ from (codes " | ") i (names i (n - i))
header_more text i n lt =
    let more : n - i ≡ suc (n - (i + 1)) = omega arith in
    simp append_assoc (ap (λ m. text ++ from (codes " | ") i (names i m)) (sym more))

-- ---- rows

pub cell_there : (k : ℕ) (ss : List Step) (s : Step) → k < length ss
    → cell_text k ss ≡ step_text (get_or ss k s)
cell_there k [] s lt = absurd (omega arith)
cell_there zero (x ∷ xs) s lt = refl
cell_there (suc k) (x ∷ xs) s lt = cell_there k xs s (omega arith)

pub cell_ended : (k : ℕ) (ss : List Step) → length ss ≤ k → cell_text k ss ≡ []
cell_ended k [] le = refl
cell_ended zero (x ∷ xs) le = absurd (omega arith)
cell_ended (suc k) (x ∷ xs) le = cell_ended k xs (omega arith)

abbrev pub cells : ℕ → List Thread → List (List ℕ)
cells number ts = map (cell_text number) (map thread_steps ts)

pub rows_more : (text : List ℕ) (i n : ℕ) (ts : List (List Step)) → i < n
    → (text ++ row_text (map (cell_text i) ts)) ++ rows_text (i + 1) (n - (i + 1)) ts
    ≡ text ++ rows_text i (n - i) ts
rows_more text i n ts lt =
    let more : n - i ≡ suc (n - (i + 1)) = omega arith in
    append_assoc text (row_text (map (cell_text i) ts)) (rows_text (i + 1) (n - (i + 1)) ts)
    ∙ ap (λ m. text ++ rows_text i m ts) (sym more)
