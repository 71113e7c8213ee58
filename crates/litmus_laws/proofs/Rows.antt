-- The table, as it is read.
use Rattle.std.proofs.Common.{◌≡◌, ℕ, zero, suc, ◌+◌, ◌≤◌, List, [], ◌∷◌, ◌++◌, length, refl, sym, ap, ◌∙◌, arith, append_assoc}
use Rattle.std.specs.Prelude.{map, max, codes, Option, Some, None}
use Rattle.std.proofs.lemmas.List.{length-append, length-map}
use Rattle.litmus_tokens.specs.declared.stage.Stage.TheVariants.{CellBegins}
use Rattle.litmus_tokens.specs.declared.token.Token.{Token}
use Rattle.litmus_tokens.specs.declared.token.Token.TheVariants as tokens
use Rattle.litmus_tokens.specs.declared.token.Mark.TheVariants as marks
use Rattle.litmus_tokens.specs.Lexer.{first_lexeme}
use Rattle.litmus_tokens.specs.Texts.{tokens_from}
use Rattle.text_values.specs.declared.instruction.Instruction.{Instruction}
use Rattle.text_values.specs.declared.test.Step.{Step}
use Rattle.text_values.specs.declared.test.Step.TheVariants as steps
use Rattle.litmus_words.specs.declared.opcode.Opcode.{Opcode}
use Rattle.litmus_table.specs.Grammar as grammar
use Rattle.litmus_table.specs.Grammar.{CellTree, RowTree, spelled_cell, spelled_cells, spelled_rows, AreCells, AreRowTrees, operation_steps, cell_steps, cells_steps, nth_cell, column, columns_meaning}
use Rattle.litmus_printing.specs.Printing.{step_text, cell_text, row_text, rows_text, longest}
use Rattle.text_values.specs.Joined.{joined}
use Rattle.litmus_laws.specs.Written.{IsTestStep, AreTestSteps}
use Rattle.litmus_laws.proofs.Read.{Operands, read, free, inner}
use Rattle.litmus_laws.proofs.Instructions.{NoColon, cell_label, tree_of, instruction_read}

-- ---- cells

-- what closes a cell, once a blank is passed over
pub record Closes (bs : List ℕ) (ts : List Token) : Type 0 where
  pub begins : read CellBegins (32 ∷ bs) ≡ ts
  pub inside : inner Operands (32 ∷ bs) ≡ ts
  pub no_colon : NoColon bs

bar_closes : (bs : List ℕ) → Closes (124 ∷ 32 ∷ bs) (tokens.Mark marks.Bar ∷ read CellBegins bs)
unfolding tokens_from first_lexeme
bar_closes bs = record {
  begins = ap (λ (ts : List Token). tokens.Mark marks.Bar ∷ ts) (free CellBegins _ 0 3 bs refl);
  inside = ap (λ (ts : List Token). tokens.Mark marks.Bar ∷ ts) (free CellBegins _ 0 3 bs refl);
  no_colon = record { no_space = refl; no_comment = refl; no_colon = λ e. absurd (omega arith) };
}

semicolon_closes : (bs : List ℕ)
    → Closes (59 ∷ 10 ∷ bs) (tokens.Mark marks.Semicolon ∷ read CellBegins bs)
unfolding tokens_from first_lexeme
semicolon_closes bs = record {
  begins =
      ap (λ (ts : List Token). tokens.Mark marks.Semicolon ∷ ts) (free CellBegins _ 0 3 bs refl);
  inside =
      ap (λ (ts : List Token). tokens.Mark marks.Semicolon ∷ ts) (free CellBegins _ 0 3 bs refl);
  no_colon = record { no_space = refl; no_comment = refl; no_colon = λ e. absurd (omega arith) };
}

abbrev pub step_tree : Step → CellTree
step_tree (steps.Label l) = record { label = Some l; instruction = None }
step_tree (steps.Instruction i) = record { label = None; instruction = Some (tree_of i) }

abbrev pub cell_tree : ℕ → List Step → CellTree
cell_tree k [] = record { label = None; instruction = None }
cell_tree zero (s ∷ ss) = step_tree s
cell_tree (suc k) (s ∷ ss) = cell_tree k ss

step_back : (s : Step) (bs : List ℕ) (ts : List Token) → IsTestStep s → Closes bs ts
    → read CellBegins (step_text s ++ 32 ∷ bs) ≡ spelled_cell (step_tree s) ts
step_back (steps.Label l) bs ts h e =
    ap (read CellBegins) (append_assoc l (58 ∷ []) (32 ∷ bs)) ∙ cell_label l (32 ∷ bs) h
    ∙ ap (λ (us : List Token). tokens.Label l ∷ us) e.inside
step_back (steps.Instruction i) bs ts h e =
    (instruction_read i h).tokens_are bs e.no_colon
    ∙ ap (λ (us : List Token). tokens.Word (tree_of i).word ∷ ((tree_of i).operands ++ us))
    e.inside

cell_back : (k : ℕ) (ss : List Step) (bs : List ℕ) (ts : List Token) → AreTestSteps ss → Closes bs ts
    → read CellBegins (cell_text k ss ++ 32 ∷ bs) ≡ spelled_cell (cell_tree k ss) ts
cell_back k [] bs ts h e = e.begins
cell_back zero (s ∷ ss) bs ts h e = step_back s bs ts h.0 e
cell_back (suc k) (s ∷ ss) bs ts h e = cell_back k ss bs ts h.1 e

abbrev pub AreAllSteps : List (List Step) → Type 0
AreAllSteps [] = Unit {0}
AreAllSteps (t ∷ ts) = AreTestSteps t × AreAllSteps ts

-- ---- rows

cells_back : (k : ℕ) (t : List Step) (ts : List (List Step)) (bs : List ℕ) → AreAllSteps (t ∷ ts)
    → read CellBegins (joined (codes " | ") (map (cell_text k) (t ∷ ts)) ++ 32 ∷ 59 ∷ 10 ∷ bs)
    ≡ spelled_cell (cell_tree k t) (spelled_cells (map (cell_tree k) ts) (read CellBegins bs))
cells_back k t [] bs h = cell_back k t (59 ∷ 10 ∷ bs) _ h.0 (semicolon_closes bs)
cells_back k t (u ∷ us) bs h =
    let J = joined (codes " | ") (map (cell_text k) (u ∷ us)) in
    let X = 32 ∷ 59 ∷ 10 ∷ bs in
    ap (read CellBegins) (append_assoc (cell_text k t) (codes " | " ++ J) X)
    ∙ cell_back k t (124 ∷ 32 ∷ (J ++ X)) _ h.0 (bar_closes (J ++ X))
    ∙ ap (λ (us : List Token). spelled_cell (cell_tree k t) (tokens.Mark marks.Bar ∷ us))
    (cells_back k u us bs h.1)

-- a line of cells, and what stands behind it
pub row_parts : (cells : List (List ℕ)) (bs : List ℕ)
    → row_text cells ++ bs ≡ joined (codes " | ") cells ++ 32 ∷ 59 ∷ 10 ∷ bs
row_parts cells bs =
    let J = joined (codes " | ") cells in
    append_assoc (J ++ 32 ∷ 59 ∷ []) (10 ∷ []) bs ∙ append_assoc J (32 ∷ 59 ∷ []) (10 ∷ bs)

cell_fine : (k : ℕ) (ss : List Step) → AreTestSteps ss
    → grammar.IsInstruction (cell_tree k ss).instruction
cell_fine k [] h = tt
cell_fine zero (steps.Label l ∷ ss) h = tt
cell_fine zero (steps.Instruction i ∷ ss) h = (instruction_read i h.0).fine
cell_fine (suc k) (s ∷ ss) h = cell_fine k ss h.1

cells_fine : (k : ℕ) (ts : List (List Step)) → AreAllSteps ts → AreCells (map (cell_tree k) ts)
cells_fine k [] h = tt
cells_fine k (t ∷ ts) h = (cell_fine k t h.0, cells_fine k ts h.1)

-- ---- what a column means

abbrev pub column_cells : ℕ → ℕ → List Step → List CellTree
column_cells k zero ss = []
column_cells k (suc n) ss = cell_tree k ss ∷ column_cells (k + 1) n ss

shifted : (n k : ℕ) (s : Step) (ss : List Step)
    → column_cells (suc k) n (s ∷ ss) ≡ column_cells k n ss
shifted zero k s ss = refl
shifted (suc n) k s ss =
    let next : suc k + 1 ≡ suc (k + 1) = omega arith in
    ap (λ (j : ℕ). cell_tree k ss ∷ column_cells j n (s ∷ ss)) next
    ∙ ap (λ (cs : List CellTree). cell_tree k ss ∷ cs) (shifted n (k + 1) s ss)

nothing : (k n : ℕ) → cells_steps (column_cells k n []) ≡ []
nothing k zero = refl
nothing k (suc n) = nothing (k + 1) n

step_means : (s : Step) → IsTestStep s → cell_steps (step_tree s) ≡ s ∷ []
step_means (steps.Label l) h = refl
step_means (steps.Instruction i) h =
    ap (λ (o : Option Opcode). operation_steps o (tree_of i).operands)
    (instruction_read i h).fine.known
    ∙ ap (λ (j : Instruction). steps.Instruction j ∷ []) (instruction_read i h).means

column_means : (n : ℕ) (ss : List Step) → AreTestSteps ss → length ss ≤ n
    → cells_steps (column_cells 0 n ss) ≡ ss
column_means n [] h le = nothing 0 n
column_means zero (s ∷ ss) h le = absurd (omega arith)
column_means (suc n) (s ∷ ss) h le =
    ap (λ (x : List Step). x ++ cells_steps (column_cells 1 n (s ∷ ss))) (step_means s h.0)
    ∙ ap (λ (cs : List CellTree). s ∷ cells_steps cs) (shifted n 0 s ss)
    ∙ ap (λ (x : List Step). s ∷ x) (column_means n ss h.1 (omega arith))

abbrev pub AreShort : ℕ → List (List Step) → Type 0
AreShort n [] = Unit {0}
AreShort n (t ∷ ts) = (length t ≤ n) × AreShort n ts

widen : (m n : ℕ) (ts : List (List Step)) → m ≤ n → AreShort m ts → AreShort n ts
widen m n [] le h = tt
widen m n (t ∷ ts) le h = let x = h.0 in (omega arith, widen m n ts le h.1)

pub all_short : (ts : List (List Step)) → AreShort (longest ts) ts
all_short [] = tt
all_short (t ∷ ts) =
    (omega arith, widen (longest ts) (max (length t) (longest ts)) ts (omega arith) (all_short ts))

nth_here : (k : ℕ) (before : List (List Step)) (t : List Step) (behind : List (List Step))
    → nth_cell (length before) (map (cell_tree k) (before ++ t ∷ behind)) ≡ cell_tree k t ∷ []
nth_here k [] t behind = refl
nth_here k (u ∷ us) t behind = nth_here k us t behind

module _ (t : List Step) (ts : List (List Step)) (h : AreAllSteps (t ∷ ts)) where
  abbrev pub row_tree : ℕ → RowTree
  row_tree k = record { first = cell_tree k t; others = map (cell_tree k) ts }

  -- so many rows, from this number on
  abbrev pub rows_of : ℕ → ℕ → List RowTree
  rows_of k zero = []
  rows_of k (suc n) = row_tree k ∷ rows_of (k + 1) n

  pub rows_back : (k n : ℕ) (bs : List ℕ)
      → read CellBegins (rows_text k n (t ∷ ts) ++ bs)
      ≡ spelled_rows (rows_of k n) (read CellBegins bs)
  rows_back k zero bs = refl
  rows_back k (suc n) bs =
      let R = rows_text (k + 1) n (t ∷ ts) in
      ap (read CellBegins) (append_assoc (row_text (map (cell_text k) (t ∷ ts))) R bs
      ∙ row_parts (map (cell_text k) (t ∷ ts)) (R ++ bs))
      ∙ cells_back k t ts (R ++ bs) h
      ∙ ap
      (λ (us : List Token).
      spelled_cell (cell_tree k t) (spelled_cells (map (cell_tree k) ts) us))
      (rows_back (k + 1) n bs)

  pub rows_fine : (k n : ℕ) → AreRowTrees (length ts) (rows_of k n)
  rows_fine k zero = tt
  rows_fine k (suc n) =
      (cell_fine k t h.0, cells_fine k ts h.1, length-map ts (cell_tree k), rows_fine (k + 1) n)

  column_here : (before : List (List Step)) (s : List Step) (behind : List (List Step))
      → before ++ s ∷ behind ≡ t ∷ ts → (k n : ℕ)
      → column (length before) (rows_of k n) ≡ column_cells k n s
  column_here before s behind e k zero = refl
  column_here before s behind e k (suc n) =
      ap
      (λ (l : List (List Step)). nth_cell (length before) (map (cell_tree k) l)
      ++ column (length before) (rows_of (k + 1) n))
      (sym e)
      ∙ ap (λ (cs : List CellTree). cs ++ column (length before) (rows_of (k + 1) n))
      (nth_here k before s behind)
      ∙ ap (λ (cs : List CellTree). cell_tree k s ∷ cs) (column_here before s behind e (k + 1) n)

  columns_back : (before behind : List (List Step)) (n : ℕ) → before ++ behind ≡ t ∷ ts
      → AreAllSteps behind → AreShort n behind
      → columns_meaning (length before) (length behind) (rows_of 0 n) ≡ behind
  columns_back before [] n e a short = refl
  columns_back before (s ∷ behind) n e a short =
      let one = length-append before (s ∷ []) in
      let next : length before + 1 ≡ length (before ++ s ∷ []) = omega arith in
      ap
      (λ (cs : List CellTree). cells_steps cs
      ∷ columns_meaning (length before + 1) (length behind) (rows_of 0 n))
      (column_here before s behind e 0 n)
      ∙ ap
      (λ (x : List Step). x ∷ columns_meaning (length before + 1) (length behind) (rows_of 0 n))
      (column_means n s a.0 short.0)
      ∙ ap (λ (j : ℕ). s ∷ columns_meaning j (length behind) (rows_of 0 n)) next
      ∙ ap (λ (l : List (List Step)). s ∷ l) (columns_back (before ++ s ∷ []) behind n
      (append_assoc before (s ∷ []) behind ∙ e) a.1 short.1)

  -- the rows of the longest thread mean these threads
  pub rows_mean : columns_meaning 0 (length ts + 1) (rows_of 0 (longest (t ∷ ts))) ≡ t ∷ ts
  rows_mean =
      let count : length ts + 1 ≡ length (t ∷ ts) = omega arith in
      ap (λ (n : ℕ). columns_meaning 0 n (rows_of 0 (longest (t ∷ ts)))) count
      ∙ columns_back [] (t ∷ ts) (longest (t ∷ ts)) refl h (all_short (t ∷ ts))
