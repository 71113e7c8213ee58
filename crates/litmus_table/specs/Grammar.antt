-- The grammar of the table, on whole lists of tokens. A tree is a text as it is written; what it
-- spells goes before the rest.
use Rattle.std.specs.Prelude.{◌≡◌, ℕ, zero, suc, ◌+◌, List, [], ◌∷◌, ◌++◌, length, true, Option, Some, None}
use Rattle.litmus_tokens.specs.declared.token.Token.{Token}
use Rattle.litmus_tokens.specs.declared.token.Token.TheVariants as tokens
use Rattle.litmus_tokens.specs.declared.token.Mark.TheVariants.{Semicolon, Bar}
use Rattle.litmus_tokens.specs.Words.{column_name}
use Rattle.text_values.specs.declared.test.Step.{Step}
use Rattle.text_values.specs.declared.test.Step.TheVariants as steps
use Rattle.litmus_words.specs.declared.opcode.Opcode.{Opcode}
use Rattle.litmus_words.specs.Words.{opcode_of, takes_operands, instruction_meaning}

-- ---- trees

-- the word of an instruction, and the tokens that it takes
pub record InstructionTree : Type 0 where
  pub word : List ℕ
  pub operands : List Token

pub record CellTree : Type 0 where
  pub label : Option (List ℕ)
  pub instruction : Option InstructionTree

pub record RowTree : Type 0 where
  pub first : CellTree
  pub others : List CellTree

-- the text of a thread alone: a last semicolon is followed by an empty cell
pub record ThreadTree : Type 0 where
  pub first : CellTree
  pub others : List CellTree

-- ---- what they spell

abbrev pub spelled_label : Option (List ℕ) → List Token → List Token
spelled_label None rest = rest
spelled_label (Some n) rest = tokens.Label n ∷ rest

abbrev pub spelled_instruction : Option InstructionTree → List Token → List Token
spelled_instruction None rest = rest
spelled_instruction (Some i) rest = tokens.Word i.word ∷ (i.operands ++ rest)

abbrev pub spelled_cell : CellTree → List Token → List Token
spelled_cell c rest = spelled_label c.label (spelled_instruction c.instruction rest)

-- the cells after the first, and the row's end
abbrev pub spelled_cells : List CellTree → List Token → List Token
spelled_cells [] rest = tokens.Mark Semicolon ∷ rest
spelled_cells (c ∷ cs) rest = tokens.Mark Bar ∷ spelled_cell c (spelled_cells cs rest)

abbrev pub spelled_rows : List RowTree → List Token → List Token
spelled_rows [] rest = rest
spelled_rows (r ∷ rs) rest = spelled_cell r.first (spelled_cells r.others (spelled_rows rs rest))

-- the names after the first, from this number on, and the header's end
abbrev pub spelled_names : ℕ → ℕ → List Token → List Token
spelled_names k zero rest = tokens.Mark Semicolon ∷ rest
spelled_names k (suc n) rest =
    tokens.Mark Bar ∷ tokens.Word (column_name k) ∷ spelled_names (k + 1) n rest

-- so many columns beside the first
abbrev pub spelled_header : ℕ → List Token → List Token
spelled_header n rest = tokens.Word (column_name 0) ∷ spelled_names 1 n rest

-- the cells of a thread's text after the first
abbrev pub spelled_steps : List CellTree → List Token → List Token
spelled_steps [] rest = rest
spelled_steps (c ∷ cs) rest = tokens.Mark Semicolon ∷ spelled_cell c (spelled_steps cs rest)

abbrev pub spelled_thread : ThreadTree → List Token → List Token
spelled_thread t rest = spelled_cell t.first (spelled_steps t.others rest)

-- ---- which trees are fine

pub record IsOperation (i : InstructionTree) : Type 0 where
  pub opcode : Opcode
  pub known : opcode_of i.word ≡ Some opcode
  pub fit : takes_operands opcode i.operands ≡ true

abbrev pub IsInstruction : Option InstructionTree → Type 0
IsInstruction None = Unit {0}
IsInstruction (Some i) = IsOperation i

abbrev pub AreCells : List CellTree → Type 0
AreCells [] = Unit {0}
AreCells (c ∷ cs) = IsInstruction c.instruction × AreCells cs

-- each row has as many cells beside the first as the header has names
abbrev pub AreRowTrees : ℕ → List RowTree → Type 0
AreRowTrees n [] = Unit {0}
AreRowTrees n (r ∷ rs) =
    IsInstruction r.first.instruction × AreCells r.others × (length r.others ≡ n) × AreRowTrees n rs

-- ---- what they mean

abbrev pub label_steps : Option (List ℕ) → List Step
label_steps None = []
label_steps (Some n) = steps.Label n ∷ []

abbrev pub operation_steps : Option Opcode → List Token → List Step
operation_steps None ts = []
operation_steps (Some op) ts = steps.Instruction (instruction_meaning op ts) ∷ []

abbrev pub instruction_steps : Option InstructionTree → List Step
instruction_steps None = []
instruction_steps (Some i) = operation_steps (opcode_of i.word) i.operands

abbrev pub cell_steps : CellTree → List Step
cell_steps c = label_steps c.label ++ instruction_steps c.instruction

abbrev pub cells_steps : List CellTree → List Step
cells_steps [] = []
cells_steps (c ∷ cs) = cell_steps c ++ cells_steps cs

abbrev pub nth_cell : ℕ → List CellTree → List CellTree
nth_cell k [] = []
nth_cell zero (c ∷ cs) = c ∷ []
nth_cell (suc k) (c ∷ cs) = nth_cell k cs

-- the cells of a column
abbrev pub column : ℕ → List RowTree → List CellTree
column k [] = []
column k (r ∷ rs) = nth_cell k (r.first ∷ r.others) ++ column k rs

-- a thread a column, from this one on
abbrev pub columns_meaning : ℕ → ℕ → List RowTree → List (List Step)
columns_meaning k zero rs = []
columns_meaning k (suc n) rs = cells_steps (column k rs) ∷ columns_meaning (k + 1) n rs

abbrev pub thread_meaning : ThreadTree → List Step
thread_meaning t = cells_steps (t.first ∷ t.others)
