-- The checks of labels, made of a table that the grammar allows: a label that is defined twice, and
-- a branch to a label that stands before it or nowhere in its thread.
use Rattle.std.specs.Prelude.{ℕ, zero, suc, ◌+◌, List, [], ◌∷◌, ◌++◌, Bool, false, ◌||◌, Option, Some, None, if◌then◌else◌}
use Rattle.std.specs.Str.{bytes_eq}
use Rattle.litmus_tokens.specs.declared.rule.LitmusRule.{LitmusRule}
use Rattle.litmus_tokens.specs.declared.rule.LitmusRule.TheVariants as rules
use Rattle.litmus_tokens.specs.declared.token.Token.{Token}
use Rattle.litmus_tokens.specs.declared.token.Token.TheVariants as tokens
use Rattle.litmus_tokens.specs.declared.token.Mark.TheVariants.{Semicolon, Bar}
use Rattle.litmus_words.specs.declared.opcode.Opcode.{Opcode}
use Rattle.litmus_words.specs.declared.opcode.Opcode.TheVariants as opcodes
use Rattle.litmus_words.specs.Words.{opcode_of, target_label}
use Rattle.litmus_table.specs.Grammar.{InstructionTree, CellTree, RowTree, spelled_label, spelled_cell, spelled_rows}

-- a fault, and the tokens before the one that it stands at
pub record Late : Type 0 where
  pub rule : LitmusRule
  pub before : List Token

abbrev pub or_else : Option Late → Option Late → Option Late
or_else None b = b
or_else (Some a) b = Some a

-- a label that a thread defines or branches to, and the tokens before it
pub data Note : Type 0 where
  Defines : (label : List ℕ) (before : List Token) → Note
  Branches : (label : List ℕ) (before : List Token) → Note

abbrev pub branch_notes : Option Opcode → List Token → List Token → List Note
branch_notes (Some (opcodes.Branch condition)) ts before = Branches (target_label ts) before ∷ []
branch_notes o ts before = []

abbrev pub instruction_notes : Option InstructionTree → List Token → List Note
instruction_notes None before = []
instruction_notes (Some i) before =
    branch_notes (opcode_of i.word) i.operands (before ++ tokens.Word i.word ∷ [])

abbrev pub label_notes : Option (List ℕ) → List Token → List Note
label_notes None before = []
label_notes (Some n) before = Defines n before ∷ []

abbrev pub cell_notes : CellTree → List Token → List Note
cell_notes c before =
    label_notes c.label before
    ++ instruction_notes c.instruction (before ++ spelled_label c.label [])

-- the notes of a row's cell of this number
abbrev pub nth_notes : ℕ → List Token → List CellTree → List Note
nth_notes k before [] = []
nth_notes zero before (c ∷ cs) = cell_notes c before
nth_notes (suc k) before (c ∷ cs) = nth_notes k (before ++ spelled_cell c (tokens.Mark Bar ∷ [])) cs

-- the notes of the thread of this number, in the order of its cells
abbrev pub column_notes : ℕ → List Token → List RowTree → List Note
column_notes k before [] = []
column_notes k before (r ∷ rs) =
    nth_notes k before (r.first ∷ r.others)
    ++ column_notes k (before ++ spelled_rows (r ∷ []) []) rs

-- the notes of a thread that is a text of its own
abbrev pub thread_notes : List Token → List CellTree → List Note
thread_notes before [] = []
thread_notes before (c ∷ cs) =
    cell_notes c before ++ thread_notes (before ++ spelled_cell c (tokens.Mark Semicolon ∷ [])) cs

abbrev pub is_in : List ℕ → List (List ℕ) → Bool
is_in w [] = false
is_in w (v ∷ vs) = bytes_eq v w || is_in w vs

abbrev pub defined : List Note → List (List ℕ)
defined [] = []
defined (Defines w before ∷ ns) = w ∷ defined ns
defined (Branches w before ∷ ns) = defined ns

-- above are the labels so far
abbrev pub late_notes : List (List ℕ) → List Note → Option Late
late_notes above [] = None
late_notes above (Defines w before ∷ ns) =
    if is_in w above then Some (record { rule = rules.Label; before = before })
    else late_notes (w ∷ above) ns
late_notes above (Branches w before ∷ ns) =
    if is_in w above then Some (record { rule = rules.BackwardBranch; before = before }) else (
    if is_in w (defined ns) then late_notes above ns
    else Some (record { rule = rules.Label; before = before }))

-- the notes of the threads from this number on, in their order
abbrev pub columns_notes : ℕ → ℕ → List Token → List RowTree → List (List Note)
columns_notes k zero before rs = []
columns_notes k (suc n) before rs = column_notes k before rs ∷ columns_notes (k + 1) n before rs

-- thread by thread
abbrev pub first_late : List (List Note) → Option Late
first_late [] = None
first_late (ns ∷ nss) = or_else (late_notes [] ns) (first_late nss)

abbrev pub late_columns : ℕ → ℕ → List Token → List RowTree → Option Late
late_columns k n before rs = first_late (columns_notes k n before rs)
