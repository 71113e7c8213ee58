-- How the reader goes from token to token through a table. The grammar does not rest on it.
use Rattle.std.specs.Prelude.{ℕ, zero, suc, ◌+◌, List, [], ◌∷◌, ◌++◌, Bool, true, false, ◌&&◌, ◌==◌, not, nat_le, Option, Some, None, length, ℤ, pos, if◌then◌else◌}
use Rattle.litmus_tokens.specs.declared.rule.LitmusRule.{LitmusRule}
use Rattle.litmus_tokens.specs.declared.rule.LitmusRule.TheVariants as rules
use Rattle.litmus_tokens.specs.declared.token.Token.{Token}
use Rattle.litmus_tokens.specs.declared.token.Token.TheVariants as tokens
use Rattle.litmus_tokens.specs.declared.token.Mark.TheVariants.{Semicolon, Bar}
use Rattle.litmus_tokens.specs.Words.{is_filter, is_register, names_column, register_of, or_zero, is_int, int_of}
use Rattle.text_values.specs.declared.instruction.BranchCondition.{BranchCondition}
use Rattle.text_values.specs.declared.instruction.Instruction.{Instruction}
use Rattle.text_values.specs.declared.instruction.Instruction.TheVariants as instructions
use Rattle.text_values.specs.declared.test.Step.{Step}
use Rattle.text_values.specs.declared.test.Step.TheVariants as steps
use Rattle.litmus_words.specs.declared.opcode.DataOpcode.{DataOpcode}
use Rattle.litmus_words.specs.declared.opcode.Opcode.{Opcode}
use Rattle.litmus_words.specs.declared.opcode.Opcode.TheVariants as opcodes
use Rattle.litmus_words.specs.declared.opcode.Want.{Want}
use Rattle.litmus_words.specs.declared.opcode.Want.TheVariants as wants
use Rattle.litmus_words.specs.Words.{opcode_of, data_form, token_fits, data_meaning, branch_meaning}

-- the steps of a thread, with the byte of each label and of the label that each branch names
pub record ThreadSteps : Type 0 where
  pub steps : List Step
  pub offsets : List ℕ

-- an instruction of which a part was read: what it still wants, and what it has
pub record Pending : Type 0 where
  pub opcode : DataOpcode
  pub wants : List Want
  pub registers : List ℕ
  pub value : ℤ

-- where in a cell the reader stands
pub data CellExpectation : Type 0 where
  Begins : CellExpectation
  Labelled : CellExpectation
  InInstruction : (pending : Pending) → CellExpectation
  WantsLabel : (condition : Option BranchCondition) → CellExpectation
  Whole : CellExpectation

-- the threads so far, and the number of the one whose cell is read
pub record TableState : Type 0 where
  pub threads : List ThreadSteps
  pub column : ℕ
  pub expected : CellExpectation

-- ---- instructions

abbrev pub empty_pending : DataOpcode → Pending
empty_pending op = record { opcode = op; wants = data_form op; registers = []; value = pos 0 }

abbrev pub registers_with : Token → List ℕ → List ℕ
registers_with (tokens.Word w) rs = rs ++ or_zero (register_of w) ∷ []
registers_with t rs = rs

abbrev pub or_value : Option ℤ → ℤ → ℤ
or_value (Some n) old = n
or_value None old = old

abbrev pub value_with : Token → ℤ → ℤ
value_with (tokens.Number negative ds) n = or_value (int_of negative ds) n
value_with t n = n

abbrev pub pending_with : Pending → List Want → Token → Pending
pending_with p ws t =
    record {
      opcode = p.opcode;
      wants = ws;
      registers = registers_with t p.registers;
      value = value_with t p.value;
    }

abbrev pub first_of : List Want → Option Want
first_of [] = None
first_of (w ∷ ws) = Some w

abbrev pub rest_of : List Want → List Want
rest_of [] = []
rest_of (w ∷ ws) = ws

-- a token that an instruction wants
abbrev pub pending_as : Pending → Option Want → Token → Option Pending
pending_as p None t = None
pending_as p (Some w) t = if token_fits w t then Some (pending_with p (rest_of p.wants) t) else None

abbrev pub pending_after : Pending → Token → Option Pending
pending_after p t = pending_as p (first_of p.wants) t

abbrev pub instruction_of : Pending → Instruction
instruction_of p = data_meaning p.opcode p.registers p.value

-- ---- cells

abbrev pub noted : Step → ℕ → ThreadSteps → ThreadSteps
noted s offset t = record { steps = t.steps ++ s ∷ []; offsets = t.offsets ++ offset ∷ [] }

-- a step more in the thread of this number
abbrev pub put_at : ℕ → Step → ℕ → List ThreadSteps → List ThreadSteps
put_at k s offset [] = []
put_at zero s offset (t ∷ ts) = noted s offset t ∷ ts
put_at (suc k) s offset (t ∷ ts) = t ∷ put_at k s offset ts

abbrev pub at : List ThreadSteps → ℕ → CellExpectation → Option TableState
at threads column expected =
    Some (record { threads = threads; column = column; expected = expected })

abbrev pub finished : List ThreadSteps → ℕ → Instruction → ℕ → Option TableState
finished threads column i offset =
    at (put_at column (steps.Instruction i) offset threads) column Whole

abbrev pub is_last : List ThreadSteps → ℕ → Bool
is_last threads column = nat_le (length threads) (column + 1)

-- a token behind a cell that is whole
abbrev pub table_ended : List ThreadSteps → ℕ → Token → Option TableState
table_ended threads column (tokens.Mark Semicolon) =
    if is_last threads column then at threads 0 Begins else None
table_ended threads column (tokens.Mark Bar) =
    if is_last threads column then None else at threads (column + 1) Begins
table_ended threads column t = None

abbrev pub operation : List ThreadSteps → ℕ → ℕ → Option Opcode → Option TableState
operation threads column offset (Some (opcodes.Data op)) =
    at threads column (InInstruction (empty_pending op))
operation threads column offset (Some (opcodes.Branch condition)) =
    at threads column (WantsLabel condition)
operation threads column offset (Some (opcodes.Fence f)) =
    finished threads column (instructions.Fence f) offset
operation threads column offset None = None

-- a token where an instruction may begin, or the cell may end
abbrev pub begin_instruction : List ThreadSteps → ℕ → Token → ℕ → Option TableState
begin_instruction threads column (tokens.Word w) offset = operation threads column offset (opcode_of w)
begin_instruction threads column t offset = table_ended threads column t

-- a token where a cell begins
abbrev pub cell : List ThreadSteps → ℕ → Token → ℕ → Option TableState
cell threads column (tokens.Label w) offset =
    at (put_at column (steps.Label w) offset threads) column Labelled
cell threads column t offset = begin_instruction threads column t offset

-- an instruction ends with what it wants
abbrev pub goes_on : List ThreadSteps → ℕ → Pending → Option Want → ℕ → Option TableState
goes_on threads column p None offset = finished threads column (instruction_of p) offset
goes_on threads column p (Some w) offset = at threads column (InInstruction p)

abbrev pub operand : List ThreadSteps → ℕ → Option Pending → ℕ → Option TableState
operand threads column (Some p) offset = goes_on threads column p (first_of p.wants) offset
operand threads column None offset = None

-- the label that a branch names
abbrev pub target_read : List ThreadSteps → ℕ → Option BranchCondition → Token → ℕ → Option TableState
target_read threads column condition (tokens.Word w) offset =
    finished threads column (branch_meaning condition w) offset
target_read threads column condition t offset = None

abbrev pub expected_step : List ThreadSteps → ℕ → CellExpectation → Token → ℕ → Option TableState
expected_step threads column Begins t offset = cell threads column t offset
expected_step threads column Labelled t offset = begin_instruction threads column t offset
expected_step threads column (InInstruction p) t offset = operand threads column (pending_after p t) offset
expected_step threads column (WantsLabel condition) t offset =
    target_read threads column condition t offset
expected_step threads column Whole t offset = table_ended threads column t

-- a token that stands at this byte
abbrev pub table_step : TableState → Token → ℕ → Option TableState
table_step s t offset = expected_step s.threads s.column s.expected t offset

-- ---- the header

abbrev pub fresh : ThreadSteps
fresh = record { steps = []; offsets = [] }

abbrev pub widened : TableState → TableState
widened s = record { threads = s.threads ++ fresh ∷ []; column = s.column; expected = s.expected }

-- the name of the next thread
abbrev pub name_thread : TableState → Token → Option TableState
name_thread s (tokens.Word w) = if names_column (length s.threads) w then Some (widened s) else None
name_thread s t = None

-- ---- where the reader stands, and the rule that a refused token breaks

abbrev pub is_begin : CellExpectation → Bool
is_begin Begins = true
is_begin h = false

abbrev pub is_row_start : TableState → Bool
is_row_start s = s.column == 0 && is_begin s.expected

abbrev pub can_end : CellExpectation → Bool
can_end Begins = true
can_end Labelled = true
can_end (InInstruction p) = false
can_end (WantsLabel condition) = false
can_end Whole = true

-- what is wanted within an instruction
abbrev pub wanted : CellExpectation → Option Want
wanted (InInstruction p) = first_of p.wants
wanted h = None

abbrev pub is_base : Option Want → Bool
is_base (Some wants.Base) = true
is_base w = false

abbrev pub is_zero : Option Want → Bool
is_zero (Some wants.Zero) = true
is_zero w = false

abbrev pub rule_of_word : Bool → TableState → List ℕ → LitmusRule
rule_of_word alone s w =
    if is_row_start s && not alone && is_filter w then rules.Filter else (
    if is_base (wanted s.expected) && is_register w then rules.ZeroBase else rules.Instruction)

abbrev pub separator_rule : CellExpectation → LitmusRule
separator_rule h = if can_end h then rules.Columns else rules.Instruction

-- the rule that a token breaks which cannot stand here, in a table or in the text of a thread alone
abbrev pub table_rule_at : Bool → TableState → Token → LitmusRule
table_rule_at alone s (tokens.Mark Semicolon) = separator_rule s.expected
table_rule_at alone s (tokens.Mark Bar) = separator_rule s.expected
table_rule_at alone s (tokens.Word w) = rule_of_word alone s w
table_rule_at alone s (tokens.Number negative ds) =
    if is_zero (wanted s.expected) && is_int negative ds then rules.Offset else rules.Instruction
table_rule_at alone s t = rules.Instruction

-- ---- a table of no thread

abbrev pub table_start : TableState
table_start = record { threads = []; column = 0; expected = Begins }
