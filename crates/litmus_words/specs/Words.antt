-- The words that begin instructions, what follows each, and what an instruction means.
use Rattle.std.specs.Prelude.{ℕ, List, [], ◌∷◌, Bool, true, false, ◌&&◌, not, Option, Some, None, slice_index, codes, ℤ, pos, if◌then◌else◌}
use Rattle.std.specs.Str.{bytes_eq}
use Rattle.litmus_tokens.specs.Words.{decimal, signed, is_int, is_empty, is_register, register_of, or_zero}
use Rattle.litmus_tokens.specs.declared.token.Token.{Token}
use Rattle.litmus_tokens.specs.declared.token.Token.TheVariants as tokens
use Rattle.litmus_tokens.specs.declared.token.Mark.TheVariants as marks
use Rattle.litmus_tokens.specs.Texts.{are_none}
use Rattle.text_values.specs.declared.instruction.Operation.TheVariants as operations
use Rattle.text_values.specs.declared.instruction.BranchCondition.{BranchCondition}
use Rattle.text_values.specs.declared.instruction.BranchCondition.TheVariants as branches
use Rattle.text_values.specs.declared.instruction.Fence as fence
use Rattle.text_values.specs.declared.instruction.Fence.TheVariants as fences
use Rattle.text_values.specs.declared.instruction.Instruction.{Instruction}
use Rattle.text_values.specs.declared.instruction.Instruction.TheVariants as instructions
use Rattle.litmus_words.specs.declared.opcode.DataOpcode.{DataOpcode}
use Rattle.litmus_words.specs.declared.opcode.DataOpcode.TheVariants as data_opcodes
use Rattle.litmus_words.specs.declared.opcode.Opcode.{Opcode}
use Rattle.litmus_words.specs.declared.opcode.Opcode.TheVariants as opcodes
use Rattle.litmus_words.specs.declared.opcode.Want.{Want}
use Rattle.litmus_words.specs.declared.opcode.Want.TheVariants as wants

-- ---- words

-- an instruction that computes
unfoldable pub computing_of : List ℕ → Option DataOpcode
computing_of w =
    if bytes_eq w (codes "li") then Some data_opcodes.LoadImmediate else (
    if bytes_eq w (codes "mr") then Some data_opcodes.Move else (
    if bytes_eq w (codes "addi") then Some data_opcodes.AddImmediate else (
    if bytes_eq w (codes "add") then Some (data_opcodes.Compute operations.Add) else (
    if bytes_eq w (codes "subf") then Some (data_opcodes.Compute operations.SubtractFrom) else (
    if bytes_eq w (codes "xor") then Some (data_opcodes.Compute operations.Xor) else (
    if bytes_eq w (codes "or") then Some (data_opcodes.Compute operations.Or) else (
    if bytes_eq w (codes "and") then Some (data_opcodes.Compute operations.And) else None)))))))

-- an instruction that reads or writes memory, or compares
unfoldable pub accessing_of : List ℕ → Option DataOpcode
accessing_of w =
    if bytes_eq w (codes "lwz") then Some data_opcodes.Load else (
    if bytes_eq w (codes "lwzx") then Some data_opcodes.LoadIndexed else (
    if bytes_eq w (codes "stw") then Some data_opcodes.Store else (
    if bytes_eq w (codes "stwx") then Some data_opcodes.StoreIndexed else (
    if bytes_eq w (codes "cmpw") then Some data_opcodes.Compare else (
    if bytes_eq w (codes "cmpwi") then Some data_opcodes.CompareImmediate else None)))))

unfoldable pub fence_of : List ℕ → Option fence.Fence
fence_of w =
    if bytes_eq w (codes "sync") then Some fences.Sync else (
    if bytes_eq w (codes "lwsync") then Some fences.LightweightSync else (
    if bytes_eq w (codes "eieio") then Some fences.Eieio else (
    if bytes_eq w (codes "isync") then Some fences.Isync else None)))

-- a branch, with its condition if it has one
unfoldable pub branch_of : List ℕ → Option (Option BranchCondition)
branch_of w =
    if bytes_eq w (codes "beq") then Some (Some branches.Equal) else (
    if bytes_eq w (codes "bne") then Some (Some branches.NotEqual) else (
    if bytes_eq w (codes "blt") then Some (Some branches.Less) else (
    if bytes_eq w (codes "bgt") then Some (Some branches.Greater) else (
    if bytes_eq w (codes "ble") then Some (Some branches.LessOrEqual) else (
    if bytes_eq w (codes "bge") then Some (Some branches.GreaterOrEqual) else (
    if bytes_eq w (codes "b") then Some None else None))))))

abbrev pub as_branch : Option (Option BranchCondition) → Option Opcode
as_branch (Some condition) = Some (opcodes.Branch condition)
as_branch None = None

abbrev pub or_fence : Option fence.Fence → Option Opcode → Option Opcode
or_fence (Some f) other = Some (opcodes.Fence f)
or_fence None other = other

abbrev pub or_data : Option DataOpcode → Option Opcode → Option Opcode
or_data (Some op) other = Some (opcodes.Data op)
or_data None other = other

-- the instruction that a word begins, if it begins one
abbrev pub opcode_of : List ℕ → Option Opcode
opcode_of w =
    or_data (computing_of w) (or_data (accessing_of w)
    (or_fence (fence_of w) (as_branch (branch_of w))))

-- ---- what follows a word

abbrev pub data_form : DataOpcode → List Want
data_form data_opcodes.LoadImmediate = wants.Register ∷ wants.Comma ∷ wants.Immediate ∷ []
data_form data_opcodes.Move = wants.Register ∷ wants.Comma ∷ wants.Register ∷ []
data_form data_opcodes.AddImmediate =
    wants.Register ∷ wants.Comma ∷ wants.Base ∷ wants.Comma ∷ wants.Immediate ∷ []
data_form (data_opcodes.Compute op) =
    wants.Register ∷ wants.Comma ∷ wants.Register ∷ wants.Comma ∷ wants.Register ∷ []
data_form data_opcodes.Load =
    wants.Register ∷ wants.Comma ∷ wants.Zero ∷ wants.Open ∷ wants.Base ∷ wants.Close ∷ []
data_form data_opcodes.LoadIndexed =
    wants.Register ∷ wants.Comma ∷ wants.Base ∷ wants.Comma ∷ wants.Register ∷ []
data_form data_opcodes.Store =
    wants.Register ∷ wants.Comma ∷ wants.Zero ∷ wants.Open ∷ wants.Base ∷ wants.Close ∷ []
data_form data_opcodes.StoreIndexed =
    wants.Register ∷ wants.Comma ∷ wants.Base ∷ wants.Comma ∷ wants.Register ∷ []
data_form data_opcodes.Compare = wants.Register ∷ wants.Comma ∷ wants.Register ∷ []
data_form data_opcodes.CompareImmediate = wants.Register ∷ wants.Comma ∷ wants.Immediate ∷ []

-- a base is a register other than `r0`, and an offset is 0
abbrev pub token_fits : Want → Token → Bool
token_fits wants.Register (tokens.Word w) = is_register w
token_fits wants.Base (tokens.Word w) = is_register w && not (bytes_eq w (codes "r0"))
token_fits wants.Immediate (tokens.Number negative ds) = is_int negative ds
token_fits wants.Zero (tokens.Number negative ds) = is_empty ds
token_fits wants.Comma (tokens.Mark marks.Comma) = true
token_fits wants.Open (tokens.Mark marks.Open) = true
token_fits wants.Close (tokens.Mark marks.Close) = true
token_fits want t = false

-- these tokens are what is wanted, one for one
abbrev pub all_fit : List Want → List Token → Bool
all_fit [] [] = true
all_fit (w ∷ ws) (t ∷ ts) = token_fits w t && all_fit ws ts
all_fit ws ts = false

abbrev pub is_label : List Token → Bool
is_label (tokens.Word w ∷ []) = true
is_label ts = false

-- registers and numbers as the form has them; a label behind a branch; nothing behind a fence
abbrev pub takes_operands : Opcode → List Token → Bool
takes_operands (opcodes.Data op) ts = all_fit (data_form op) ts
takes_operands (opcodes.Branch condition) ts = is_label ts
takes_operands (opcodes.Fence f) ts = are_none ts

-- ---- what an instruction means, of tokens that fit

abbrev pub registers : List Token → List ℕ
registers [] = []
registers (tokens.Word w ∷ ts) = or_zero (register_of w) ∷ registers ts
registers (t ∷ ts) = registers ts

abbrev pub immediate : List Token → ℤ
immediate [] = pos 0
immediate (tokens.Number negative ds ∷ ts) = signed negative (decimal ds)
immediate (t ∷ ts) = immediate ts

abbrev pub target_label : List Token → List ℕ
target_label [] = []
target_label (tokens.Word w ∷ ts) = w
target_label (t ∷ ts) = target_label ts

-- of these registers and this number
abbrev pub data_meaning : DataOpcode → List ℕ → ℤ → Instruction
data_meaning data_opcodes.LoadImmediate rs n = instructions.LoadImmediate (slice_index rs 0) n
data_meaning data_opcodes.Move rs n = instructions.Move (slice_index rs 0) (slice_index rs 1)
data_meaning data_opcodes.AddImmediate rs n =
    instructions.AddImmediate (slice_index rs 0) (slice_index rs 1) n
data_meaning (data_opcodes.Compute op) rs n =
    instructions.Compute op (slice_index rs 0) (slice_index rs 1) (slice_index rs 2)
data_meaning data_opcodes.Load rs n = instructions.Load (slice_index rs 0) (slice_index rs 1)
data_meaning data_opcodes.LoadIndexed rs n =
    instructions.LoadIndexed (slice_index rs 0) (slice_index rs 1) (slice_index rs 2)
data_meaning data_opcodes.Store rs n = instructions.Store (slice_index rs 0) (slice_index rs 1)
data_meaning data_opcodes.StoreIndexed rs n =
    instructions.StoreIndexed (slice_index rs 0) (slice_index rs 1) (slice_index rs 2)
data_meaning data_opcodes.Compare rs n = instructions.Compare (slice_index rs 0) (slice_index rs 1)
data_meaning data_opcodes.CompareImmediate rs n = instructions.CompareImmediate (slice_index rs 0) n

abbrev pub branch_meaning : Option BranchCondition → List ℕ → Instruction
branch_meaning (Some condition) label = instructions.BranchIf condition label
branch_meaning None label = instructions.Branch label

abbrev pub instruction_meaning : Opcode → List Token → Instruction
instruction_meaning (opcodes.Data op) ts = data_meaning op (registers ts) (immediate ts)
instruction_meaning (opcodes.Branch condition) ts = branch_meaning condition (target_label ts)
instruction_meaning (opcodes.Fence f) ts = instructions.Fence f
