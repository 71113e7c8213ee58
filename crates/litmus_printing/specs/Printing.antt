-- The text of a test.
use Rattle.std.specs.Prelude.{ℕ, zero, suc, ◌+◌, max, List, [], ◌∷◌, ◌++◌, map, length, Bool, true, false, nat_lt, codes}
use Rattle.std.specs.Fmt.{decimal, signed_decimal}
use Rattle.text_values.specs.Joined.{joined, bracketed}
use Rattle.text_values.specs.declared.instruction.Instruction.{Instruction}
use Rattle.text_values.specs.declared.instruction.Instruction.TheVariants as instructions
use Rattle.text_values.specs.declared.instruction.Operation.{Operation}
use Rattle.text_values.specs.declared.instruction.Operation.TheVariants as operations
use Rattle.text_values.specs.declared.instruction.BranchCondition.{BranchCondition}
use Rattle.text_values.specs.declared.instruction.BranchCondition.TheVariants as branches
use Rattle.text_values.specs.declared.instruction.Fence as fence
use Rattle.text_values.specs.declared.instruction.Fence.TheVariants as fences
use Rattle.text_values.specs.declared.test.Place.{Place}
use Rattle.text_values.specs.declared.test.Place.TheVariants as places
use Rattle.text_values.specs.declared.test.Value as declared_value
use Rattle.text_values.specs.declared.test.Value.TheVariants as values
use Rattle.text_values.specs.declared.test.InitEntry.{InitEntry}
use Rattle.text_values.specs.declared.test.Step.{Step}
use Rattle.text_values.specs.declared.test.Step.TheVariants as steps
use Rattle.text_values.specs.declared.test.Quantifier.{Quantifier}
use Rattle.text_values.specs.declared.test.Quantifier.TheVariants.{Exists, NotExists, Forall}
use Rattle.text_values.specs.declared.test.Connective.{Connective}
use Rattle.text_values.specs.declared.test.Connective.TheVariants as connectives
use Rattle.text_values.specs.TestValue.{Formula, Constant, Holds, Not, Join, Content, level}

abbrev pub line : List ℕ → List ℕ
line text = text ++ 10 ∷ []

abbrev pub all_of : List (List ℕ) → List ℕ
all_of [] = []
all_of (t ∷ ts) = t ++ all_of ts

-- ---- places and values

abbrev pub register_text : ℕ → List ℕ
register_text r = codes "r" ++ decimal r

abbrev pub value_text : declared_value.Value → List ℕ
value_text (values.Number n) = signed_decimal n
value_text (values.Address x) = x

-- a location stands without brackets in the init block, and in brackets elsewhere
abbrev pub bare_text : Place → List ℕ
bare_text (places.Location x) = x
bare_text (places.Register t r) = decimal t ++ (codes ":" ++ register_text r)

abbrev pub place_text : Place → List ℕ
place_text (places.Location x) = codes "[" ++ (x ++ codes "]")
place_text (places.Register t r) = decimal t ++ (codes ":" ++ register_text r)

abbrev pub entry_text : InitEntry → List ℕ
entry_text e = bare_text e.place ++ (codes "=" ++ (value_text e.value ++ codes ";"))

-- ---- instructions

abbrev pub operation_text : Operation → List ℕ
operation_text operations.Add = codes "add"
operation_text operations.SubtractFrom = codes "subf"
operation_text operations.Xor = codes "xor"
operation_text operations.Or = codes "or"
operation_text operations.And = codes "and"

abbrev pub branch_text : BranchCondition → List ℕ
branch_text branches.Equal = codes "beq"
branch_text branches.NotEqual = codes "bne"
branch_text branches.Less = codes "blt"
branch_text branches.Greater = codes "bgt"
branch_text branches.LessOrEqual = codes "ble"
branch_text branches.GreaterOrEqual = codes "bge"

abbrev pub fence_text : fence.Fence → List ℕ
fence_text fences.Sync = codes "sync"
fence_text fences.LightweightSync = codes "lwsync"
fence_text fences.Eieio = codes "eieio"
fence_text fences.Isync = codes "isync"

abbrev pub operands_text : List ℕ → List (List ℕ) → List ℕ
operands_text word operands = word ++ (codes " " ++ joined (codes ",") operands)

abbrev pub based_text : ℕ → List ℕ
based_text base = codes "0(" ++ (register_text base ++ codes ")")

abbrev pub instruction_text : Instruction → List ℕ
instruction_text (instructions.LoadImmediate d n) =
    operands_text (codes "li") (register_text d ∷ signed_decimal n ∷ [])
instruction_text (instructions.Move d s) =
    operands_text (codes "mr") (register_text d ∷ register_text s ∷ [])
instruction_text (instructions.AddImmediate d a n) =
    operands_text (codes "addi") (register_text d ∷ register_text a ∷ signed_decimal n ∷ [])
instruction_text (instructions.Compute op d a b) =
    operands_text (operation_text op) (register_text d ∷ register_text a ∷ register_text b ∷ [])
instruction_text (instructions.Load d a) =
    operands_text (codes "lwz") (register_text d ∷ based_text a ∷ [])
instruction_text (instructions.LoadIndexed d a b) =
    operands_text (codes "lwzx") (register_text d ∷ register_text a ∷ register_text b ∷ [])
instruction_text (instructions.Store s a) =
    operands_text (codes "stw") (register_text s ∷ based_text a ∷ [])
instruction_text (instructions.StoreIndexed s a b) =
    operands_text (codes "stwx") (register_text s ∷ register_text a ∷ register_text b ∷ [])
instruction_text (instructions.Compare a b) =
    operands_text (codes "cmpw") (register_text a ∷ register_text b ∷ [])
instruction_text (instructions.CompareImmediate a n) =
    operands_text (codes "cmpwi") (register_text a ∷ signed_decimal n ∷ [])
instruction_text (instructions.BranchIf c l) = operands_text (branch_text c) (l ∷ [])
instruction_text (instructions.Branch l) = operands_text (codes "b") (l ∷ [])
instruction_text (instructions.Fence f) = fence_text f

-- ---- conditions

abbrev pub connective_text : Connective → List ℕ
connective_text connectives.And = 32 ∷ 47 ∷ 92 ∷ 32 ∷ []
connective_text connectives.Or = 32 ∷ 92 ∷ 47 ∷ 32 ∷ []
connective_text connectives.Implies = codes " => "

-- a left operand stands alone where its operator is tighter, a right one where it is the same too
abbrev pub is_loose : ℕ → Formula → Bool
is_loose least (Join op a b) = nat_lt (level op) least
is_loose least f = false

abbrev pub formula_text : Formula → List ℕ
formula_text (Constant true) = codes "true"
formula_text (Constant false) = codes "false"
formula_text (Holds p v) = place_text p ++ (codes "=" ++ value_text v)
formula_text (Not a) = codes "not (" ++ (formula_text a ++ codes ")")
formula_text (Join op a b) =
    bracketed (is_loose (level op + 1) a) (formula_text a)
    ++ (connective_text op ++ bracketed (is_loose (level op) b) (formula_text b))

abbrev pub quantifier_text : Quantifier → List ℕ
quantifier_text Exists = codes "exists"
quantifier_text NotExists = codes "~exists"
quantifier_text Forall = codes "forall"

abbrev pub condition_text : Quantifier → Formula → List ℕ
condition_text q f = quantifier_text q ++ (codes " (" ++ (formula_text f ++ codes ")"))

-- ---- the table

abbrev pub step_text : Step → List ℕ
step_text (steps.Label l) = l ++ codes ":"
step_text (steps.Instruction i) = instruction_text i

-- the cell of a thread in the row of this number, empty once the thread has ended
abbrev pub cell_text : ℕ → List Step → List ℕ
cell_text k [] = []
cell_text zero (s ∷ ss) = step_text s
cell_text (suc k) (s ∷ ss) = cell_text k ss

abbrev pub row_text : List (List ℕ) → List ℕ
row_text cells = line (joined (codes " | ") cells ++ codes " ;")

-- so many rows, from this number on
abbrev pub rows_text : ℕ → ℕ → List (List Step) → List ℕ
rows_text k zero threads = []
rows_text k (suc n) threads = row_text (map (cell_text k) threads) ++ rows_text (k + 1) n threads

abbrev pub longest : List (List Step) → ℕ
longest [] = 0
longest (t ∷ ts) = max (length t) (longest ts)

-- the names of so many columns, from this number on
abbrev pub names : ℕ → ℕ → List (List ℕ)
names k zero = []
names k (suc n) = (codes "P" ++ decimal k) ∷ names (k + 1) n

abbrev pub table_text : List (List Step) → List ℕ
table_text threads = row_text (names 0 (length threads)) ++ rows_text 0 (longest threads) threads

-- ---- tests

abbrev pub item_text : Place → List ℕ
item_text p = place_text p ++ codes ";"

abbrev pub observed_text : List Place → List ℕ
observed_text [] = []
observed_text (p ∷ ps) =
    line (codes "locations [" ++ (joined (codes " ") (map item_text (p ∷ ps)) ++ codes "]"))

abbrev pub entry_line : InitEntry → List ℕ
entry_line e = line (entry_text e)

abbrev pub printed : Content → List ℕ
printed v =
    line (codes "PPC " ++ v.name) ++ (line (codes "{") ++ (all_of (map entry_line v.init)
    ++ (line (codes "}") ++ (
    table_text v.threads
    ++ (observed_text v.observed ++ line (condition_text v.quantifier v.condition))))))
