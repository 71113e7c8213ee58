-- Instructions of one shape and one label are equal: the instruction can be read off.
use Rattle.std.proofs.Common.{◌≡◌, ℕ, List, [], Option, ◌==◌, if◌then◌else◌, refl, sym, ap, ◌∙◌, unwrap_or}
use Rattle.text_values.specs.declared.instruction.Instruction.{Instruction}
use Rattle.text_values.specs.declared.instruction.Instruction.TheVariants as instructions
use Rattle.text_values.specs.declared.instruction.Operation.{Operation}
use Rattle.text_values.specs.declared.instruction.Operation.TheVariants as operations
use Rattle.text_values.specs.declared.instruction.BranchCondition.{BranchCondition}
use Rattle.text_values.specs.declared.instruction.BranchCondition.TheVariants as branches
use Rattle.text_values.specs.declared.instruction.Fence.{Fence}
use Rattle.text_values.specs.declared.instruction.Fence.TheVariants as fences
use Rattle.text_equality.specs.declared.shapes.Shape.{Shape}
use Rattle.text_equality.specs.Shapes.{shape_of, label_of}

abbrev operation_of : ℕ → Operation
operation_of n =
    if n == 0 then operations.Add
    else (if n == 1 then operations.SubtractFrom
    else (if n == 2 then operations.Xor
    else (if n == 3 then operations.Or else (operations.And))))

abbrev condition_of : ℕ → BranchCondition
condition_of n =
    if n == 0 then branches.Equal
    else (if n == 1 then branches.NotEqual
    else (if n == 2 then branches.Less
    else (if n == 3 then branches.Greater
    else (if n == 4 then branches.LessOrEqual else (branches.GreaterOrEqual)))))

abbrev fence_of : ℕ → Fence
fence_of n =
    if n == 0 then fences.Sync
    else (if n == 1 then fences.LightweightSync
    else (if n == 2 then fences.Eieio else (fences.Isync)))

abbrev instruction_of : Shape → Option (List ℕ) → Instruction
instruction_of s label =
    if s.kind == 0 then instructions.LoadImmediate s.first s.value
    else (if s.kind == 1 then instructions.Move s.first s.second
    else (if s.kind == 2 then instructions.AddImmediate s.first s.second s.value
    else (if s.kind == 3 then instructions.Compute (operation_of s.word) s.first s.second s.third
    else (if s.kind == 4 then instructions.Load s.first s.second
    else (if s.kind == 5 then instructions.LoadIndexed s.first s.second s.third
    else (if s.kind == 6 then instructions.Store s.first s.second
    else (if s.kind == 7 then instructions.StoreIndexed s.first s.second s.third
    else (if s.kind == 8 then instructions.Compare s.first s.second
    else (if s.kind == 9 then instructions.CompareImmediate s.first s.value
    else (if s.kind == 10 then instructions.BranchIf (condition_of s.word) (unwrap_or label [])
    else (if s.kind == 11 then instructions.Branch (unwrap_or label [])
    else (instructions.Fence (fence_of s.word)))))))))))))

read_off : (i : Instruction) → instruction_of (shape_of i) (label_of i) ≡ i
read_off (instructions.LoadImmediate target value) = refl
read_off (instructions.Move target source) = refl
read_off (instructions.AddImmediate target left value) = refl
read_off (instructions.Compute operations.Add target left right) = refl
read_off (instructions.Compute operations.SubtractFrom target left right) = refl
read_off (instructions.Compute operations.Xor target left right) = refl
read_off (instructions.Compute operations.Or target left right) = refl
read_off (instructions.Compute operations.And target left right) = refl
read_off (instructions.Load target base) = refl
read_off (instructions.LoadIndexed target base index) = refl
read_off (instructions.Store source base) = refl
read_off (instructions.StoreIndexed source base index) = refl
read_off (instructions.Compare left right) = refl
read_off (instructions.CompareImmediate left value) = refl
read_off (instructions.BranchIf branches.Equal label) = refl
read_off (instructions.BranchIf branches.NotEqual label) = refl
read_off (instructions.BranchIf branches.Less label) = refl
read_off (instructions.BranchIf branches.Greater label) = refl
read_off (instructions.BranchIf branches.LessOrEqual label) = refl
read_off (instructions.BranchIf branches.GreaterOrEqual label) = refl
read_off (instructions.Branch label) = refl
read_off (instructions.Fence fences.Sync) = refl
read_off (instructions.Fence fences.LightweightSync) = refl
read_off (instructions.Fence fences.Eieio) = refl
read_off (instructions.Fence fences.Isync) = refl

pub same_instructions : (i j : Instruction) → shape_of i ≡ shape_of j → label_of i ≡ label_of j
    → i ≡ j
same_instructions i j s l =
    sym (read_off i)
    ∙ (ap (λ x. instruction_of x (label_of i)) s
    ∙ (ap (λ x. instruction_of (shape_of j) x) l ∙ read_off j))
