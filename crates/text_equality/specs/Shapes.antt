-- An instruction is known by its shape and its label: which kind it is, which operation, condition
-- or fence, its registers and its number.
use Rattle.std.specs.Prelude.{ℕ, List, Option, Some, None, ℤ, pos}
use Rattle.text_values.specs.declared.instruction.Instruction.{Instruction}
use Rattle.text_values.specs.declared.instruction.Instruction.TheVariants as instructions
use Rattle.text_values.specs.declared.instruction.Operation.{Operation}
use Rattle.text_values.specs.declared.instruction.Operation.TheVariants as operations
use Rattle.text_values.specs.declared.instruction.BranchCondition.{BranchCondition}
use Rattle.text_values.specs.declared.instruction.BranchCondition.TheVariants as branches
use Rattle.text_values.specs.declared.instruction.Fence.{Fence}
use Rattle.text_values.specs.declared.instruction.Fence.TheVariants as fences
use Rattle.text_equality.specs.declared.shapes.Shape.{Shape}

abbrev pub operation_number : Operation → ℕ
operation_number operations.Add = 0
operation_number operations.SubtractFrom = 1
operation_number operations.Xor = 2
operation_number operations.Or = 3
operation_number operations.And = 4

abbrev pub condition_number : BranchCondition → ℕ
condition_number branches.Equal = 0
condition_number branches.NotEqual = 1
condition_number branches.Less = 2
condition_number branches.Greater = 3
condition_number branches.LessOrEqual = 4
condition_number branches.GreaterOrEqual = 5

abbrev pub fence_number : Fence → ℕ
fence_number fences.Sync = 0
fence_number fences.LightweightSync = 1
fence_number fences.Eieio = 2
fence_number fences.Isync = 3

abbrev pub shape : ℕ → ℕ → ℕ → ℕ → ℕ → ℤ → Shape
shape kind word first second third value =
    record {
      kind = kind;
      word = word;
      first = first;
      second = second;
      third = third;
      value = value;
    }

abbrev pub shape_of : Instruction → Shape
shape_of (instructions.LoadImmediate target value) = shape 0 0 target 0 0 value
shape_of (instructions.Move target source) = shape 1 0 target source 0 (pos 0)
shape_of (instructions.AddImmediate target left value) = shape 2 0 target left 0 value
shape_of (instructions.Compute operation target left right) =
    shape 3 (operation_number operation) target left right (pos 0)
shape_of (instructions.Load target base) = shape 4 0 target base 0 (pos 0)
shape_of (instructions.LoadIndexed target base index) = shape 5 0 target base index (pos 0)
shape_of (instructions.Store source base) = shape 6 0 source base 0 (pos 0)
shape_of (instructions.StoreIndexed source base index) = shape 7 0 source base index (pos 0)
shape_of (instructions.Compare left right) = shape 8 0 left right 0 (pos 0)
shape_of (instructions.CompareImmediate left value) = shape 9 0 left 0 0 value
shape_of (instructions.BranchIf condition label) =
    shape 10 (condition_number condition) 0 0 0 (pos 0)
shape_of (instructions.Branch label) = shape 11 0 0 0 0 (pos 0)
shape_of (instructions.Fence fence) = shape 12 (fence_number fence) 0 0 0 (pos 0)

abbrev pub label_of : Instruction → Option (List ℕ)
label_of (instructions.LoadImmediate target value) = None
label_of (instructions.Move target source) = None
label_of (instructions.AddImmediate target left value) = None
label_of (instructions.Compute operation target left right) = None
label_of (instructions.Load target base) = None
label_of (instructions.LoadIndexed target base index) = None
label_of (instructions.Store source base) = None
label_of (instructions.StoreIndexed source base index) = None
label_of (instructions.Compare left right) = None
label_of (instructions.CompareImmediate left value) = None
label_of (instructions.BranchIf condition label) = Some label
label_of (instructions.Branch label) = Some label
label_of (instructions.Fence fence) = None
