-- Numbers of 32 bits: those that a test writes, and those that registers and locations hold at the
-- end of an execution.
use Rattle.std.specs.Prelude.{ℕ, ◌<◌, ◌^◌, All, Contains, FitsSigned}
use Rattle.std.specs.Int.{w32}
use Rattle.text_values.specs.declared.test.Place.{Place}
use Rattle.text_values.specs.declared.test.Place.TheVariants.{Location}
use Rattle.text_values.specs.declared.test.Value as written
use Rattle.text_values.specs.declared.test.Value.TheVariants as texts
use Rattle.text_values.specs.declared.test.Step.{Step}
use Rattle.text_values.specs.declared.test.Step.TheVariants.{Label, Instruction}
use Rattle.text_values.specs.declared.instruction.Instruction as text
use Rattle.text_values.specs.declared.instruction.Instruction.TheVariants.{LoadImmediate}
use Rattle.text_values.specs.TestValue.{Content, Formula, Constant, Holds, Not, Join}
use Rattle.meaning.specs.Names.{Name, locations}
use Rattle.meaning.specs.Machine.{Value, Number, Address, NoValue}
use Rattle.meaning.specs.Executions.{Execution, IsExecution}
use Rattle.meaning.specs.Outcome.{EndsWith}

-- The value is a number of 32 bits, or no number.
abbrev pub IsWord : Value → Type 0
IsWord (Number n) = n < 2 ^ 32
IsWord (Address l) = Unit {0}
IsWord NoValue = Unit {0}

-- A value of the text is a signed number of 32 bits, or no number.
abbrev pub IsWrittenWord : written.Value → Type 0
IsWrittenWord (texts.Number n) = FitsSigned w32 n
IsWrittenWord (texts.Address l) = Unit {0}

-- So is the number that an instruction puts into a register as it is written.
abbrev pub HasWordImmediate : text.Instruction → Type 0
HasWordImmediate (LoadImmediate d n) = FitsSigned w32 n
HasWordImmediate _ = Unit {0}

-- So it is with a line of a thread.
abbrev pub IsStepOfWords : Step → Type 0
IsStepOfWords (Label l) = Unit {0}
IsStepOfWords (Instruction i) = HasWordImmediate i

-- So are the numbers of a proposition.
abbrev pub IsFormulaOfWords : Formula → Type 0
IsFormulaOfWords (Constant b) = Unit {0}
IsFormulaOfWords (Holds p v) = IsWrittenWord v
IsFormulaOfWords (Not a) = IsFormulaOfWords a
IsFormulaOfWords (Join op a b) = IsFormulaOfWords a × IsFormulaOfWords b

-- So are the numbers that a test writes: at the start, in its lines and in its condition.
pub record IsTestOfWords (t : Content) : Type 0 where
  pub start : All (λ e. IsWrittenWord e.value) t.init
  pub lines : All (λ steps. All IsStepOfWords steps) t.threads
  pub condition : IsFormulaOfWords t.condition

-- Then the registers and locations of a test hold no number of more bits, where an execution ends.
abbrev pub NumbersAreWords : Type 0
NumbersAreWords =
    (t : Content) → IsTestOfWords t → (x : Execution) → IsExecution t x → (p : Place) (v : Value)
    → EndsWith t x p v → IsWord v

-- A location of a test holds some value where an execution ends.
abbrev pub LocationsHold : Type 0
LocationsHold =
    (t : Content) (x : Execution) → IsExecution t x → (l : Name) → Contains (locations t) l
    → (v : Value) × EndsWith t x (Location l) v
