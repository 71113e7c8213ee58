-- Whether an execution meets the checks and flags of a model is decided. Read it after Evaluates of
-- meaning/specs.
use Rattle.std.specs.Prelude.{ℕ, ◌≡◌, List, []}
use Rattle.text_values.specs.TestValue.{Content}
use Rattle.text_values.specs.ModelValue.{Clause}
use Rattle.meaning.specs.Executions.{Execution, IsEvent}
use Rattle.meaning.specs.Cat.{AreMet}
use Rattle.meaning.specs.Faults.{faults}
use Rattle.meaning.specs.Evaluates.{outermost, MeetsFlag}
use Rattle.meanings_exist.specs.CycleLaws.{IsDecided}

-- Whether an execution meets all checks of a model without faults.
abbrev pub ChecksAreDecided : Type 0
ChecksAreDecided =
    (t : Content) (x : Execution) (items : List Clause) → faults items ≡ []
    → IsDecided (AreMet (IsEvent t x) (outermost t x) items)

-- Whether it meets the check of the flag at an index.
abbrev pub FlagsAreDecided : Type 0
FlagsAreDecided =
    (t : Content) (x : Execution) (items : List Clause) (i : ℕ) → faults items ≡ []
    → IsDecided (MeetsFlag t items i x)
