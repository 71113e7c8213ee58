-- What of a test is finite, and what is decided. Read it after Refusals of meaning/specs.
use Rattle.std.specs.Prelude.{ℕ, ◌⊎◌, List}
use Rattle.text_values.specs.TestValue.{Content}
use Rattle.meaning.specs.Sets.{IsListOf}
use Rattle.meaning.specs.Machine.{Value}
use Rattle.meaning.specs.Domain.{InRound}
use Rattle.meaning.specs.Executions.{Execution, IsExecution}
use Rattle.meaning.specs.Refusals.{Refusal, IsRefusal, IsAccepted}

-- The values after each round are a list.
abbrev pub RoundsAreListed : Type 0
RoundsAreListed =
    (t : Content) (k : ℕ) → (vs : List Value) × IsListOf (λ v. InRound t k v) vs

-- The executions of a test are a list.
abbrev pub ExecutionsAreListed : Type 0
ExecutionsAreListed = (t : Content) → (xs : List Execution) × IsListOf (IsExecution t) xs

-- A test is refused or accepted.
abbrev pub TestsAreDecided : Type 0
TestsAreDecided = (t : Content) → ((r : Refusal) × IsRefusal t r) ⊎ IsAccepted t
