-- What a clause sees of a token of a store, cited by each call of `Store` and `Token`; the numbers
-- of refusals.
use Rattle.std.specs.Prelude.{ℕ, Option, Some, None}
use Rattle.value_store.specs.declared.fault.StoreFault.{StoreFault}
use Rattle.value_store.specs.declared.fault.StoreFault.TheVariants.{StoreFull, OutOfMemory}

-- the index of a value in its store, and the value
pub record TokenShown (V : Type 0) : Type 0 where
  pub index : ℕ
  pub value : V

-- the number that a refusal is printed with, if it has one
abbrev pub store_fault_number : StoreFault → Option ℕ
store_fault_number StoreFull = Some 1
store_fault_number OutOfMemory = None
