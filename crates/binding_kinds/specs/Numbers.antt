-- The numbers that faults are printed with.
use Rattle.std.specs.Prelude.{ℕ}
use Rattle.binding_kinds.specs.declared.fault.ModelFault.{ModelFault}
use Rattle.binding_kinds.specs.declared.fault.ModelFault.TheVariants as faults

abbrev pub number : ModelFault → ℕ
number faults.Unbound = 1
number faults.Kind = 2
number faults.NotMonotone = 3
number faults.Duplicate = 4
number faults.SetInRec = 5
number faults.Arity = 6
number faults.TooLarge = 7
