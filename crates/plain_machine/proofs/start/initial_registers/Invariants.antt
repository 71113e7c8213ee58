use Rattle.std.proofs.Common.{◌≡◌, ◌<◌, ℕ, get_or, map, length}
use Rattle.text_values.specs.declared.test.Place.TheVariants as observables
use Rattle.text_values.specs.TestValue.{content_of}
use Rattle.meaning.specs.Machine as machine
use Rattle.meaning.specs.Runs.{initial_value}
use Rattle.plain_machine.specs.Values.{value_as}
use Rattle.plain_machine.proofs.start.initial_registers.Given as goal

abbrev pub invariant-loop-number : goal.invariant-loop-number
invariant-loop-number l = record {
  room : length l.registers ≡ 32;
  filled : (k : ℕ) → k < l.number → get_or (map value_as l.registers) k (machine.Number 0) ≡ initial_value (content_of l.test) (observables.Register l.thread k);
}
