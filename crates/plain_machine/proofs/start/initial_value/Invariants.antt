use Rattle.std.proofs.Common.{◌≡◌, drop}
use Rattle.meaning.specs.Machine as machine
use Rattle.meaning.specs.Runs.{value_given}
use Rattle.plain_machine.specs.Values.{value_as, observable_as}
use Rattle.plain_machine.proofs.start.initial_value.Given as goal

abbrev pub invariant-loop-entry : goal.invariant-loop-entry
invariant-loop-entry l =
    value_given (drop l.entry-index l.entries) (value_as l.value) (observable_as l.observable)
    ≡ value_given l.entries (machine.Number 0) (observable_as l.observable)
