-- What the values and states of the code are in the definitions. Read next: Runs of
-- plain_runs.
use Rattle.std.specs.Prelude.{map}
use Rattle.text_values.specs.declared.test.Place as text
use Rattle.text_values.specs.declared.test.Place.TheVariants as places
use Rattle.meaning.specs.Machine as machine
use Rattle.plain_machine.specs.declared.value.Value.{Value}
use Rattle.plain_machine.specs.declared.value.Value.TheVariants.{Number, Address, NoValue}
use Rattle.plain_machine.specs.declared.value.Comparison.{Comparison}
use Rattle.plain_machine.specs.declared.value.Comparison.TheVariants.{Less, Equal, Greater, Unlike}
use Rattle.plain_machine.specs.declared.state.State.{State}
use Rattle.plain_machine.specs.declared.start.Observable.{Observable}
use Rattle.plain_machine.specs.declared.start.Observable.TheVariants as observables

abbrev pub value_as : Value → machine.Value
value_as (Number n) = machine.Number n
value_as (Address l) = machine.Address l.now
value_as NoValue = machine.NoValue

abbrev pub comparison_as : Comparison → machine.Comparison
comparison_as Less = machine.Less
comparison_as Equal = machine.Equal
comparison_as Greater = machine.Greater
comparison_as Unlike = machine.Unlike

abbrev pub state_as : State → machine.State
state_as s = record {
  registers = map value_as s.registers;
  compared = comparison_as s.compared;
}

abbrev pub observable_as : Observable → text.Place
observable_as (observables.Location l) = places.Location l.now
observable_as (observables.Register t r) = places.Register t r
