use Rattle.std.proofs.Common.{◌≡◌, ◌++◌, drop}
use Rattle.std.specs.Prelude.{codes}
use Rattle.text_values.proofs.Separated.{from}
use Rattle.outcome_states.specs.Text.{state_text}
use Rattle.outcome_states.proofs.HeldTexts.{texts}
use Rattle.outcome_states.proofs.state_text.state_text.Given as goal

abbrev pub invariant-loop-i : goal.invariant-loop-i
invariant-loop-i l =
    l.text.items ++ from (codes " ") l.i (texts l.locations (drop l.i l.observables) (drop l.i l.values))
    ≡ state_text l.locations l.observables l.values
