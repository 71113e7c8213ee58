use Rattle.std.proofs.Common.{◌≡◌, ◌++◌, drop}
use Rattle.std.specs.Prelude.{codes, map}
use Rattle.text_values.specs.Joined.{joined}
use Rattle.text_values.proofs.Separated.{from}
use Rattle.outcome_lines.specs.Json.{state_object}
use Rattle.outcome_lines.proofs.json.put_states.Given as goal

abbrev pub invariant-loop-index : goal.invariant-loop-index
invariant-loop-index l =
    l.text.items ++ from (codes ",") l.index (map state_object (drop l.index l.states))
    ≡ l.initial.text.items ++ joined (codes ",") (map state_object l.states)
