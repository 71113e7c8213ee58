use Rattle.std.proofs.Common.{◌≡◌, ◌≤◌, ◌++◌, drop}
use Rattle.std.specs.Prelude.{codes, map, filter}
use Rattle.text_values.specs.Joined.{joined}
use Rattle.text_values.proofs.Separated.{from}
use Rattle.outcome_texts.specs.Differences.{has_other_count}
use Rattle.outcome_lines.specs.Json.{counts_object}
use Rattle.outcome_lines.proofs.json_difference.put_each_counts.Given as goal

abbrev pub invariant-loop-state : goal.invariant-loop-state
invariant-loop-state l =
    (l.index ≤ l.state-index)
    × (l.text.items
    ++ from (codes ",") l.index
    (map counts_object (filter has_other_count (drop l.state-index l.states)))
    ≡ l.initial.text.items ++ joined (codes ",") (map counts_object (filter has_other_count l.states)))
