use Rattle.std.proofs.Common.{◌≡◌, ◌++◌, take}
use Rattle.std.specs.List.{flat_map}
use Rattle.outcome_texts.specs.Differences.{has_other_count}
use Rattle.outcome_lines.specs.Tab.{other_counts_line}
use Rattle.outcome_lines.proofs.tab_difference.put_each_counts.Given as goal

abbrev pub invariant-loop-state : goal.invariant-loop-state
invariant-loop-state l =
    l.text.items
    ≡ l.initial.text.items ++ flat_map (λ s. other_counts_line l.path l.test (has_other_count s) s) (take l.state-index l.states)
