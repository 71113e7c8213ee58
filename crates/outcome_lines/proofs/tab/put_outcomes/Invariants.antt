use Rattle.std.proofs.Common.{◌≡◌, ◌++◌, take}
use Rattle.std.specs.List.{flat_map}
use Rattle.outcome_lines.specs.Records.{model_outcome_of}
use Rattle.outcome_lines.specs.Tab.{outcome_line}
use Rattle.outcome_lines.proofs.tab.put_outcomes.Given as goal

abbrev pub invariant-loop-given : goal.invariant-loop-given
invariant-loop-given l =
    l.text.items
    ≡ l.initial.text.items ++ flat_map (λ o. outcome_line l.path l.test (model_outcome_of o)) (take l.given-index l.outcomes)
