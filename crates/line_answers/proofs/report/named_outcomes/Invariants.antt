use Rattle.std.proofs.Common.{◌≡◌, ◌++◌, map, drop}
use Rattle.outcome_lines.specs.Records.{model_outcome_of}
use Rattle.line_answers.specs.Added.{named_outcomes}
use Rattle.line_answers.proofs.report.named_outcomes.Given as goal

abbrev pub invariant-loop-index : goal.invariant-loop-index
invariant-loop-index l =
    map model_outcome_of l.named.items
    ++ named_outcomes (drop l.index l.models) (drop l.index l.outcomes)
    ≡ named_outcomes l.models l.outcomes
