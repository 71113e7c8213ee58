use Rattle.std.proofs.Common.{◌≡◌, ◌++◌, drop}
use Rattle.report_details.specs.Details.{flags_text}
use Rattle.report_details.proofs.details.put_all_flags.Given as goal

-- what is written, with what is left to write, is all
abbrev pub invariant-loop-number : goal.invariant-loop-number
invariant-loop-number l =
    l.text.items ++ flags_text (drop l.number l.models) (drop l.number l.outcomes)
    ≡ l.initial.text.items ++ flags_text l.models l.outcomes
