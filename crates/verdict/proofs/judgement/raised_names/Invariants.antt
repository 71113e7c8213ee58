use Rattle.std.proofs.Common.{◌≡◌, take}
use Rattle.outcome_states.specs.Kept.{names_of_flags, of_raised, holds_on_some}
use Rattle.verdict.proofs.judgement.raised_names.Given as goal

abbrev pub invariant-loop-flag : goal.invariant-loop-flag
invariant-loop-flag l =
    l.names.items ≡ names_of_flags (λ f. holds_on_some l.kept f.1) (of_raised (take l.flag-index l.flags))
