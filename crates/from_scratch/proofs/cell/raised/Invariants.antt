use Rattle.std.proofs.Common.{◌≡◌, take}
use Rattle.outcome_states.specs.Kept.{of_raised}
use Rattle.from_scratch.specs.Known.{of_flags}
use Rattle.from_scratch.proofs.cell.raised.Given as goal

abbrev pub invariant-loop-flag : goal.invariant-loop-flag
invariant-loop-flag l = of_raised l.raised.items ≡ of_flags (take l.flag-index l.flags)
