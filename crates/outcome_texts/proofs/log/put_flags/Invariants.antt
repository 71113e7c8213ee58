use Rattle.std.proofs.Common.{◌≡◌, ◌++◌, take}
use Rattle.std.specs.List.{flat_map}
use Rattle.outcome_texts.specs.Log.{flag_line}
use Rattle.outcome_texts.proofs.log.put_flags.Given as goal

abbrev pub invariant-loop-flag : goal.invariant-loop-flag
invariant-loop-flag l =
    l.text.items ≡ l.initial.text.items ++ flat_map flag_line (take l.flag-index l.flags)
