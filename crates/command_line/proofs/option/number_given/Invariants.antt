use Rattle.std.proofs.Common.{◌≡◌, drop}
use Rattle.command_line.specs.Options.{number_given}
use Rattle.command_line.proofs.option.number_given.Given as goal

-- the options before are others
abbrev pub invariant-loop-option : goal.invariant-loop-option
invariant-loop-option l =
    number_given l.name (drop l.option-index l.options) ≡ number_given l.name l.options
