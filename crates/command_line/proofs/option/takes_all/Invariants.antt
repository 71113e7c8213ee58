use Rattle.std.proofs.Common.{◌≡◌, drop}
use Rattle.command_line.specs.Options.{takes_all}
use Rattle.command_line.proofs.option.takes_all.Given as goal

-- the command has the options before
abbrev pub invariant-loop-option : goal.invariant-loop-option
invariant-loop-option l =
    takes_all l.command (drop l.option-index l.options) ≡ takes_all l.command l.options
