use Rattle.std.proofs.Common.{rules, sym, arith}
use denote.Enum.Bare.{same_true}
use Rattle.command_line.specs.contracts.option.OptionName.{the_type}
use Rattle.command_line.specs.declared.option.OptionName.TheVariants.{Shown}
use Rattle.command_line.proofs.Options.{first_given}
use Rattle.command_line.proofs.option.number_given.Goals as goal

pub returns-then-eq : goal.returns-then-eq
returns-then-eq c =
    first_given c.args.name c.args.options.now c.loop-option.option-index
    (record { name = Shown; number = 0 }) (omega arith)
    (same_true the_type (search rules) _ _ (sym c.if-eq.ensures)) c.loop-option.invariant
