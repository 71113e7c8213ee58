-- The numbers of the rules of scripts.
use Rattle.std.specs.Prelude.{ℕ}
use Rattle.session_script.specs.declared.command.ScriptRule.{ScriptRule}
use Rattle.session_script.specs.declared.command.ScriptRule.TheVariants.{NoCommand, NoTextEnd}

abbrev pub script_rule_number : ScriptRule → ℕ
script_rule_number NoCommand = 1
script_rule_number NoTextEnd = 2
