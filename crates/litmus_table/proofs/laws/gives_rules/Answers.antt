use Rattle.litmus_table.proofs.Rules.{rules_given}
use Rattle.litmus_table.proofs.laws.gives_rules.Goals as goal

pub returns : goal.returns
returns c = rules_given
