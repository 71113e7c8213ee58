use Rattle.std.proofs.Common.{arith}
use Rattle.std.proofs.lemmas.Grind.{common_steps}
use Rattle.outcome_states.proofs.Names.{is_name-Decides}
use Rattle.verdict.proofs.judgement.is_among.Goals as goal

pub loop-known-preserved : goal.loop-known-preserved
loop-known-preserved c = grind (arith, common_steps, is_name-Decides)

pub returns-then-is_same : goal.returns-then-is_same
returns-then-is_same c = grind (arith, common_steps, is_name-Decides)
