use Rattle.std.proofs.Common.{rules, arith}
use Rattle.std.proofs.lemmas.Grind.{common_steps}
use Rattle.outcome_texts.proofs.Merging.{none_left, only_first, only_second}
use Rattle.outcome_texts.proofs.difference.least_state.Goals as goal

pub returns-then-is_empty-2-clause-value : goal.returns-then-is_empty-2-clause-value
returns-then-is_empty-2-clause-value c =
    none_left c.args.first.now c.args.second.now (grind (arith, common_steps))
    (grind (arith, common_steps))

pub returns-then-is_empty-clause-value : goal.returns-then-is_empty-clause-value
returns-then-is_empty-clause-value c =
    only_second c.args.first.now c.args.second.now c.index-second-0.result c.of_second.result
    (grind (arith, common_steps)) (grind (arith, common_steps)) (search rules) (search rules)

pub returns-then-is_empty-3-clause-value : goal.returns-then-is_empty-3-clause-value
returns-then-is_empty-3-clause-value c =
    only_first c.args.first.now c.args.second.now c.index-first-0.result c.of_first.result
    (grind (arith, common_steps)) (grind (arith, common_steps)) (search rules) (search rules)
