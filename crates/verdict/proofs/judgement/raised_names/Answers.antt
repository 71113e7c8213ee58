use Rattle.std.proofs.Common.{arith, rules}
use Rattle.std.proofs.lemmas.Grind.{common_steps}
use Rattle.outcome_states.specs.Kept.{holds_on_some, names_of_flags}
use Rattle.outcome_states.proofs.Names.{one_flag_more}
use Rattle.verdict.proofs.judgement.raised_names.Goals as goal

pub loop-flag-init : goal.loop-flag-init
unfolding names_of_flags
loop-flag-init c = search rules

pub loop-flag-preserved : goal.loop-flag-preserved
loop-flag-preserved c =
    let more = one_flag_more (λ f. holds_on_some c.args.kept.now f.1) c.args.flags.now c.loop-flag.flag-index c.flag-item.result c.loop-flag-test.true c.flag-item.is in
    grind (arith, common_steps, more)
