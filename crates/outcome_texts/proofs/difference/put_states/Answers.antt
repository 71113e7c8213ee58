use Rattle.std.proofs.Common.{◌<◌, length, arith}
use Rattle.outcome_texts.specs.Differences.{has_other_count, state_difference}
use Rattle.outcome_texts.proofs.Loops.{printed_more, printed_all}
use Rattle.outcome_texts.proofs.difference.put_states.Goals as goal

pub loop-state-preserved : goal.loop-state-preserved
loop-state-preserved c =
    let inside : c.loop-state.state-index < length c.args.states.now = omega (arith, c.loop-state-test.true) in
    printed_more (λ s. state_difference (has_other_count s) s) _ _ _ c.args.states.now
    c.loop-state.state-index c.state-item.result inside c.state-item.is c.loop-state.invariant
    c.in_ok-put_state.ensures

pub returns : goal.returns
returns c =
    printed_all (λ s. state_difference (has_other_count s) s) _ _ c.args.states.now
    c.loop-state.state-index (omega (arith, c.loop-state-test.false)) c.loop-state.invariant
