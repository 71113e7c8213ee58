use Rattle.std.proofs.Common.{◌<◌, length, arith}
use Rattle.outcome_texts.specs.Log.{state_line}
use Rattle.outcome_texts.proofs.Loops.{printed_more, printed_all}
use Rattle.outcome_texts.proofs.log.put_each_state.Goals as goal

pub loop-state-preserved : goal.loop-state-preserved
loop-state-preserved c =
    let inside : c.loop-state.state-index < length c.args.states.now = omega (arith, c.loop-state-test.true) in
    printed_more state_line _ _ _ c.args.states.now c.loop-state.state-index c.state-item.result
    inside c.state-item.is c.loop-state.invariant c.in_ok-put_state.ensures

pub returns : goal.returns
returns c =
    printed_all state_line _ _ c.args.states.now c.loop-state.state-index
    (omega (arith, c.loop-state-test.false)) c.loop-state.invariant
