use Rattle.std.proofs.Common.{◌<◌, length, arith}
use Rattle.outcome_texts.specs.Log.{flag_line}
use Rattle.outcome_texts.proofs.Loops.{printed_more, printed_all}
use Rattle.outcome_texts.proofs.log.put_flags.Goals as goal

pub loop-flag-preserved : goal.loop-flag-preserved
loop-flag-preserved c =
    let inside : c.loop-flag.flag-index < length c.args.flags.now = omega (arith, c.loop-flag-test.true) in
    printed_more flag_line _ _ _ c.args.flags.now c.loop-flag.flag-index c.flag-item.result inside
    c.flag-item.is c.loop-flag.invariant c.in_ok-put_flag.ensures

pub returns : goal.returns
returns c =
    printed_all flag_line _ _ c.args.flags.now c.loop-flag.flag-index
    (omega (arith, c.loop-flag-test.false)) c.loop-flag.invariant
