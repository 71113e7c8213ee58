use Rattle.std.proofs.Common.{arith, rules}
use Rattle.candidate_spaces.proofs.Spaces.{one_thread_more, all_threads}
use Rattle.candidate_spaces.proofs.ends.final_registers.Goals as goal

pub loop-thread-preserved : goal.loop-thread-preserved
loop-thread-preserved c =
    one_thread_more c.args.registers.now c.args.runs.now c.loop-thread.thread
    c.index-registers-thread.result _ _ _ (omega arith) (omega arith)
    c.index-registers-thread.is c.loop-thread.invariant (search rules)

pub returns : goal.returns
returns c =
    all_threads c.args.registers.now c.args.runs.now c.loop-thread.thread _ _ (omega arith)
    c.loop-thread.invariant
