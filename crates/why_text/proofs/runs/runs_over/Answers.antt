use Rattle.std.proofs.Common.{◌+◌, sym, subst, List, arith}
use Rattle.std.specs.Prelude.{Vec}
use Rattle.std.specs.declared.alloc.Global.{Global}
use Rattle.thread_runs.specs.declared.run.Run as code_run
use Rattle.why_text.specs.Origins.{AreRunsOver}
use Rattle.why_text.proofs.Replaying.{no_runs, runs_more}
use Rattle.why_text.proofs.runs.runs_over.Goals as goal

pub loop-thread-init : goal.loop-thread-init
loop-thread-init c =
    rw c.new-threads.ensures.items (no_runs c.args.test.now c.args.domain.now.values.items)

pub loop-thread-preserved : goal.loop-thread-preserved
loop-thread-preserved c =
    let test = c.args.test.now in
    let V = c.args.domain.now.values.items in
    let n = c.loop-thread.thread in
    let shows = c.in_ok-runs.ensures.runs c.requires.rising (omega (arith, c.loop-thread-test.true)) in
    subst (λ (ts : List (Vec code_run.Run Global)). AreRunsOver test V (n + 1) ts)
    (sym {A = List (Vec code_run.Run Global)} c.in_ok-push.ensures.items)
    (runs_more test V n c.loop-thread.threads.items c.in_ok-runs.field-0 shows
    c.loop-thread.invariant)
