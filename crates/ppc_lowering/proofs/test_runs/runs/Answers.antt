use Rattle.std.proofs.Common.{arith}
use Rattle.std.proofs.lemmas.Result.{IfOk-weaker}
use Rattle.ppc_lowering.proofs.test_runs.runs.Goals as goal

pub returns-clause-runs : goal.returns-clause-runs
returns-clause-runs c =
    IfOk-weaker c.runs_of.result _ _
    (λ v h rising there. (
      c.in_ok-program.program,
      c.in_ok-program.ensures.program,
      h rising (let same = c.in_ok-program.ensures.program.threads.each_one in
          omega (
            arith,
            there,
            same,
            c.in_ok-program.program.threads.ok,
            c.args.test.now.threads.ok,
          )),
    )) c.runs_of.ensures.runs
