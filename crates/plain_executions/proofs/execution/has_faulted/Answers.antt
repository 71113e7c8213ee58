use Rattle.std.proofs.Common.{◌≡◌, ap, sym, true, ◌∙◌}
use Rattle.meaning.specs.Runs.{Run}
use Rattle.plain_runs.specs.declared.run.Run as code
use Rattle.plain_runs.specs.Runs.{run_as}
use Rattle.plain_executions.proofs.Depending.{no, yes}
use Rattle.plain_executions.proofs.Executing.{one_has, none_further, none_at_all, not_faulted}
use Rattle.plain_executions.proofs.execution.has_faulted.Goals as goal

pub returns-then-run : goal.returns-then-run
returns-then-run c =
    yes (one_has (λ (r : Run). r.faulted ≡ true) run_as c.args.runs.now c.loop-run.run-index c.run-item.result
    c.loop-run-test.true (ap (λ (r : code.Run). r.faulted) (sym c.run-item.is) ∙ c.if-run.true))

pub loop-run-preserved : goal.loop-run-preserved
loop-run-preserved c =
    none_further (λ (r : Run). r.faulted ≡ true) run_as c.args.runs.now c.loop-run.run-index c.run-item.result
    c.loop-run-test.true
    (not_faulted _ (ap (λ (r : code.Run). r.faulted) (sym c.run-item.is) ∙ c.if-run.false))
    c.loop-run.invariant

pub returns : goal.returns
returns c =
    no (none_at_all (λ (r : Run). r.faulted ≡ true) run_as c.args.runs.now c.loop-run.run-index
    c.loop-run-test.false c.loop-run.invariant)
