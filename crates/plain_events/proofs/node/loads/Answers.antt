use Rattle.std.proofs.Common.{ℕ, ◌<◌, ◌≤◌, map, ap, sym, subst, ◌∙◌}
use Rattle.std.proofs.Math.ListN.{get_or-map}
use Rattle.std.proofs.lemmas.List.{length-map}
use Rattle.meaning.specs.Executions.{loads_in}
use Rattle.plain_runs.specs.declared.run.Run.{Run}
use Rattle.plain_runs.specs.Runs.{run_as}
use Rattle.plain_events.specs.Events.{event_as}
use Rattle.plain_events.proofs.Standing.{loads_more, loads_all}
use Rattle.plain_events.proofs.node.loads.Goals as goal

pub loop-thread-preserved : goal.loop-thread-preserved
loop-thread-preserved c =
    let r = c.index-runs-thread.result in
    loads_more c.loop-thread.thread (map run_as c.args.runs.now) (run_as r) (run_as r)
    (loads_in 0 (map run_as c.args.runs.now)) (map event_as c.loop-thread.loads.items)
    (map event_as c.put_run_loads.new.loads.items)
    (subst (λ (n : ℕ). c.loop-thread.thread < n) (sym (length-map c.args.runs.now run_as)) c.loop-thread-test.true)
    (ap (λ (q : Run). run_as q) c.index-runs-thread.is ∙ sym (get_or-map run_as c.args.runs.now c.loop-thread.thread r))
    c.loop-thread.invariant c.in_ok-put_run_loads.ensures

pub returns : goal.returns
returns c =
    loads_all c.loop-thread.thread (map run_as c.args.runs.now) (loads_in 0 (map run_as c.args.runs.now))
    (map event_as c.loop-thread.loads.items)
    (subst (λ (n : ℕ). n ≤ c.loop-thread.thread) (sym (length-map c.args.runs.now run_as)) c.loop-thread-test.false)
    c.loop-thread.invariant
