use Rattle.std.proofs.Common.{ℕ, ◌<◌, ◌≤◌, ◌++◌, map, ap, sym, subst, ◌∙◌}
use Rattle.std.proofs.Math.ListN.{get_or-map}
use Rattle.std.proofs.lemmas.List.{length-map}
use Rattle.meaning.specs.Executions.{loads_from}
use Rattle.plain_runs.specs.declared.run.Instance.{Instance}
use Rattle.plain_runs.specs.Runs.{instance_as}
use Rattle.plain_events.specs.Events.{event_as}
use Rattle.plain_events.proofs.Standing.{put_more, put_all}
use Rattle.plain_events.proofs.node.put_loads.Goals as goal

pub loop-index-preserved : goal.loop-index-preserved
loop-index-preserved c =
    let i = c.index-instances-index.result in
    put_more c.args.thread c.loop-index.index (map instance_as c.args.instances.now) (instance_as i)
    (instance_as i)
    (map event_as c.args.loads.now.items ++ loads_from c.args.thread 0 (map instance_as c.args.instances.now))
    (map event_as c.loop-index.loads.items) (map event_as c.put_if_load.new.loads.items)
    (subst (λ (n : ℕ). c.loop-index.index < n) (sym (length-map c.args.instances.now instance_as)) c.loop-index-test.true)
    (ap (λ (j : Instance). instance_as j) c.index-instances-index.is ∙ sym (get_or-map instance_as c.args.instances.now c.loop-index.index i))
    c.loop-index.invariant c.in_ok-put_if_load.ensures

pub returns : goal.returns
returns c =
    put_all c.args.thread c.loop-index.index (map instance_as c.args.instances.now)
    (map event_as c.args.loads.now.items ++ loads_from c.args.thread 0 (map instance_as c.args.instances.now))
    (map event_as c.loop-index.loads.items)
    (subst (λ (n : ℕ). n ≤ c.loop-index.index) (sym (length-map c.args.instances.now instance_as)) c.loop-index-test.false)
    c.loop-index.invariant
