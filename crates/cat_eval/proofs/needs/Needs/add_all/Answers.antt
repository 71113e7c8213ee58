use Rattle.std.proofs.Common.{◌≡◌, get_or, take}
use Rattle.std.proofs.lemmas.List.{get_or_default}
use Rattle.predefined_names.specs.declared.predefined.Predefined.TheVariants as names
use Rattle.binding_graph.specs.declared.resolved.Source.TheVariants as sources
use Rattle.binding_graph.specs.declared.resolved.Step.TheVariants as steps
use Rattle.cat_eval.specs.Needed.{changes_with_reads, changes_with_orders, step_passes, step_names, predefined_names_in}
use Rattle.cat_eval.proofs.Entering.{flat_step}
use Rattle.cat_eval.proofs.Listed.{any_more, listed_more}
use Rattle.cat_eval.proofs.needs.Needs.add_all.Goals as goal

pub loop-step-preserved : goal.loop-step-preserved
loop-step-preserved c =
    let l = c.loop-step in
    let xs = c.args.steps.now in
    let old = c.args.self.now in
    let new = c.add_step.new.self in
    let any = steps.PushSet (sources.Predefined names.Loads) in
    let step = get_or xs l.step-index any in
    let is : step ≡ get_or xs l.step-index step = get_or_default xs l.step-index any step c.loop-step-test.true in
    let added = c.in_ok-add_step.ensures in (
      any_more (step_passes changes_with_reads) xs l.step-index step old.reads l.self.reads
          new.reads c.loop-step-test.true is l.invariant.0 added.changes.0,
      any_more (step_passes changes_with_orders) xs l.step-index step old.orders l.self.orders
          new.orders c.loop-step-test.true is l.invariant.1 added.changes.1,
      rw (flat_step step_names xs l.step-index step c.loop-step-test.true is)
          (listed_more old.names.items l.self.names.items new.names.items
          (predefined_names_in (take l.step-index xs)) (step_names step) l.invariant.2 added.names),
    )
