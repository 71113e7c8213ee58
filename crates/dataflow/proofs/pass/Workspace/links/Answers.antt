use Rattle.std.proofs.Common.{length, false, true}
use Rattle.thread_runs.specs.Runs.{executed}
use Rattle.taints.specs.Chains.{event_index, is_no_access, is_narrow, IsAddr, IsData, IsNeed, IsCtrl, IsCtrlIsync}
use Rattle.dataflow.proofs.LinkLists.{list_of, reach_loads, ctrl_loads, ctrlisync_loads}
use Rattle.dataflow.proofs.pass.Workspace.links.Goals as goal

pub returns-then-count-gt128-clause-within : goal.returns-then-count-gt128-clause-within
returns-then-count-gt128-clause-within c =
    c.no_links.ensures.within (event_index (executed c.args.run.now.steps.items)
    (length c.args.run.now.steps.items))

pub returns-clause-exact : goal.returns-clause-exact
returns-clause-exact c = λ few. record {
  addr =
      list_of IsAddr _ _ _ _ _ _ (reach_loads is_no_access false) c.deref.ensures.value
      c.deref-2.ensures.value c.event_count-count.ensures c.reach.ensures.columns
      c.in_ok-addr_pairs.ensures.exact;
  «data» =
      list_of IsData _ _ _ _ _ _ (reach_loads is_no_access true) c.deref.ensures.value
      c.deref-3.ensures.value c.event_count-count.ensures c.reach-2.ensures.columns
      c.in_ok-data_pairs.ensures.exact;
  ctrl =
      list_of IsCtrl _ _ _ _ _ _ ctrl_loads c.deref.ensures.value c.deref-4.ensures.value
      c.event_count-count.ensures c.control_columns.ensures.columns
      c.in_ok-ctrl_pairs.ensures.exact;
  ctrlisync =
      list_of IsCtrlIsync _ _ _ _ _ _ ctrlisync_loads c.deref.ensures.value c.deref-5.ensures.value
      c.event_count-count.ensures c.control_columns-2.ensures.columns
      c.in_ok-ctrlisync_pairs.ensures.exact;
  need =
      list_of IsNeed _ _ _ _ _ _ (reach_loads is_narrow true) c.deref.ensures.value
      c.deref-6.ensures.value c.event_count-count.ensures c.reach-3.ensures.columns
      c.in_ok-need_pairs.ensures.exact;
}
