use Rattle.std.proofs.Common.{rules}
use Rattle.ppc_lowering.specs.Lowering.{labels_in}
use Rattle.ppc_lowering.proofs.Sorting.{adds_more, adds_all, are_names}
use Rattle.ppc_lowering.proofs.lowering.labels_of.Goals as goal

pub loop-step-preserved : goal.loop-step-preserved
loop-step-preserved c = record {
  rising = c.note_label.ensures.rising;
  added =
      adds_more labels_in c.args.steps.now c.loop-step.step-index c.step-item.result _ _ _
      c.loop-step-test.true c.loop-step.invariant.added (search rules);
}

pub returns : goal.returns
returns c =
    are_names _ _ c.loop-step.invariant.rising (adds_all labels_in c.args.steps.now
    c.loop-step.step-index _ _ c.loop-step-test.false c.loop-step.invariant.added)
