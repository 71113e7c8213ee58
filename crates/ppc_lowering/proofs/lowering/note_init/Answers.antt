use Rattle.std.proofs.Common.{rules}
use Rattle.ppc_lowering.specs.Lowering.{entry_names}
use Rattle.ppc_lowering.proofs.Sorting.{adds_more, adds_all}
use Rattle.ppc_lowering.proofs.lowering.note_init.Goals as goal

pub loop-entry-preserved : goal.loop-entry-preserved
loop-entry-preserved c = record {
  rising = c.note_both.ensures.rising;
  added =
      adds_more entry_names c.args.init.now c.loop-entry.entry-index c.entry-item.result _ _ _
      c.loop-entry-test.true c.loop-entry.invariant.added (search rules);
}

pub returns-clause-noted : goal.returns-clause-noted
returns-clause-noted c =
    adds_all entry_names c.args.init.now c.loop-entry.entry-index _ _ c.loop-entry-test.false
    c.loop-entry.invariant.added
