use Rattle.std.proofs.Common.{sym, ◌∙◌, arith}
use Rattle.thread_runs.proofs.FreeStores.{no_store_more}
use Rattle.thread_runs.proofs.free.stores_end.Goals as goal

pub loop-end-preserved : goal.loop-end-preserved
loop-end-preserved c = record {
  within = omega arith;
  none =
      no_store_more c.args.lines.now c.loop-end.end _ (omega arith) (omega arith)
      c.loop-end.invariant.none (sym c.is_store.ensures ∙ c.if-is_store.false);
}
