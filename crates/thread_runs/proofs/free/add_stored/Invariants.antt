use Rattle.thread_runs.specs.ValueSet.{IsValueSet}
use Rattle.thread_runs.proofs.FreeStores.{IsUnderWay}
use Rattle.thread_runs.proofs.free.add_stored.Given as goal

abbrev pub invariant-loop-index : goal.invariant-loop-index
invariant-loop-index l = record {
  rising : IsValueSet l.stored.items;
  way : IsUnderWay l.lines l.fn.first l.values l.index l.walks.items l.initial.stored.items
      l.stored.items;
}
