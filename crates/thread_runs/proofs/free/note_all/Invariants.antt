use Rattle.std.proofs.Common.{take}
use Rattle.thread_runs.specs.ValueSet.{IsValueSet}
use Rattle.thread_runs.specs.FreeWalks.{AreAdded, SomeStores}
use Rattle.thread_runs.proofs.free.note_all.Given as goal

abbrev pub invariant-loop-walk : goal.invariant-loop-walk
invariant-loop-walk l = record {
  rising : IsValueSet l.stored.items;
  added : AreAdded (SomeStores l.line (take l.walk-index l.walks)) l.initial.stored.items
      l.stored.items;
}
