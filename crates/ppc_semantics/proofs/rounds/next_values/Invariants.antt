use Rattle.std.specs.List.{Contains}
use Rattle.thread_runs.specs.ValueSet.{IsValueSet}
use Rattle.thread_runs.specs.Runs.{StoresFreely}
use Rattle.thread_runs.specs.FreeWalks.{AreAdded}
use Rattle.ppc_lowering.specs.Domain.{threads_from}
use Rattle.ppc_semantics.proofs.rounds.next_values.Given as goal

abbrev pub invariant-loop-thread : goal.invariant-loop-thread
invariant-loop-thread l = record {
  set : IsValueSet l.next.items;
  added : AreAdded (StoresFreely (threads_from l.program l.thread) (Contains l.values)) l.values
      l.next.items;
}
