use Rattle.std.proofs.Common.{ℕ, ◌≤◌, Option, min, take, length}
use Rattle.thread_runs.specs.declared.value.Value.{Value}
use Rattle.run_combinations.specs.Keys.{AreKeys, ThreadsAreKeyed}
use Rattle.run_combinations.specs.Search.{prefix_lists, tally, combinations, AllPrefixesFit, TalliesAll}
use Rattle.run_combinations.proofs.Cutting.{IsBack}
use Rattle.run_combinations.proofs.Searching.{going_on}
use Rattle.run_combinations.proofs.search.+search_from.Given as goal

abbrev pub decreases-search_from : goal.decreases-search_from
decreases-search_from l = length l.threads.now

abbrev pub invariant-loop-run : goal.invariant-loop-run
invariant-loop-run l = record {
  found : (key : ℕ → Value → Option (ℕ × ℕ))
      → AreKeys key l.initial.prefix.runs.events.items l.initial.prefix.loads
      l.initial.prefix.stores → ThreadsAreKeyed key l.threads
      → AllPrefixesFit (min l.locations 128) (combinations (prefix_lists l.initial.prefix) l.threads)
      → l.initial.found.count ≤ 16384
      → TalliesAll (min l.locations 128)
      (going_on (prefix_lists l.initial.prefix) l.others 0 (take l.run l.part-items))
      (tally l.initial.found) (tally l.found) × (l.found.count ≤ 16384);
  back : IsBack l.initial.prefix l.prefix;
}
