use Rattle.text_values.specs.TestValue.{content_of}
use Rattle.plain_events.specs.Combinations.{run_lists_as, AreRunLists}
use Rattle.plain_events.proofs.combination.runs_by_thread.Given as goal

abbrev pub invariant-loop-thread : goal.invariant-loop-thread
invariant-loop-thread l = AreRunLists (content_of l.test) l.thread (run_lists_as l.lists.items)
