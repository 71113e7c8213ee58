use Rattle.std.proofs.Common.{Vec, ℕ, ◌≡◌, Some, length, slice_get}
use Rattle.std.specs.declared.alloc.Global.{Global}
use Rattle.thread_runs.specs.declared.run.Run.{Run}
use Rattle.thread_runs.specs.LocationValues.{ShowsServed}
use Rattle.run_combinations.proofs.layout.served_runs.Given as goal

abbrev pub invariant-loop-thread : goal.invariant-loop-thread
invariant-loop-thread l =
    (length l.threads.items ≡ l.thread)
    × ((t : ℕ) (v : Vec Run Global) → slice_get l.threads.items t ≡ Some v
    → ShowsServed l.program t l.domain.values.items v.items)
