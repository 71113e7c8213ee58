use Rattle.std.proofs.Common.{◌≡◌, length}
use Rattle.thread_runs.specs.LocationValues.{AreLocationValues}
use Rattle.thread_runs.proofs.location_values.held_values.Given as goal

abbrev pub invariant-loop-location : goal.invariant-loop-location
invariant-loop-location l = record {
  many : length l.held.items ≡ l.location;
  held : AreLocationValues l.program l.values l.held.items;
}
