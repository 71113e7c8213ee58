use Rattle.std.proofs.Common.{◌≡◌, ℕ, length, get_or, []}
use Rattle.watch_run.specs.Boards.{lists_of}
use Rattle.watch_run.specs.Telling.{IsSameTeller}
use Rattle.watch_run.proofs.telling.VersionTeller.begin_faults.Given as goal

-- the lines that were noted are the same, and none are noted behind them
abbrev pub invariant-loop-model : goal.invariant-loop-model
invariant-loop-model g l = record {
  same : IsSameTeller l.initial.self l.self;
  long : l._model ≡ length l.self.faults.items;
  faults : (k : ℕ) → get_or (lists_of l.self.faults.items) k []
      ≡ get_or (lists_of l.initial.self.faults.items) k [];
}
