use Rattle.std.proofs.Common.{◌+◌}
use Rattle.from_scratch.specs.Keeping.{IsGone, LetsGo}
use Rattle.from_scratch.proofs.keeping.let_go_behind.Given as goal

abbrev pub invariant-loop-name : goal.invariant-loop-name
invariant-loop-name l = LetsGo (IsGone l.last (l.at + 1)) l.fn.columns l.columns
