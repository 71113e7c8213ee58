use Rattle.std.proofs.Common.{◌≡◌, take}
use Rattle.std.specs.List.{count_by}
use Rattle.ppc_lowering.specs.Domain.{has_event}
use Rattle.ppc_semantics.proofs.rounds.events_in.Given as goal

abbrev pub invariant-loop-line : goal.invariant-loop-line
invariant-loop-line l = l.count ≡ count_by has_event (take l.line-index l.lines)
