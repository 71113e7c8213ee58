use Rattle.std.proofs.Common.{take}
use Rattle.base_names.specs.Known.{shared_names}
use Rattle.base_names.specs.Candidate.{AreCovered}
use Rattle.base_names.proofs.names.shared_of.Given as goal

abbrev pub invariant-loop-name : goal.invariant-loop-name
invariant-loop-name l = AreCovered (shared_names l.shared.items) (take l.name-index l.names)
