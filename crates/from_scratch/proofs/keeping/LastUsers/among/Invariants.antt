use Rattle.std.proofs.Common.{take}
use Rattle.from_scratch.specs.Keeping.{AreLast}
use Rattle.from_scratch.proofs.keeping.LastUsers.among.Given as goal

abbrev pub invariant-loop-at : goal.invariant-loop-at
invariant-loop-at l = AreLast l.items (take l.at-index l.indexes) l.last
