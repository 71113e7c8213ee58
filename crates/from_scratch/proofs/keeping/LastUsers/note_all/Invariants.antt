use Rattle.std.proofs.Common.{take, Contains}
use Rattle.from_scratch.specs.Keeping.{Notes}
use Rattle.from_scratch.proofs.keeping.LastUsers.note_all.Given as goal

abbrev pub invariant-loop-name : goal.invariant-loop-name
invariant-loop-name l = Notes l.user (Contains (take l.name-index l.names)) l.fn.self l.self
