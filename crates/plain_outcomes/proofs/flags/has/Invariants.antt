use Rattle.std.proofs.Common.{take, Contains}
use Rattle.plain_outcomes.proofs.flags.has.Given as goal

abbrev pub invariant-loop-other : goal.invariant-loop-other
invariant-loop-other l = Contains (take l.other-index l.raised) l.index → ⊥
