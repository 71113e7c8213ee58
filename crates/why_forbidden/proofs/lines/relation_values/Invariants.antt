use Rattle.std.proofs.Common.{take}
use Rattle.std.specs.List.{AllZip}
use Rattle.why_forbidden.specs.Drawable.{AreValuesOf}
use Rattle.why_forbidden.proofs.lines.relation_values.Given as goal

abbrev pub invariant-loop-index : goal.invariant-loop-index
invariant-loop-index l = AllZip (AreValuesOf l.space) (take l.index l.relations) l.found.items
