use Rattle.std.proofs.Common.{take}
use Rattle.std.specs.List.{AllZip}
use Rattle.bit_rows.specs.Relation.{IsMember}
use Rattle.why_forbidden.specs.Drawings.{AreShownLines}
use Rattle.why_forbidden.proofs.lines.shown_lines.Given as goal

abbrev pub invariant-loop-index : goal.invariant-loop-index
invariant-loop-index l =
    AllZip (AreShownLines l.candidate (IsMember l.drawn)) (take l.index l.shown) l.lines.items
