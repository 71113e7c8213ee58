use Rattle.bit_rows.specs.Relation.{IsMember}
use Rattle.why_forbidden.specs.Drawings.{IsBoxed}
use Rattle.why_forbidden.specs.Views.{scene_of}
use Rattle.why_forbidden.proofs.Boxing.{BoxesBelow}
use Rattle.why_forbidden.proofs.boxes.boxes.Given as goal

abbrev pub invariant-loop-number : goal.invariant-loop-number
invariant-loop-number l =
    BoxesBelow (scene_of l.told) (IsBoxed l.told.events.now (IsMember l.drawn) l.thread) l.number
    l.boxes.items
