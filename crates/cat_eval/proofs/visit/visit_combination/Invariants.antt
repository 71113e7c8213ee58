use Rattle.std.proofs.Common.{List, length, ◌++◌, ◌*◌}
use Rattle.cat_eval.specs.Places.{IsAt}
use Rattle.cat_machine.specs.Seen.{NamedValues, seen_run}
use Rattle.cat_eval.proofs.visit.visit_combination.Given as goal

abbrev pub invariant-loop-at : goal.invariant-loop-at
invariant-loop-at g l =
    (first : _) (bases : List NamedValues) → IsAt l.named l.initial.place bases
    → g.V.Visit.has_taken first bases l.initial.visitor
    → IsAt l.named l.place (bases ++ seen_run l.named (length bases) l.count (l._at * l.many))
    × g.V.Visit.has_taken first
    (bases ++ seen_run l.named (length bases) l.count (l._at * l.many)) l.visitor
