use Rattle.std.proofs.Common.{take, map}
use Rattle.report_answers.specs.Drawn.{AreTestDrawings}
use Rattle.report_answers.proofs.drawings.drawings_of.Given as goal

abbrev pub invariant-loop-index : goal.invariant-loop-index
invariant-loop-index l =
    AreTestDrawings l.test l.initial.budget (take l.index l.models) (take l.index l.outcomes)
    (map (λ d. d.items) l.drawings.items) l.budget
