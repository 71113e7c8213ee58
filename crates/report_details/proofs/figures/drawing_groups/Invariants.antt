use Rattle.std.proofs.Common.{◌≡◌, take, map}
use Rattle.report_details.specs.Figures.{first_drawn}
use Rattle.report_details.proofs.figures.drawing_groups.Given as goal

abbrev pub invariant-loop-drawing : goal.invariant-loop-drawing
invariant-loop-drawing l =
    l.groups.items
    ≡ map (first_drawn 0 (map (λ d. d.items) l.drawings))
    (map (λ d. d.items) (take l.drawing-index l.drawings))
