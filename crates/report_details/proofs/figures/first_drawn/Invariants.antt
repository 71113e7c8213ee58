use Rattle.std.proofs.Common.{◌≡◌, drop, map}
use Rattle.report_details.specs.Figures.{first_drawn}
use Rattle.report_details.proofs.figures.first_drawn.Given as goal

abbrev pub invariant-loop-number : goal.invariant-loop-number
invariant-loop-number l =
    first_drawn l.number (map (λ d. d.items) (drop l.number l.drawings)) l.drawing
    ≡ first_drawn 0 (map (λ d. d.items) l.drawings) l.drawing
