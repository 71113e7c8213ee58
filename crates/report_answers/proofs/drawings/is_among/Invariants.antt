use Rattle.std.proofs.Common.{◌≡◌, drop, map}
use Rattle.report_answers.specs.Drawn.{is_among}
use Rattle.report_answers.proofs.drawings.is_among.Given as goal

abbrev pub invariant-loop-other : goal.invariant-loop-other
invariant-loop-other l =
    is_among (map (λ d. d.items) l.drawings) l.drawing
    ≡ is_among (map (λ d. d.items) (drop l.other-index l.drawings)) l.drawing
