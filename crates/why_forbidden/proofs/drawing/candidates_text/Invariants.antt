use Rattle.why_forbidden.specs.Drawable.{subject_of}
use Rattle.why_forbidden.proofs.Graphing.{AreDrawnBefore}
use Rattle.why_forbidden.proofs.drawing.candidates_text.Given as goal

abbrev pub invariant-loop-candidate : goal.invariant-loop-candidate
invariant-loop-candidate l =
    AreDrawnBefore l.request (subject_of l.scene) l.candidate l.count l.text.items
