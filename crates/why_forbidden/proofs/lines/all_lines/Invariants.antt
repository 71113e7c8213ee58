use Rattle.std.proofs.Common.{take}
use Rattle.std.specs.List.{AllZip}
use Rattle.bit_rows.specs.Relation.{IsMember}
use Rattle.candidate_spaces.specs.Space.{Candidate}
use Rattle.why_forbidden.specs.Drawings.{AreLines, IsCandidateAt, relations}
use Rattle.why_forbidden.proofs.lines.all_lines.Given as goal

abbrev pub invariant-loop-index : goal.invariant-loop-index
invariant-loop-index l =
    (one : Candidate) → IsCandidateAt l.space l.candidate one
    → AllZip (AreLines one (IsMember l.drawn)) (take l.index relations) l.lines.items
