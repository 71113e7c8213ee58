use Rattle.std.proofs.Common.{[], take}
use Rattle.candidate_spaces.specs.Space.{candidates_in}
use Rattle.cat_eval.specs.Places.{IsAt}
use Rattle.cat_machine.specs.Seen.{seen_in}
use Rattle.cat_eval.proofs.visit.visit_all.Given as goal

abbrev pub invariant-loop-combination : goal.invariant-loop-combination
invariant-loop-combination g l = g.V.Visit.has_taken l.initial.visitor [] l.initial.visitor
    → IsAt l.named l.place (seen_in l.named 0 (candidates_in
    (take l.combination-index l.space.combinations.items)))
    × g.V.Visit.has_taken l.initial.visitor
    (seen_in l.named 0 (candidates_in
    (take l.combination-index l.space.combinations.items))) l.visitor
