use Rattle.candidate_spaces.specs.Space.{candidates_in}
use Rattle.cat_machine.specs.Seen.{seen_in}
use Rattle.cat_eval.proofs.Wanting.{AreBodiesShown}
use Rattle.cat_eval.proofs.group.plain_columns.Given as goal

abbrev pub invariant-loop-body : goal.invariant-loop-body
invariant-loop-body l =
    AreBodiesShown l.wanted l.bodies l.inputs
    (seen_in l.named 0 (candidates_in l.space.combinations.items)) l.body-index l.columns.items
