-- A cut leaves the evaluation the same. Read `Cut` first.
use Rattle.std.specs.Prelude.{◌≡◌, List, ◌∷◌, ◌++◌, None, reverse}
use Rattle.text_values.specs.declared.test.Test.{Test}
use Rattle.binding_graph.specs.declared.resolved.CheckCode.{CheckCode}
use Rattle.binding_graph.specs.declared.resolved.ResolvedItem.{ResolvedItem}
use Rattle.binding_graph.specs.declared.resolved.Role.TheVariants.{Check}
use Rattle.candidate_spaces.specs.declared.candidate.Space.{Space}
use Rattle.outcome_states.specs.declared.answer.Evaluation.{Evaluation}
use Rattle.from_scratch.specs.Cell.{IsEvaluationBy}
use Rattle.order_growth.specs.Coded.{AreOfExpressions}
use Rattle.whole_outcomes.specs.Cut.{IsCut}

-- One of the items is a check that is no flag. An evaluation over the candidates without some that
-- it refuses is one over all.
abbrev pub EvaluationOverCut : Type 0
EvaluationOverCut =
    (items later rs : List ResolvedItem) (r : ResolvedItem) (check : CheckCode)
    (all fewer : Space) (test : Test) (e : Evaluation) → reverse items ≡ later ++ r ∷ rs
    → AreOfExpressions items → r.role ≡ Check check → check.flag ≡ None → IsCut rs r all fewer
    → IsEvaluationBy items fewer test e → IsEvaluationBy items all test e
