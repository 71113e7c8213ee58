-- In each candidate names have values and checks have answers. Read `Values` first. Read next:
-- Whole.
use Rattle.std.specs.Prelude.{ℕ, Bool, List}
use denote.Ref.{Bor}
use Rattle.bit_rows.specs.Relation.{Relation, Events}
use Rattle.binding_graph.specs.declared.resolved.Body.{Body}
use Rattle.binding_graph.specs.declared.resolved.CheckCode.{CheckCode}
use Rattle.candidate_spaces.specs.Space.{Candidate}
use Rattle.cat_machine.specs.declared.column.Column.{Column}
use Rattle.cat_machine.specs.Executions.{events_of, EventsAt, PairsAt}
use Rattle.cat_machine.specs.Values.{IsCheckAnswer}
use Rattle.order_growth.specs.Within.{HasExpression, AreBodyExpressions}
use Rattle.whole_outcomes.specs.Values.{AreGroupValues, AreInputsBelow}

-- In each candidate the names of a group have values, where the inputs have some.
abbrev pub ValuesExist : Bool → List Body → Type 0
ValuesExist recursive bodies =
    (one : Candidate) (inputs : List (Bor Column)) (k : ℕ) → AreBodyExpressions recursive bodies
    → AreInputsBelow (events_of one) inputs k
    → (ss : List Events) × (rs : List Relation) × AreGroupValues recursive bodies one inputs k ss rs

-- And a check has an answer in each.
abbrev pub AnswersExist : CheckCode → Type 0
AnswersExist check =
    (one : Candidate) (inputs : List (Bor Column)) (k : ℕ)
    → HasExpression check.code.kind check.code.steps.items
    → AreInputsBelow (events_of one) inputs k
    → (answer : Bool)
    × IsCheckAnswer check (events_of one) (EventsAt (events_of one) one inputs k)
    (PairsAt (events_of one) one inputs k) check.code.kind answer
