-- Values over fewer candidates are those of values over all. Read `Whole` first. Read next: Fewer.
use Rattle.std.specs.Prelude.{ℕ, ◌≡◌, Bool, List, Option, Some, slice_get}
use denote.Ref.{Bor}
use Rattle.binding_graph.specs.declared.resolved.Body.{Body}
use Rattle.binding_graph.specs.declared.resolved.CheckCode.{CheckCode}
use Rattle.candidate_spaces.specs.Space.{Candidate}
use Rattle.cat_machine.specs.declared.column.Column.{Column}
use Rattle.cat_machine.specs.Columns.{AreGroupColumns}
use Rattle.cat_machine.specs.Executions.{events_of}
use Rattle.cat_machine.specs.Values.{AreAnswers}
use Rattle.order_growth.specs.Within.{HasExpression, AreBodyExpressions}
use Rattle.whole_outcomes.specs.Whole.{AreAmong, AreInputsKept, AreColumnsKept, AreAnswersKept, IsColumnBelow, AreBelowAll}

-- Columns of a group over fewer candidates are those of columns over all.
abbrev pub WholeColumnsExist : Bool → List Body → Type 0
WholeColumnsExist recursive bodies =
    (indexes : List (Option ℕ)) (all fewer : List Candidate) (inputs others : List (Bor Column))
    (ds : List Column) → AreBodyExpressions recursive bodies → AreAmong indexes all fewer
    → AreInputsKept indexes inputs others → AreBelowAll all inputs
    → AreGroupColumns recursive bodies others fewer ds
    → (cs : List Column) × AreGroupColumns recursive bodies inputs all cs
    × AreColumnsKept indexes cs ds

-- The names of a group have only events of each candidate.
abbrev pub ColumnsAreBelow : Bool → List Body → Type 0
ColumnsAreBelow recursive bodies =
    (all : List Candidate) (inputs : List (Bor Column)) (cs : List Column) (k : ℕ)
    (one : Candidate) (p : ℕ) (c : Column) → AreBodyExpressions recursive bodies
    → AreGroupColumns recursive bodies inputs all cs → slice_get all k ≡ Some one
    → slice_get cs p ≡ Some c → IsColumnBelow (events_of one) c k

-- Answers of a check over fewer candidates are those of answers over all.
abbrev pub WholeAnswersExist : CheckCode → Type 0
WholeAnswersExist check =
    (indexes : List (Option ℕ)) (all fewer : List Candidate) (inputs others : List (Bor Column))
    (less : List Bool) → HasExpression check.code.kind check.code.steps.items
    → AreAmong indexes all fewer → AreInputsKept indexes inputs others → AreBelowAll all inputs
    → AreAnswers check others fewer less
    → (answers : List Bool) × AreAnswers check inputs all answers
    × AreAnswersKept indexes answers less
