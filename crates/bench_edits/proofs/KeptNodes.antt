-- What a node is made of columns and answers holds over each space that shows the same.
use Rattle.std.proofs.Common.{◌≡◌, List, map, Bool, ap, ◌∙◌}
use denote.Ref.{Bor}
use Rattle.binding_graph.specs.declared.resolved.Role.{Role}
use Rattle.candidate_spaces.specs.declared.candidate.Space.{Space}
use Rattle.cat_machine.specs.declared.column.Column.{Column}
use Rattle.cat_machine.specs.Columns.{ColumnsOf}
use Rattle.cat_machine.specs.Values.{AnswersOf}
use Rattle.order_growth.specs.KeptLaws.{AreSameItems}
use Rattle.order_growth.proofs.Keeping.{columns_kept, answers_kept}
use Rattle.binding_shapes.specs.Shapes.{role_shape}
use Rattle.bench_items.specs.Items.{role_content}
use Rattle.bench_values.specs.Makes.{role_over, HasGroupColumns, HasCheckAnswers}
use Rattle.bench_values.specs.Spaces.{SpaceContent, space_content}

same_items : (role read : Role) (space over : Space) (inputs found : List (Bor Column))
    → role_content read ≡ role_content role → space_content over ≡ space_content space
    → map (λ c. c.now) found ≡ map (λ c. c.now) inputs → AreSameItems read role over space found inputs
same_items role read space over inputs found reading shown are = record {
  roles = reading;
  candidates = ap (λ (s : SpaceContent). s.executions) shown;
  values = are;
}

-- the item reads its inputs by the kinds of these columns
abbrev pub IsOver : Role → List Column → Type 0
IsOver role columns = role_over (role_shape (role_content role)) columns ≡ role_content role

pub columns_over : (role : Role) (space : Space) (inputs : List (Bor Column)) (cs : List Column)
    → IsOver role (map (λ c. c.now) inputs)
    → HasGroupColumns (role_shape (role_content role)) (space_content space) (map (λ c. c.now) inputs) cs
    → ColumnsOf role inputs space cs
columns_over role space inputs cs is h =
    columns_kept h.read role h.over space h.inputs inputs cs
    (same_items role h.read space h.over inputs h.inputs (h.reading ∙ is) h.shown h.are) h.values

pub answers_over : (role : Role) (space : Space) (inputs : List (Bor Column)) (answers : List Bool)
    → IsOver role (map (λ c. c.now) inputs)
    → HasCheckAnswers (role_shape (role_content role)) (space_content space) (map (λ c. c.now) inputs)
    answers
    → AnswersOf role inputs space answers
answers_over role space inputs answers is h =
    answers_kept h.read role h.over space h.inputs inputs answers
    (same_items role h.read space h.over inputs h.inputs (h.reading ∙ is) h.shown h.are) h.values
