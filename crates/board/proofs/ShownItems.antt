-- After legal operations the items of a board are those of the texts, by the names of the models.
use Rattle.std.proofs.Common.{◌≡◌, ℕ, List, refl, ap, ◌∙◌}
use Rattle.std.specs.Prelude.{slice_get, option_map}
use Rattle.board.specs.declared.operation.BoardOp.{BoardOp}
use Rattle.board.specs.Contents.{BoardContent, column_index}
use Rattle.board.specs.Operations.{no_board, board_after}
use Rattle.board.specs.Legal.{TestsAndModels, no_tests_or_models, IsLegal, texts_after}
use Rattle.board.specs.Right.{printed_of}
use Rattle.board.proofs.Names.{IsNamed, names_from}
use Rattle.board.proofs.Items.{HaveItems, items_from}
use Rattle.board.specs.Items.{ShowsRightItems}
use Rattle.board.proofs.ShownNames.{found, found_alike, get_alike}

pub right_items : (ops : List BoardOp) → IsLegal ops → ShowsRightItems ops
right_items ops legal model =
    let b : BoardContent = board_after ops in
    let h : TestsAndModels = texts_after ops in
    let named : IsNamed b.rows b.columns h = names_from ops no_board no_tests_or_models 0 legal (record { tests = refl; models = refl }) in
    let same : HaveItems b.columns h = items_from ops no_board no_tests_or_models 0 legal refl in
    let at : column_index model b.columns ≡ found (λ m. m.name) model h.models = found_alike (λ c. c.name) (λ m. m.name) model b.columns h.models named.models in
    get_alike (λ c. c.items) printed_of b.columns h.models (column_index model b.columns) same
    ∙ ap (λ (i : ℕ). option_map printed_of (slice_get h.models i)) at
