use Rattle.std.proofs.Common.{ap, sym, ◌∙◌}
use Rattle.board.specs.Contents.{cell_at}
use Rattle.outcome_texts.specs.Cells.{cell_of}
use Rattle.bench_instance.proofs.Indexes.{has_models, settled_here, none_shown, open_shown, open_names, settled_names}
use Rattle.bench_instance.proofs.board_texts.StampedTextsBoardTexts.open_cell.Goals as goal

pub cell_index-at-requires : goal.cell_index-at-requires
cell_index-at-requires c = has_models c.args.board.now c.args.index c.requires

pub returns-in-Settled-clause-settled : goal.returns-in-Settled-clause-settled
returns-in-Settled-clause-settled c =
    let shown = sym c.show_at.ensures ∙ ap cell_of c.in-Settled.is in
    λ k there. settled_here c.args.board.now c.args.index c.cell_index-at.result c.requires
    c.cell_index-at.ensures
    c.in-Settled.field-0.now k shown there

pub returns-in-Open-clause-open : goal.returns-in-Open-clause-open
returns-in-Open-clause-open c =
    let at = c.cell_index-at.result in
    let cell = cell_at c.args.board.now.rows at.test at.model in
    let unsettled = open_shown cell c.show_at.result c.show_at.ensures c.in-Open.is in
    open_names c.args.board.now c.args.index at c.requires c.cell_index-at.ensures c.names_at.result
    unsettled c.names_at.ensures.named

pub returns-in-Open-clause-settled : goal.returns-in-Open-clause-settled
returns-in-Open-clause-settled c =
    settled_names c.args.board.now c.args.index c.cell_index-at.result c.requires
    c.cell_index-at.ensures
    c.names_at.result c.names_at.ensures.none

pub returns-in-NoCell-clause-open : goal.returns-in-NoCell-clause-open
returns-in-NoCell-clause-open c =
    let at = c.cell_index-at.result in
    let cell = cell_at c.args.board.now.rows at.test at.model in
    let unsettled = none_shown cell c.show_at.result c.show_at.ensures c.in-NoCell.is in
    let names = c.names_at-in-NoCell in
    open_names c.args.board.now c.args.index at c.requires c.cell_index-at.ensures names.result
    unsettled names.ensures.named

pub returns-in-NoCell-clause-settled : goal.returns-in-NoCell-clause-settled
returns-in-NoCell-clause-settled c =
    settled_names c.args.board.now c.args.index c.cell_index-at.result c.requires
    c.cell_index-at.ensures
    c.names_at-in-NoCell.result c.names_at-in-NoCell.ensures.none
