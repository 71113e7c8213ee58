use Rattle.std.proofs.Common.{inl, ap, sym, ◌∙◌}
use Rattle.outcome_texts.specs.Cells.{cell_of}
use Rattle.bench_instance.proofs.Indexes.{has_models, settled_here}
use Rattle.bench_instance.proofs.Verdicts.{has_verdict, has_none}
use Rattle.bench_instance.proofs.board_texts.StampedTextsBoardTexts.open_verdict.Goals as goal

pub cell_index-at-requires : goal.cell_index-at-requires
cell_index-at-requires c = has_models c.args.board.now c.args.index c.requires.at

pub returns-in-Settled-clause-none : goal.returns-in-Settled-clause-none
returns-in-Settled-clause-none c =
    let shown = sym c.show_at.ensures ∙ ap cell_of c.in-Settled.is in
    λ k there. inl (settled_here c.args.board.now c.args.index c.cell_index-at.result c.requires.at
    c.cell_index-at.ensures c.in-Settled.field-0.now k shown there)

pub returns-in-Open-clause-open : goal.returns-in-Open-clause-open
returns-in-Open-clause-open c =
    let after = c.requires.after in
    has_verdict c.args.self.now after.0 c.args.board.now c.args.index c.cell_index-at.result
    c.requires.valid after.1 after.2 c.requires.at c.cell_index-at.ensures c.verdict_at.result
    c.verdict_at.ensures

pub returns-in-Open-clause-none : goal.returns-in-Open-clause-none
returns-in-Open-clause-none c =
    let after = c.requires.after in
    has_none c.args.self.now after.0 c.args.board.now c.args.index c.cell_index-at.result
    c.requires.valid after.1 after.2 c.requires.at c.cell_index-at.ensures c.verdict_at.result
    c.verdict_at.ensures

pub returns-in-NoCell-clause-open : goal.returns-in-NoCell-clause-open
returns-in-NoCell-clause-open c =
    let after = c.requires.after in
    let made = c.verdict_at-in-NoCell in
    has_verdict c.args.self.now after.0 c.args.board.now c.args.index c.cell_index-at.result
    c.requires.valid after.1 after.2 c.requires.at c.cell_index-at.ensures made.result made.ensures

pub returns-in-NoCell-clause-none : goal.returns-in-NoCell-clause-none
returns-in-NoCell-clause-none c =
    let after = c.requires.after in
    let made = c.verdict_at-in-NoCell in
    has_none c.args.self.now after.0 c.args.board.now c.args.index c.cell_index-at.result
    c.requires.valid after.1 after.2 c.requires.at c.cell_index-at.ensures made.result made.ensures
