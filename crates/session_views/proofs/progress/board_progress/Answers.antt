use Rattle.std.proofs.Common.{Some, ap, sym, ◌∙◌}
use Rattle.bench_texts.specs.Held.{texts_of}
use Rattle.session_views.specs.Progress.{progress_of, table_progress}
use Rattle.session_views.proofs.progress.board_progress.Goals as goal

pub returns-in-Table : goal.returns-in-Table
returns-in-Table c =
    ap Some c.table_progress.ensures
    ∙ ap (λ names. Some (table_progress (texts_of c.args.texts.now) c.args.board.now names))
    c.as_slice.ensures
    ∙ ap (progress_of (texts_of c.args.texts.now) c.args.board.now) (sym c.in-Table.is)

pub returns-in-Difference : goal.returns-in-Difference
returns-in-Difference c =
    ap Some c.difference_progress.ensures
    ∙ ap (progress_of (texts_of c.args.texts.now) c.args.board.now) (sym c.in-Difference.is)
