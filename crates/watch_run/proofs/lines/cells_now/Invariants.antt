use Rattle.std.proofs.Common.{◌≡◌, map, take}
use Rattle.outcome_texts.specs.Cells.{cell_of}
use Rattle.watch_run.specs.Boards.{shown_cells, AreCellsClosed}
use Rattle.watch_run.proofs.lines.cells_now.Given as goal

-- the cells under the models so far, none of which is open
abbrev pub invariant-loop-model : goal.invariant-loop-model
invariant-loop-model g l =
    record {
      cells : map cell_of l.cells.items ≡ shown_cells l.view l.name (take l.model-index l.models);
      closed : AreCellsClosed l.view l.name (take l.model-index l.models);
    }
