use Rattle.std.proofs.Common.{ap, ◌∙◌, map}
use Rattle.std.specs.Prelude.{option_map}
use Rattle.std.specs.Arc.{arc_value}
use Rattle.bench_texts.proofs.Lists.{map-remove}
use Rattle.board.proofs.Changed.{row_of}
use Rattle.board.proofs.row.Row.narrow.Goals as goal

pub returns-then-index-len : goal.returns-then-index-len
returns-then-index-len c =
    rw (← c.self.view_is) (ap (row_of (arc_value c.self.inside.name)) (ap
    (map (option_map arc_value)) c.remove.ensures.items
    ∙ map-remove (option_map arc_value) c.self.inside.cells.items c.args.index))
