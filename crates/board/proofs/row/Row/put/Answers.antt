use Rattle.std.proofs.Common.{ap, sym, arith}
use Rattle.std.proofs.lemmas.List.{length-map}
use Rattle.std.specs.Prelude.{option_map}
use Rattle.std.specs.Arc.{arc_value}
use Rattle.board.proofs.Changed.{map-set, changed-past, row_of}
use Rattle.board.proofs.row.Row.put.Goals as goal

pub returns-then-index-len : goal.returns-then-index-len
returns-then-index-len c =
    rw (← c.self.view_is) (ap (row_of (arc_value c.self.inside.name)) (map-set
    (option_map arc_value) (option_map arc_value c.args.cell) c.self.inside.cells.items
    c.args.index c.replace.new.dest (omega arith)
    (ap (option_map arc_value) c.replace.ensures.after)))

pub returns-else-index-len : goal.returns-else-index-len
returns-else-index-len c =
    rw (← c.self.view_is) (ap (row_of (arc_value c.self.inside.name)) (sym (changed-past
    (λ _. option_map arc_value c.args.cell) _ c.args.index
    (omega (arith, length-map c.self.inside.cells.items (option_map arc_value))))))
