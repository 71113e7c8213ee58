use Rattle.std.proofs.Common.{◌≡◌, ◌++◌, drop}
use Rattle.draw_svg.specs.Svg.{stores}
use Rattle.draw_svg.proofs.element.put_stores.Given as goal

-- what is written, with what is left to write, is all
abbrev pub invariant-loop-column : goal.invariant-loop-column
invariant-loop-column l =
    l.text.items
    ++ stores l.layout (drop l.column l.layout.lefts.items) (drop l.column l.labels)
    ≡ l.initial.text.items ++ stores l.layout l.layout.lefts.items l.labels
