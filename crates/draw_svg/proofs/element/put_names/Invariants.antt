use Rattle.std.proofs.Common.{◌≡◌, ◌++◌, drop}
use Rattle.draw_svg.specs.Svg.{names_text}
use Rattle.draw_svg.proofs.element.put_names.Given as goal

-- what is written, with what is left to write, is all
abbrev pub invariant-loop-number : goal.invariant-loop-number
invariant-loop-number l =
    l.text.items ++ names_text (drop l.number l.lines) (drop l.number l.arrows)
    ≡ l.initial.text.items ++ names_text l.lines l.arrows
