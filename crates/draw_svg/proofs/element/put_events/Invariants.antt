use Rattle.std.proofs.Common.{◌≡◌, ◌++◌, drop}
use Rattle.draw_svg.specs.Svg.{events_from}
use Rattle.draw_svg.proofs.element.put_events.Given as goal

-- what is written, with what is left to write, is all
abbrev pub invariant-loop-index : goal.invariant-loop-index
invariant-loop-index l =
    l.text.items ++ events_from l.frame l.left l.index (drop l.index l.labels)
    ≡ l.initial.text.items ++ events_from l.frame l.left 0 l.labels
