use Rattle.std.proofs.Common.{◌≡◌, ◌++◌, drop}
use Rattle.draw_svg.specs.Svg.{grounds}
use Rattle.draw_svg.proofs.element.put_grounds.Given as goal

-- what is written, with what is left to write, is all
abbrev pub invariant-loop-thread : goal.invariant-loop-thread
invariant-loop-thread l =
    l.text.items
    ++ grounds l.layout l.thread (drop l.thread l.layout.lefts.items) (drop l.thread l.threads)
    ≡ l.initial.text.items ++ grounds l.layout 0 l.layout.lefts.items l.threads
