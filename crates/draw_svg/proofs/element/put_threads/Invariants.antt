use Rattle.std.proofs.Common.{◌≡◌, ◌++◌, drop}
use Rattle.draw_svg.specs.Svg.{threads_boxes}
use Rattle.draw_svg.proofs.element.put_threads.Given as goal

-- what is written, with what is left to write, is all
abbrev pub invariant-loop-thread : goal.invariant-loop-thread
invariant-loop-thread l =
    l.text.items
    ++ threads_boxes l.layout (drop l.thread l.layout.lefts.items) (drop l.thread l.threads)
    ≡ l.initial.text.items ++ threads_boxes l.layout l.layout.lefts.items l.threads
