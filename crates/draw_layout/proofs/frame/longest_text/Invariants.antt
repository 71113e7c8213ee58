use Rattle.std.proofs.Common.{◌≡◌, take}
use Rattle.std.specs.List.{fold}
use Rattle.draw_layout.specs.Layout.{longest_in}
use Rattle.draw_layout.proofs.frame.longest_text.Given as goal

abbrev pub invariant-loop-thread : goal.invariant-loop-thread
invariant-loop-thread l =
    l.most
    ≡ fold (λ most thread. longest_in most thread.items) (longest_in 12 l.picture.initial.items)
    (take l.thread-index l.picture.threads.items)
