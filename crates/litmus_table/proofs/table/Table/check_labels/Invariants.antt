use Rattle.std.proofs.Common.{◌≡◌, List, drop}
use Rattle.litmus_tokens.specs.Texts as texts
use Rattle.litmus_table.specs.Late.{Note, first_late}
use Rattle.litmus_table.specs.Laws.{AreNoted}
use Rattle.litmus_table.specs.Reading.{threads_of}
use Rattle.litmus_table.proofs.table.Table.check_labels.Given as goal

abbrev pub invariant-loop-thread : goal.invariant-loop-thread
invariant-loop-thread l =
    (text : List texts.TokenAt) (notes : List (List Note))
    → AreNoted text notes (threads_of l.fn.self.threads.items)
    → first_late notes ≡ first_late (drop l.thread-index notes)
