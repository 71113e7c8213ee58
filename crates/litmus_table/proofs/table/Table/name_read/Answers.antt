use Rattle.std.proofs.Common.{sym, subst}
use Rattle.litmus_words.specs.Machine.{TableState}
use Rattle.litmus_table.specs.Reading.{threads_of}
use Rattle.litmus_table.specs.Bounds.{AreThreadsUpTo}
use Rattle.litmus_table.proofs.Places.{widened_within}
use Rattle.litmus_table.proofs.table.Table.name_read.Goals as goal

pub returns-then-is_column-clause-within : goal.returns-then-is_column-clause-within
returns-then-is_column-clause-within c = λ n h.
    subst (λ (s : TableState). AreThreadsUpTo n s.threads) (sym c.in_ok-add_thread-in-Word.ensures)
    (widened_within n (threads_of c.args.self.now.threads.items) h)
