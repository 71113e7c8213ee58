use Rattle.std.proofs.Common.{◌≡◌, arith, get_or, ap, ◌∙◌}
use Rattle.litmus_table.specs.declared.late.PlacedThread.{PlacedThread}
use Rattle.litmus_words.specs.Machine.{noted}
use Rattle.litmus_table.specs.Reading.{thread_of}
use Rattle.litmus_table.proofs.Threads.{put_is, put_nowhere}
use Rattle.litmus_table.proofs.table.Table.put.Goals as goal

pub returns-in_ok-push-clause-threads : goal.returns-in_ok-push-clause-threads
returns-in_ok-push-clause-threads c =
    let e : thread_of c.push.new.self ≡ noted c.args.step c.args.offset (thread_of c.index_mut.result.now) = c.in_ok-push.ensures in
    let v : c.index_mut.result.now ≡ get_or c.args.self.now.threads.items c.args.self.now.column c.index_mut.result.now = c.index_mut.ensures.value in
    put_is c.args.self.now.threads.items c.args.self.now.column c.args.step c.args.offset
    c.push.new.self c.index_mut.result.now (omega arith)
    (e ∙ ap (λ (t : PlacedThread). noted c.args.step c.args.offset (thread_of t)) v)

pub returns-else-self-len-clause-threads : goal.returns-else-self-len-clause-threads
returns-else-self-len-clause-threads c =
    put_nowhere c.args.self.now.threads.items c.args.self.now.column c.args.step c.args.offset
    (omega arith)
