use Rattle.std.proofs.Common.{[], ◌∷◌}
use Rattle.watch_run.proofs.Gaining.{gains_none, in_byte, none_read}
use Rattle.watch_run.proofs.Fronts.{on_err, front_none, front_so, line_in, none_in}
use Rattle.watch_run.proofs.answers.Run.take_byte.Goals as goal

pub returns-clause-answers : goal.returns-clause-answers
returns-clause-answers g c =
    gains_none _ _ _ _ _ _ (in_byte c.args.line.now.items c.push_byte.new.line.items c.args.byte
    c.if-byte-eq10.false (rw c.in_ok-memory.ensures.value at c.push_byte.ensures))

pub returns-in_err-write_answer-clause-cut : goal.returns-in_err-write_answer-clause-cut
returns-in_err-write_answer-clause-cut g c =
    on_err _ _ (front_so _ _ _ _ _ _ _ _ _
    (line_in c.args.line.now.items c.args.byte c.if-byte-eq10.true)
    (rw c.deref.ensures.value at c.in_err-write_answer.ensures.cut))

pub returns-in_err-memory-clause-cut : goal.returns-in_err-memory-clause-cut
returns-in_err-memory-clause-cut g c =
    on_err _ _ (front_none _ _ _ _ _ _ _ (none_in c.args.line.now.items (c.args.byte ∷ []))
    (none_read _))
