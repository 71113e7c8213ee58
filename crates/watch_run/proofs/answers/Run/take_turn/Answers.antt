use Rattle.std.proofs.Common.{take, rules}
use Rattle.std.proofs.lemmas.List.{length-take-le}
use Rattle.watch_run.proofs.Failing.{one_paid}
use Rattle.watch_run.proofs.Gaining.{none_read}
use Rattle.watch_run.proofs.Fronts.{on_err, front_none, front_so, front_on, none_of}
use Rattle.watch_run.proofs.answers.Run.take_turn.Goals as goal

pub returns-in_err-take_bytes-in-Ok-clause-cut : goal.returns-in_err-take_bytes-in-Ok-clause-cut
returns-in_err-take_bytes-in-Ok-clause-cut g c =
    on_err _ _ (front_so _ _ _ _ _ _ _ _ _
    (λ x lines. front_on c.args.line.now.items _ _ _ x c.in-Ok.ensures.bytes.0 lines)
    c.in_err-take_bytes-in-Ok.ensures.cut)

pub returns-in-Err-clause-cut : goal.returns-in-Err-clause-cut
returns-in-Err-clause-cut g c =
    front_none _ _ _ _ _ _ _ (none_of c.args.line.now.items _) (none_read _)

pub returns-in_ok-take_bytes-in-Ok-clause-paid : goal.returns-in_ok-take_bytes-in-Ok-clause-paid
returns-in_ok-take_bytes-in-Ok-clause-paid g c = λ on.
    let count = length-take-le c.in-Ok.n c.read_some.new.buffer (search rules) in
    one_paid (take c.in-Ok.n c.read_some.new.buffer) (g.S.ByteSource.remaining c.args.source.now)
    (g.S.ByteSource.remaining c.read_some.new.self) (search rules) c.in-Ok.ensures.bytes.0
