use Rattle.session_run.proofs.Sessions.{not_begun}
use Rattle.session_run.proofs.running.session_heard.Goals as goal

pub returns-in_default-clause-written : goal.returns-in_default-clause-written
returns-in_default-clause-written g c =
    not_begun (g.S.ByteSource.remaining c.args.source.now) (g.K.ByteSink.contents c.args.sink.now)
