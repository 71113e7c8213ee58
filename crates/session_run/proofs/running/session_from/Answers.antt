use Rattle.session_run.proofs.Sessions.{not_begun}
use Rattle.bench_instance.proofs.Crossings.{bench_crosses}
use Rattle.session_run.proofs.running.session_from.Goals as goal

pub returns-in_default-clause-written : goal.returns-in_default-clause-written
returns-in_default-clause-written g c =
    not_begun (g.S.ByteSource.remaining c.args.source.now) (g.K.ByteSink.contents c.args.sink.now)

pub returns-in_default-new-clause-written : goal.returns-in_default-new-clause-written
returns-in_default-new-clause-written g c =
    not_begun (g.S.ByteSource.remaining c.args.source.now) (g.K.ByteSink.contents c.args.sink.now)

pub returns-in_default-viewer-clause-written : goal.returns-in_default-viewer-clause-written
returns-in_default-viewer-clause-written g c =
    not_begun (g.S.ByteSource.remaining c.args.source.now) (g.K.ByteSink.contents c.args.sink.now)

pub returns-in_default-clone-clause-written : goal.returns-in_default-clone-clause-written
returns-in_default-clone-clause-written g c =
    not_begun (g.S.ByteSource.remaining c.args.source.now) (g.K.ByteSink.contents c.args.sink.now)

pub returns-in_default-hire_crew-clause-written : goal.returns-in_default-hire_crew-clause-written
returns-in_default-hire_crew-clause-written g c =
    not_begun (g.S.ByteSource.remaining c.args.source.now) (g.K.ByteSink.contents c.args.sink.now)

-- what crosses to the workers holds no thread's own
pub hire_crew-requires-send-X : goal.hire_crew-requires-send-X
hire_crew-requires-send-X g c κs within = search bench_crosses depth 100 fits 20000

pub hire_crew-requires-send-X-Given : goal.hire_crew-requires-send-X-Given
hire_crew-requires-send-X-Given g c κs within = search bench_crosses depth 100 fits 20000

pub hire_crew-requires-send-X-Prepared : goal.hire_crew-requires-send-X-Prepared
hire_crew-requires-send-X-Prepared g c κs within = search bench_crosses depth 100 fits 20000

pub hire_crew-requires-sync-X : goal.hire_crew-requires-sync-X
hire_crew-requires-sync-X g c κs within = search bench_crosses depth 100 fits 20000

pub hire_crew-requires-sync-X-Given : goal.hire_crew-requires-sync-X-Given
hire_crew-requires-sync-X-Given g c κs within = search bench_crosses depth 100 fits 20000

pub hire_crew-requires-sync-X-Prepared : goal.hire_crew-requires-sync-X-Prepared
hire_crew-requires-sync-X-Prepared g c κs within = search bench_crosses depth 100 fits 20000

pub hire_crew-requires-send-X-Op : goal.hire_crew-requires-send-X-Op
hire_crew-requires-send-X-Op g c κs within = search bench_crosses depth 100 fits 20000

pub hire_crew-requires-sync-X-Op : goal.hire_crew-requires-sync-X-Op
hire_crew-requires-sync-X-Op g c κs within = search bench_crosses depth 100 fits 20000
