use Rattle.std.proofs.Common.{ap}
use Rattle.std.proofs.lemmas.Result.{IfOk-weaker, on_err_weaker}
use Rattle.meaning_bench.proofs.Events.{plain_on, texts_made}
use Rattle.meaning_bench.proofs.run_events.Goals as goal

pub returns-clause-after : goal.returns-clause-after
returns-clause-after g c =
    IfOk-weaker c.run_events.result _ _
    (λ replies h. texts_made c.args.bench.now c.run_events.new.self c.args.events.now replies.items
    c.taken-taken.ensures.right.valid h)
    c.run_events.ensures.answered

pub returns-clause-same : goal.returns-clause-same
returns-clause-same g c =
    on_err_weaker c.run_events.result (λ h. ap plain_on h) c.run_events.ensures.err
