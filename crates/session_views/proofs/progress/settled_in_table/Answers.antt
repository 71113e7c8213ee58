use Rattle.std.proofs.Common.{◌∙◌}
use Rattle.bench_texts.specs.Held.{texts_of}
use Rattle.session_views.specs.Progress.{settled_under}
use Rattle.session_views.proofs.Settled.{capped_next}
use Rattle.session_views.proofs.progress.settled_in_table.Goals as goal

pub loop-name-preserved : goal.loop-name-preserved
loop-name-preserved c =
    capped_next (settled_under (texts_of c.args.texts.now) c.args.board.now) c.args.names.now
    c.loop-name.name-index c.name-item.result c.loop-name.settled c.settled_under.result
    c.saturating_add-settled.result c.as_bytes.result.now c.loop-name.invariant c.loop-name-test.true
    (c.as_bytes.ensures ∙ c.name-item.is) c.settled_under.ensures c.saturating_add-settled.ensures
