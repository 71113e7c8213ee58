use Rattle.std.proofs.Common.{rules}
use Rattle.bench_texts.specs.Held.{texts_of}
use Rattle.session_views.specs.Progress.{settled_under}
use Rattle.session_views.proofs.Settled.{capped_two, same_progress}
use Rattle.session_views.proofs.progress.difference_progress.Goals as goal

pub returns : goal.returns
returns c =
    same_progress c.saturating_add.result c.saturating_mul.result _ _
    (capped_two (settled_under (texts_of c.args.texts.now) c.args.board.now) c.args.first.now
    c.args.second.now c.settled_under-settled.result c.settled_under.result c.saturating_add.result
    (search rules) (search rules) c.saturating_add.ensures) (search rules)
