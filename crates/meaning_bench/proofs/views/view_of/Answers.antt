use Rattle.std.proofs.lemmas.Result.{IfOk-weaker}
use Rattle.meaning_bench.proofs.Named.{cells_by}
use Rattle.meaning_bench.proofs.Both.{both_ok}
use Rattle.meaning_bench.proofs.views.view_of.Goals as goal

pub returns-clause-history : goal.returns-clause-history
returns-clause-history g c =
    both_ok c.newest_view.result _ _ c.newest_view.ensures.legal c.newest_view.ensures.edits

pub returns-clause-says : goal.returns-clause-says
returns-clause-says g c =
    IfOk-weaker c.newest_view.result _ _
    (λ view h. cells_by view (c.histories_are_meant.ensures.tests view h.0) h.1)
    (both_ok c.newest_view.result _ _ c.newest_view.ensures.edits c.newest_view.ensures.right)
