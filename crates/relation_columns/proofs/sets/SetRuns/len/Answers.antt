use Rattle.std.proofs.Common.{◌∙◌, sym, ap, length}
use Rattle.relation_columns.specs.Runs.{last_end}
use Rattle.relation_columns.specs.Storage.{run_ends}
use Rattle.relation_columns.proofs.Expanding.{length-runs}
use Rattle.relation_columns.proofs.sets.SetRuns.len.Goals as goal

pub returns : goal.returns
returns c =
    c.end_of.ensures
    ∙ (ap (λ rs. last_end 0 (run_ends rs)) c.deref.ensures.value
    ∙ (sym (length-runs _ _ c.self.invariant) ∙ ap length c.self.view_is))
