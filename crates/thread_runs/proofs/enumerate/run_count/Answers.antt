use Rattle.std.proofs.Common.{List, length, ap, ◌∙◌}
use Rattle.thread_runs.specs.AllRuns.{beginning_at}
use Rattle.thread_runs.proofs.RunList.{all_over_none}
use Rattle.thread_runs.proofs.RunsExact.{has_runs}
use Rattle.thread_runs.proofs.enumerate.run_count.Goals as goal

pub returns : goal.returns
returns c =
    λ rising.
    has_runs (record { lines = c.args.lines.now; first = c.args.first }) c.args.values.now _ rising
    (c.len.ensures ∙ c.in_ok-beginnings_of.field-0.ok.0
    ∙ ap (λ (l : List _). length l) (c.in_ok-beginnings_of.ensures {u = tt})
    ∙ ap (λ (l : List _). length l) (all_over_none c.args.values.now c.args.lines.now
    (beginning_at c.args.first)))
