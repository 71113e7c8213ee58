use Rattle.std.proofs.Common.{List, [], map, ap, ◌∙◌}
use Rattle.std.proofs.lemmas.Result.{IfOk-weaker}
use Rattle.thread_runs.specs.declared.value.Value.{Value}
use Rattle.thread_runs.specs.AllRuns.{all_over, beginning_at, shown_whole, thread_of}
use Rattle.thread_runs.proofs.RunList.{all_over_none}
use Rattle.thread_runs.proofs.RunsExact.{shows_runs}
use Rattle.thread_runs.proofs.enumerate.runs_of.Goals as goal

pub returns-clause-runs : goal.returns-clause-runs
returns-clause-runs c = IfOk-weaker c.runs_over.result _ _
    (λ v h rising there. shows_runs (thread_of c.args.program.now c.args.thread)
    c.args.domain.now.values.items v.items rising
    (h there
    ∙ ap
    (λ (vs : List Value). map shown_whole (all_over vs []
    (thread_of c.args.program.now c.args.thread).lines (beginning_at
    (thread_of c.args.program.now c.args.thread).first))) c.deref.ensures.value
    ∙ ap (λ (bs : List _). map shown_whole bs) (all_over_none c.args.domain.now.values.items
    (thread_of c.args.program.now c.args.thread).lines (beginning_at
    (thread_of c.args.program.now c.args.thread).first))))
    c.runs_over.ensures.runs
