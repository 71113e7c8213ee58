use Rattle.std.proofs.Common.{List, map, ap, ◌∙◌}
use Rattle.std.proofs.lemmas.Result.{IfOk-weaker}
use Rattle.thread_runs.specs.declared.value.Value.{Value}
use Rattle.thread_runs.specs.AllRuns.{all_over, beginning_at, shown_whole, thread_of}
use Rattle.thread_runs.proofs.Serving.{shows_served}
use Rattle.thread_runs.proofs.enumerate.served_runs_of.Goals as goal

pub returns : goal.returns
returns c = IfOk-weaker c.runs_over.result _ _
    (λ v h rising held there. shows_served c.args.program.now c.args.domain.now.values.items
    c.args.held.now held c.args.thread v.items rising
    (h there
    ∙ ap
    (λ (vs : List Value). map shown_whole (all_over vs c.args.held.now
    (thread_of c.args.program.now c.args.thread).lines (beginning_at
    (thread_of c.args.program.now c.args.thread).first))) c.deref.ensures.value))
    c.runs_over.ensures.runs
