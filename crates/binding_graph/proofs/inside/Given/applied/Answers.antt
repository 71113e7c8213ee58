use Rattle.binding_functions.proofs.Filling.{put_applied}
use Rattle.binding_graph.proofs.Meant.{on_ok}
use Rattle.binding_graph.proofs.inside.Given.applied.Goals as goal

pub returns-clause-part : goal.returns-clause-part
returns-clause-part c = c.applied.ensures

pub returns-clause-template : goal.returns-clause-template
returns-clause-template c = λ ss names ps x xs s kept seen all.
    on_ok c.applied.result
    (put_applied ss names ps x xs s c.args.template.now c.put_function.new.self c.deref.result.now
    seen (rw c.deref.ensures.value all) (λ wholes each.
    c.in_ok-put_function.ensures s wholes kept each))
