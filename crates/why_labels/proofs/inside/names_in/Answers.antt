use Rattle.std.proofs.lemmas.Result.{IfOk-weaker}
use Rattle.why_labels.proofs.Earlier.{earlier_all}
use Rattle.why_labels.proofs.inside.names_in.Goals as goal

pub returns-clause-earlier : goal.returns-clause-earlier
returns-clause-earlier c =
    IfOk-weaker c.earlier_names.result _ _
    (λ v e. rw e (earlier_all c.args.item c.args.inputs.now c.deref-2.result.now))
    c.earlier_names.ensures
