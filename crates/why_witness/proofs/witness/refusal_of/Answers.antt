use Rattle.std.proofs.lemmas.Result.{IfOk-weaker}
use Rattle.why_witness.proofs.Explaining.{relation_refused, set_refused}
use Rattle.why_witness.proofs.witness.refusal_of.Goals as goal

pub returns-in-Sets : goal.returns-in-Sets
returns-in-Sets c =
    rw c.in-Sets.is (set_refused c.args.check.now c.in-Sets.sets c.args.candidate
    c.member_set.result c.set_refusal.result c.member_set.ensures c.set_refusal.ensures)

pub returns-in-Relations : goal.returns-in-Relations
returns-in-Relations c =
    rw c.in-Relations.is (IfOk-weaker c.relation_refusal.result _ _
    (λ o h. relation_refused c.args.check.now c.in-Relations.relations c.args.candidate
    c.pair_relation-relation.result o c.pair_relation-relation.ensures h)
    c.relation_refusal.ensures)
