use Rattle.std.proofs.lemmas.Result.{IfOk-weaker, IfErr-weaker}
use Rattle.ppc_semantics.proofs.OfTest.{test_domain, test_fault}
use Rattle.ppc_semantics.proofs.rounds.domain.Goals as goal

pub returns-in-Ok-clause-domain : goal.returns-in-Ok-clause-domain
returns-in-Ok-clause-domain c =
    IfOk-weaker c.domain_of.result _ _
    (λ d h. test_domain c.args.test.now c.in-Ok.program d.values.items c.in-Ok.ensures.program
    c.in-Ok.ensures.proper h) c.domain_of.ensures.domain

pub returns-in-Ok-clause-fault : goal.returns-in-Ok-clause-fault
returns-in-Ok-clause-fault c =
    IfErr-weaker c.domain_of.result _ _
    (λ e h. test_fault c.args.test.now c.in-Ok.program e c.in-Ok.ensures.program
    c.in-Ok.ensures.proper h) c.domain_of.ensures.fault
