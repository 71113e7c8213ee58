use Rattle.candidates.proofs.Totals.{test_fault, ready}
use Rattle.candidates.proofs.layout_of.Goals as goal

pub returns-in-Err-domain_of-clause-fault : goal.returns-in-Err-domain_of-clause-fault
returns-in-Err-domain_of-clause-fault c =
    test_fault c.args.test.now c.in-Ok.program c.in-Err-domain_of.fault c.of_domain.result
    c.of_domain.ensures c.in-Ok.ensures.program
    (c.in-Err-domain_of.ensures.fault c.in-Ok.ensures.proper)

pub returns-clause-layout : goal.returns-clause-layout
returns-clause-layout c =
    ready c.args.test.now c.in-Ok.program c.in-Ok-domain_of.domain.values.items c.in-Ok-new.layout
    c.in-Ok.ensures.program (c.in-Ok-domain_of.ensures.domain c.in-Ok.ensures.proper)
    c.in-Ok-new.ensures
