use Rattle.evaluation_laws.proofs.Tests.{equal_tests}
use Rattle.evaluation_laws.proofs.equal_tests_give_the_same.Goals as goal

pub returns : goal.returns
returns c = equal_tests c.args.test.now c.args.other.now c.args.model.now
