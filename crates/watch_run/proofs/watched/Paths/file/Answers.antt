use Rattle.std.proofs.Common.{length, ◌-◌, arith}
use Rattle.watch_run.proofs.Paths.{model_at, test_at}
use Rattle.watch_run.proofs.watched.Paths.file.Goals as goal

pub returns-then-index-self : goal.returns-then-index-self
returns-then-index-self c =
    model_at c.args.self.models.now c.args.self.tests.now c.args.index _ (omega arith)

pub returns : goal.returns
returns c =
    test_at c.args.self.models.now c.args.self.tests.now c.args.index
    (c.args.index - length c.args.self.models.now) _ (omega arith) (omega (arith, c.requires))
