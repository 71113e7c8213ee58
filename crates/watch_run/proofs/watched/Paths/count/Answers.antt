use Rattle.std.proofs.Common.{sym}
use Rattle.watch_run.proofs.Paths.{all_long}
use Rattle.watch_run.proofs.watched.Paths.count.Goals as goal

pub returns-clause-all : goal.returns-clause-all
returns-clause-all c = sym (all_long c.args.self.models.now c.args.self.tests.now)
