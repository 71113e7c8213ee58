use Rattle.std.proofs.Common.{◌∙◌, ap}
use Rattle.cells.specs.Stages.{tasks_in}
use Rattle.cells.proofs.Jobs.{tasks_last}
use Rattle.cells.proofs.bench.Bench.claim_next.Goals as goal

pub returns-in-Ok-clause-answered : goal.returns-in-Ok-clause-answered
returns-in-Ok-clause-answered g c = (
  c.in-Ok-Some.ensures.unspent,
  c.in-Ok-Some.job,
  c.claim_number-claim.ensures,
  rw c.in-Ok-Some.field-0-is at c.in-Ok-Some.ensures.given,
  ap tasks_in c.in-Ok.ensures.items ∙ tasks_last c.args.jobs.now.items _,
)
