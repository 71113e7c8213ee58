use Rattle.std.proofs.Common.{map}
use Rattle.text_values.specs.TestValue.{content_of}
use Rattle.plain_runs.specs.Runs.{run_as}
use Rattle.plain_executions.proofs.Ordering.{coherent_listed}
use Rattle.plain_executions.proofs.order.coherences.Goals as goal

pub returns : goal.returns
returns c =
    coherent_listed (content_of c.args.test.now) (map run_as c.args.runs.now) c.args.locations.now
    c.in_ok-lists.lists.items c.deref.result.now c.in_ok-all.all.items c.requires.locations
    c.in_ok-lists.ensures c.deref.ensures.value c.in_ok-all.ensures
