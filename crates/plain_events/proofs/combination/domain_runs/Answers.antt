use Rattle.std.proofs.Common.{map}
use Rattle.text_values.specs.TestValue.{content_of}
use Rattle.plain_runs.specs.Runs.{run_as}
use Rattle.plain_events.proofs.Combining.{domain_listed}
use Rattle.plain_events.proofs.combination.domain_runs.Goals as goal

pub returns : goal.returns
returns c =
    domain_listed (content_of c.args.test.now) c.args.thread c.args.values.now
    (map run_as c.in_ok-runs.runs.items) c.requires c.in_ok-runs.ensures
