use Rattle.bench_values.specs.Views.{space_parts}
use Rattle.bench_values.proofs.run.space_value.Goals as goal

pub returns : goal.returns
returns c = c.test_space.ensures (space_parts c.args.parts.now) c.in_ok-test.ensures
