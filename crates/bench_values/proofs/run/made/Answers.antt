use Rattle.std.proofs.Common.{map}
use Rattle.bench_values.specs.Spaces.{space_content}
use Rattle.bench_values.proofs.Making.{space_there, space_missing}
use Rattle.bench_values.proofs.run.made.Goals as goal

pub returns-in-Some : goal.returns-in-Some
returns-in-Some c =
    c.made_over.ensures (space_there (map (λ v. v.now) c.args.values.now)
    (space_content c.in-Some.space.now) c.in-Some.ensures)

pub returns-in-None : goal.returns-in-None
returns-in-None c =
    c.made_over-in-None.ensures (space_missing (map (λ v. v.now) c.args.values.now)
    (space_content c.no_space.result) c.in-None.ensures c.no_space.ensures)
