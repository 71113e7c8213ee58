use Rattle.std.proofs.lemmas.Bool.Decides.{same_from_decides}
use Rattle.bench_parts.specs.Equal.{same_content}
use Rattle.bench_parts.proofs.Equality.{value_exact}
use Rattle.bench_parts.proofs.jobs.is_same.Goals as goal

pub returns : goal.returns
returns c =
    same_from_decides c.is_same.result (same_content c.args.a.now c.args.b.now) c.is_same.ensures
    (value_exact c.args.a.now c.args.b.now)
