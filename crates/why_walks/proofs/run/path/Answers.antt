use Rattle.std.proofs.Common.{arith}
use Rattle.why_walks.proofs.Walking.{path_inside}
use Rattle.why_walks.proofs.run.path.Goals as goal
use Rattle.why_walks.proofs.run.path.Goals.{else-from-count-via-then-from-count+else-to-count, else-from-count-via-else-from-count}

pub returns-else-from-count : goal.returns-else-from-count
returns-else-from-count c = λ p.
    let inside = path_inside c.args.relation.now c.count.ensures.regular c.args.from c.args.to p in
    elim c.else-from-count.branch [
      | else-from-count-via-then-from-count+else-to-count w ↦ absurd (omega
          (arith, w.if-to-count.false, w.count-then-from-count.ensures.value, inside.1))
      | else-from-count-via-else-from-count w ↦ absurd (omega (
        arith,
        w.if-from-count.false,
        c.count.ensures.value,
        inside.0,
      ))
    ]
