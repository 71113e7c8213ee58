use Rattle.std.proofs.Common.{◌<◌, ◌+◌, ◌-◌, ◌/◌, arith, length}
use Rattle.relation_columns.specs.Storage.{run_ends}
use Rattle.relation_columns.proofs.Expanding.{start_at, as_many_ends}
use Rattle.relation_columns.proofs.runs.found_run.Goals as goal

pub halves-preserved-then-end_at-at : goal.halves-preserved-then-end_at-at
halves-preserved-then-end_at-at g c =
    let middle = c.halves.low + (c.halves.high - c.halves.low) / 2 in
    let test = c.halves-test.true in
    let before = c.halves.invariant in
    let under : middle < c.halves.high = omega (arith, test) in
    let above : 0 < middle = omega (arith, test) in
    let inside : middle < length c.args.runs.now = omega (arith, under, before.1) in (
      under,
      before.1,
      rw
          (start_at 0 (run_ends c.args.runs.now) middle (middle - 1) (omega (arith, above))
          (omega (arith, inside, as_many_ends c.args.runs.now)))
          (omega (arith, c.end_at.ensures, c.if-end_at-at.true)),
    )
