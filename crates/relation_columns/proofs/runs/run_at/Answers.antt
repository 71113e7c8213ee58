use Rattle.std.proofs.Common.{◌<◌, ◌≤◌, ◌+◌, length, get_or, arith}
use Rattle.relation_columns.specs.Storage.{run_ends}
use Rattle.relation_columns.proofs.Expanding.{not_last, start_next, as_many_ends}
use Rattle.relation_columns.proofs.runs.run_at.Goals as goal

pub loop-run-preserved : goal.loop-run-preserved
loop-run-preserved g c =
    let ends = run_ends c.args.runs.now in
    let many = as_many_ends c.args.runs.now in
    let inside : c.loop-run.run < length ends = omega (arith, many, c.loop-run.invariant.0) in
    let low : get_or ends c.loop-run.run 0 ≤ c.args.at = omega (arith, c.end_at.ensures, c.loop-run-test.true) in
    let next : c.loop-run.run + 1 < length ends = not_last _ _ _ inside low c.requires.inside in
    (omega (arith, many, next), start_next _ _ _ inside low)
