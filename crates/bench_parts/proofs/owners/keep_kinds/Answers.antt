use Rattle.std.proofs.Common.{◌≤◌, min, length, sym, ◌∙◌, arith}
use Rattle.bench_parts.proofs.KindsKept.{past_kinds}
use Rattle.bench_parts.proofs.owners.keep_kinds.Goals as goal

pub returns : goal.returns
returns c =
    let past : min (length c.args.items.now) (length c.args.kinds.now) ≤ c.loop-i.i = omega (arith, c.loop-i-test.false, c.min-count.ensures) in
    sym
    (past_kinds c.args.items.now c.args.kinds.now c.args.new_items.now c.args.new_kinds.now
    c.loop-i.i past)
    ∙ c.loop-i.invariant
