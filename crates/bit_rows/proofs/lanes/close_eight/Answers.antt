use Rattle.std.proofs.Common.{◌+◌, arith, ◌∙◌}
use Rattle.std.proofs.lemmas.List.{get_or_default}
use Rattle.bit_rows.specs.Rows.{RowsHave}
use Rattle.bit_rows.proofs.Closing.{close_step}
use Rattle.bit_rows.proofs.Registers.{through_middle, as_far}
use Rattle.bit_rows.proofs.lanes.close_eight.Goals as goal

pub loop-k-init : goal.loop-k-init
loop-k-init c rows start = as_far _ (RowsHave rows) _ _ (omega arith) start

pub loop-k-preserved : goal.loop-k-preserved
loop-k-preserved c rows start =
    as_far _ (RowsHave rows) _ _ (omega arith) (close_step (RowsHave rows) (c.args.at + c.loop-k.k)
    _ _ (c.loop-k.invariant rows start)
    (through_middle _ _ _ _ _ _ _ c.requires.half (omega arith)
    (c.index-row.ensures
    ∙ get_or_default c.loop-k.these c.loop-k.k c.index-row.result.now 0
    (omega (arith, c.join-these.ensures.count))) c.join-these.ensures.lanes
    c.join-those.ensures.lanes))

pub returns-clause-pairs : goal.returns-clause-pairs
returns-clause-pairs c rows start =
    as_far _ (RowsHave rows) _ _ (omega arith) (c.loop-k.invariant rows start)
