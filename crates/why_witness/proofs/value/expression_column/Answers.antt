use Rattle.why_witness.proofs.Explaining.{values_of_group}
use Rattle.why_witness.proofs.value.expression_column.Goals as goal

pub returns : goal.returns
returns c =
    values_of_group c.args.code.now c.in_ok-group.group.role c.args.inputs.now c.args.space.now
    c.in_ok-columns.columns.items c.swap_remove.result
    c.in_ok-group.ensures c.in_ok-columns.ensures.values c.swap_remove.ensures.value
