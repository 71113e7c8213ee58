use Rattle.std.proofs.Common.{map}
use Rattle.binding_shapes.specs.Shapes.{role_shape}
use Rattle.bench_items.specs.Items.{role_content}
use Rattle.bench_values.proofs.Making.{columns_over}
use Rattle.bench_values.proofs.run.group_columns.Goals as goal

pub returns : goal.returns
returns c = λ over.
    columns_over c.in_ok-item.item.role (role_shape (role_content c.args.role.now))
    (map (λ v. v.now) c.args.values.now) c.args.space.now c.deref-2.result.now
    c.in_ok-inputs.inputs.items c.deref.result.now c.eval_group.result over c.deref-2.ensures.value
    c.deref.ensures.value c.in_ok-inputs.ensures c.in_ok-item.ensures c.eval_group.ensures.values
