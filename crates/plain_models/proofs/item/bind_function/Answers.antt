use Rattle.std.proofs.Common.{refl}
use Rattle.plain_models.specs.declared.scope.Bound.TheVariants as bounds
use Rattle.plain_models.proofs.item.bind_function.Goals as goal

pub returns : goal.returns
returns c = (
  record { name = c.in_ok-name.name; bound = bounds.Function c.args.index },
  c.in_ok-push.ensures.items,
  c.in_ok-name.ensures,
  refl,
)
