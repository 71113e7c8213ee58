use Rattle.std.proofs.Common.{ℕ, List, Vec, map, ap, subst, ◌∙◌}
use Rattle.std.specs.declared.alloc.Global.{Global}
use Rattle.meaning.specs.Sets.{IsListOf}
use Rattle.plain_events.specs.Choices.{pick, lists_as, IsIndexChoice}
use Rattle.plain_executions.specs.Executions.{order_lists_as}
use Rattle.plain_executions.proofs.picked_orders.order_products.Goals as goal

pub returns : goal.returns
returns c = (
  lists_as c.in_ok-all.all.items,
  subst (λ (ns : List ℕ). IsListOf (IsIndexChoice ns) (lists_as c.in_ok-all.all.items)) (c.deref.ensures.value ∙ c.in_ok-counts.ensures) c.in_ok-all.ensures,
  c.in_ok-rows.ensures
      ∙ ap (λ (l : List (Vec ℕ Global)). map (pick (order_lists_as c.args.lists.now)) (lists_as l)) c.deref-2.ensures.value,
)
