use Rattle.base_names.proofs.Tails.{next_order}
use Rattle.base_names.proofs.reordering.write_tail.Goals as goal

pub returns-clause-next : goal.returns-clause-next
returns-clause-next c = λ previous tail was.
    next_order c.args.events.now previous c.args.order.now c.args.start c.args.stores.now tail was
    c.drop_among.ensures c.put_from.ensures
