use Rattle.base_names.proofs.reordering.write_next_order.Goals as goal

pub returns-in-Some-clause-next : goal.returns-in-Some-clause-next
returns-in-Some-clause-next c =
    λ was. c.write_tail.ensures.next c.args.previous.now
    (rw c.count-count.ensures.value at c.in-Some.ensures) was
