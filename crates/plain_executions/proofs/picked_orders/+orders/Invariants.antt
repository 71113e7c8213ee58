use Rattle.std.proofs.Common.{◌+◌, ◌*◌, length}
use Rattle.plain_executions.proofs.picked_orders.+orders.Given as goal

abbrev pub decreases-put_picked_orders : goal.decreases-put_picked_orders
decreases-put_picked_orders l = 3 * length l.lists.now

abbrev pub decreases-put_both_orders : goal.decreases-put_both_orders
decreases-put_both_orders l = 3 * length l.lists.now + 1

abbrev pub decreases-put_orders_behind : goal.decreases-put_orders_behind
decreases-put_orders_behind l = 3 * length l.lists.now + 2
