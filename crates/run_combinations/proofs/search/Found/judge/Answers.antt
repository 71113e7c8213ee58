use Rattle.std.proofs.Common.{min}
use Rattle.run_combinations.specs.Search.{prefix_lists, tally}
use Rattle.run_combinations.proofs.Judging.{known, too_much, judged}
use Rattle.run_combinations.proofs.search.Found.judge.Goals as goal

pub returns-in-None : goal.returns-in-None
returns-in-None c =
    λ fits few. too_much (min c.args.locations 128) (prefix_lists c.args.prefix.now)
    (tally c.args.self.now) c.show.new.self c.max-orders.result c.saturating_sub.result
    (known _ _ _ c.deref.result.now c.deref-2.result.now c.deref-3.result.now c.order_count.result _
    _ _ c.deref.ensures.value c.deref-2.ensures.value c.deref-3.ensures.value fits
    c.order_count.ensures c.max-orders.ensures c.in_ok-show.ensures c.saturating_sub.ensures
    few)
    (rw c.in-None.is at c.in_ok-read_choices.ensures)

pub returns-in_ok-keep-in-Some : goal.returns-in_ok-keep-in-Some
returns-in_ok-keep-in-Some c =
    λ fits few. judged (min c.args.locations 128) (prefix_lists c.args.prefix.now)
    (tally c.args.self.now) (tally c.keep.new.self) c.show.new.self c.max-orders.result
    c.saturating_sub.result c.in-Some.read_choices.items
    (known _ _ _ c.deref.result.now c.deref-2.result.now c.deref-3.result.now c.order_count.result _
    _ _ c.deref.ensures.value c.deref-2.ensures.value c.deref-3.ensures.value fits
    c.order_count.ensures c.max-orders.ensures c.in_ok-show.ensures c.saturating_sub.ensures
    few)
    (rw c.in-Some.is at c.in_ok-read_choices.ensures) c.in_ok-keep-in-Some.ensures
