use Rattle.std.proofs.Common.{rules, vec_len, List, [], Bool, sym, subst}
use Rattle.binding_graph.specs.Reach.{AreSpread}
use Rattle.binding_graph.proofs.Reaching.{used_spread, reached_list, reached_within}
use Rattle.binding_graph.proofs.reach.used.Goals as goal

pub returns-clause-reached : goal.returns-clause-reached
returns-clause-reached c =
    let spread : AreSpread c.args.resolved.now.items.items c.spread.new.marks.items [] =
    used_spread c.args.resolved.now.items.items c.deref.result.now c.deref-2.result.now c.len.result
    c.in_ok-marks.marks.items c.mark_checks.new.marks.items c.spread.new.marks.items
    c.in_ok-waiting.waiting.items c.mark_checks.new.waiting.items
    c.deref.ensures.value c.deref-2.ensures.value (search rules) c.in_ok-waiting.ensures.items
    (search rules) c.in_ok-mark_checks.ensures c.in_ok-spread.ensures in
    reached_list c.args.resolved.now.items.items c.deref-3.result.now c.marked_indexes.result
    (subst (λ (m : List Bool). AreSpread c.args.resolved.now.items.items m [])
    (sym c.deref-3.ensures.value) spread) c.marked_indexes.ensures.rising
    c.marked_indexes.ensures.exact

pub returns-clause-within : goal.returns-clause-within
returns-clause-within c =
    reached_within c.args.resolved.now.items.items (vec_len c.args.resolved.now.items)
    c.marked_indexes.result (search rules) (returns-clause-reached c)
