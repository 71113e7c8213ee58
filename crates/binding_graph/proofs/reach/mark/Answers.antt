use Rattle.std.proofs.Common.{rules, ◌≡◌, ◌<◌, List, ℕ, false, get_or, length, set, sym, subst, true, arith}
use Rattle.binding_graph.specs.Reach.{Marks}
use Rattle.binding_graph.proofs.Reaching.{marks_new}
use Rattle.binding_graph.proofs.reach.mark.Goals as goal

pub returns-in_ok-push : goal.returns-in_ok-push
returns-in_ok-push c =
    let lt : c.args.item < length c.args.marks.now.items = search (rules, arith) in
    let off : get_or c.args.marks.now.items c.args.item false ≡ false = search rules in
    subst
    (λ (w : List ℕ). Marks (λ k. c.args.item ≡ k) c.args.marks.now.items
    (set c.args.marks.now.items c.args.item true) c.args.waiting.now.items w)
    (sym c.in_ok-push.ensures.items)
    (marks_new c.args.marks.now.items c.args.waiting.now.items c.args.item lt off)
