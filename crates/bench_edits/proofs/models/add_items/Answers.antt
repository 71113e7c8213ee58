use Rattle.std.proofs.Common.{List, ◌++◌, ◌∙◌, map, sym, subst, append_assoc, zero-add}
use Rattle.std.specs.List.{range_with_len}
use Rattle.std.proofs.lemmas.List.{append-nil}
use Rattle.std.proofs.lemmas.List.FromFn.{map-range_with_len_more}
use Rattle.bench_parts.specs.Items.{ItemFact, AreListsOf, fact_at, resolved_items}
use Rattle.bench_edits.proofs.models.add_items.Goals as goal

pub loop-index-init : goal.loop-index-init
loop-index-init c =
    λ texts facts same lists. subst
    (λ (fs : List ItemFact). AreListsOf c.args.fresh c.args.parts.now texts fs c.args.lists.now)
    (sym (append-nil facts)) lists

pub loop-index-preserved : goal.loop-index-preserved
loop-index-preserved c = λ texts facts same lists.
    let m = c.items_in-items.result in let index = c.loop-index.index in
    let fact = fact_at m.numbers.now m.items.now (resolved_items m) in
    let before = c.loop-index.invariant texts facts same lists in
    let more = c.in_ok-add_item.ensures texts (facts ++ map fact (range_with_len 0 index)) (sym (same _) ∙ sym c.item_text-was.ensures) before in
    rw (map-range_with_len_more fact 0 index index (zero-add index)) (rw append_assoc at more)
