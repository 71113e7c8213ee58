use Rattle.std.proofs.Common.{sym, subst}
use Rattle.bench_nodes.specs.Nodes.{item_stamp}
use Rattle.bench_parts.specs.Stamps.{IsPartNow}
use Rattle.bench_parts.specs.Written.{item_text}
use Rattle.bench_parts.proofs.ItemRows.{parts_go_on}
use Rattle.bench_parts.proofs.item_laws.items_are_parts_after.Goals as goal

pub returns : goal.returns
returns c = λ w v number facts a told of.
    let p = w.state.parts in let q = v.state.parts in
    subst
    (λ o. IsPartNow (item_text w.models of) (item_stamp p.table.items.items of) number o
    (item_stamp q.table.items.items of))
    (sym (told of))
    (parts_go_on p.last number p.table.items.items q.table.items.items p.roles.items q.roles.items
    (item_text w.models) q.kinds.items facts a of)
