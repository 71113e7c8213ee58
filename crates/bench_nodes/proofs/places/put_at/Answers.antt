use Rattle.std.proofs.Common.{◌≡◌, ◌∙◌, ◌++◌, ◌∷◌, [], map, get_or, arith, ap}
use Rattle.std.proofs.lemmas.List.{length-map}
use Rattle.bench_nodes.specs.Places.{slot_names}
use Rattle.bench_nodes.proofs.UserLists.{put_is, put_nowhere}
use Rattle.bench_nodes.proofs.places.put_at.Goals as goal

pub returns-in_ok-push : goal.returns-in_ok-push
returns-in_ok-push c =
    let v : c.index_mut.result.now ≡ get_or c.args.lists.now.items c.args.at c.index_mut.result.now = c.index_mut.ensures.value in
    put_is slot_names c.args.lists.now.items c.args.at c.args.name c.push.new.self
    c.index_mut.result.now (omega arith)
    (c.in_ok-push.ensures.items ∙ ap (λ l. slot_names l ++ c.args.name ∷ []) v)

pub returns-else-at-len : goal.returns-else-at-len
returns-else-at-len c =
    put_nowhere (map slot_names c.args.lists.now.items) c.args.at c.args.name
    (let e = length-map c.args.lists.now.items slot_names in omega (arith, e))
