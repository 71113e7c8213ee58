use Rattle.std.proofs.Common.{arith, ap, refl, ◌∙◌, ◌≡◌, ◌<◌, List, length, slice_index_or}
use Rattle.std.proofs.lemmas.Option.{slice_get_read}
use Rattle.std.specs.Arc.{arc_value}
use Rattle.binding_graph.specs.declared.resolved.ResolvedItem.{ResolvedItem}
use Rattle.binding_graph.specs.declared.resolved.Resolved.{Resolved}
use Rattle.bench_items.proofs.Sharing.{shared_item}
use Rattle.bench_items.proofs.items.SharedItem.item.Goals as goal

pub returns-clause-role : goal.returns-clause-role
returns-clause-role c =
    let all : List ResolvedItem = (arc_value c.args.self.now.resolved).items.items in
    let same : c.deref.result.now.items.items ≡ all = ap (λ (r : Resolved). r.items.items) c.deref.ensures in
    let within : c.args.self.now.index < length all = omega (arith, c.args.self.now.within, (arc_value c.args.self.now.resolved).items.ok.0) in
    shared_item c.deref.result.now.items.items all c.args.self.now.index c.index.result.now same
    c.index.ensures within

pub returns-clause-item : goal.returns-clause-item
returns-clause-item c =
    let all : List ResolvedItem = (arc_value c.args.self.now.resolved).items.items in
    let same : c.deref.result.now.items.items ≡ all = ap (λ (r : Resolved). r.items.items) c.deref.ensures in
    let within : c.args.self.now.index < length all = omega (arith, c.args.self.now.within, (arc_value c.args.self.now.resolved).items.ok.0) in
    slice_get_read all (length all) c.args.self.now.index c.index.result.now refl within
    (c.index.ensures
    ∙ ap
    (λ (l : List ResolvedItem).
    slice_index_or l c.args.self.now.index c.index.result.now) same)
