use Rattle.std.proofs.Common.{◌≡◌, ◌<◌, ◌∙◌, ap, List, length, arith}
use Rattle.std.specs.Arc.{arc_value}
use Rattle.binding_graph.specs.declared.resolved.Resolved.{Resolved}
use Rattle.binding_graph.specs.declared.resolved.ResolvedItem.{ResolvedItem}
use Rattle.bench_items.specs.Items.{role_content}
use Rattle.bench_items.specs.Naming.{role_at, with_role_names}
use Rattle.bench_items.proofs.Naming.{holds_itself}
use Rattle.bench_items.proofs.Sharing.{shared_item}
use Rattle.bench_items.proofs.items.SharedItem.new.Goals as goal

pub invariant_of-result : goal.invariant_of-result
invariant_of-result c =
    let all : List ResolvedItem = (arc_value c.args.resolved).items.items in
    let same : c.deref.result.now.items.items ≡ all = ap (λ (r : Resolved). r.items.items) c.deref.ensures in
    let within : c.args.index < length all = omega (arith, c.requires, (arc_value c.args.resolved).items.ok.0) in
    let role : role_content c.index.result.now.role ≡ role_at all c.args.index = shared_item c.deref.result.now.items.items all c.args.index c.index.result.now same c.index.ensures within in
    record { within = c.requires; named = holds_itself (arc_value c.in_ok-history.history).items _ (role_at all c.args.index) (c.in_ok-history.ensures ∙ ap (with_role_names _) role) }

pub returns-clause-history : goal.returns-clause-history
returns-clause-history c =
    let all : List ResolvedItem = (arc_value c.args.resolved).items.items in
    let same : c.deref.result.now.items.items ≡ all = ap (λ (r : Resolved). r.items.items) c.deref.ensures in
    let within : c.args.index < length all = omega (arith, c.requires, (arc_value c.args.resolved).items.ok.0) in
    c.in_ok-history.ensures
    ∙ ap (with_role_names _) (shared_item c.deref.result.now.items.items all c.args.index
    c.index.result.now same c.index.ensures within)
