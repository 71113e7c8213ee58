use Rattle.std.proofs.Common.{IfOk, map, sym, subst}
use Rattle.bench_items.specs.Items.{shared_role, shared_history}
use Rattle.bench_values.specs.Makes.{Makes}
use Rattle.bench_values.specs.Views.{given_content}
use Rattle.bench_values.specs.declared.given.GivenParts.{GivenParts}
use Rattle.bench_values.proofs.Making.{item_over}
use Rattle.bench_values.proofs.run.made_over.Goals as goal

pub returns-in-Item : goal.returns-in-Item
returns-in-Item c = λ over.
    let item = c.in-Item.item in
    let made = item_over c.item.result.now.role (shared_role item) (shared_history item) (map (λ v. v.now) c.args.values.now) c.item_values.result c.item.ensures.role (c.item_values.ensures over) in
    subst
    (λ (p : GivenParts). IfOk c.item_values.result (λ v.
    Makes (given_content p) (map (λ v. v.now) c.args.values.now) v.items))
    (sym c.in-Item.is) made
