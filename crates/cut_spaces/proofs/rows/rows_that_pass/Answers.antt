use Rattle.std.proofs.Common.{◌≡◌, ◌∙◌, Bool, List, ℕ, length, ap, arith}
use Rattle.std.proofs.lemmas.Result.{IfOk-weaker}
use Rattle.store_orders.specs.Rows.{rows_kept}
use Rattle.store_orders.specs.declared.combination.Combination.{Combination}
use Rattle.cut_spaces.specs.Rows.{KeepsRows}
use Rattle.cut_spaces.proofs.Passing.{answers_enough, orders_of_probe, rows_pass}
use Rattle.cut_spaces.proofs.rows.rows_that_pass.Goals as goal

pub kept-requires : goal.kept-requires
kept-requires c =
    let orders : c.index.result.now.orders ≡ c.args.rows =
    ap (λ (x : Combination). x.orders) c.index.ensures
    ∙ orders_of_probe c.args.combination.now c.args.rows c.in_ok-probes.probes c.index.result.now
    c.in_ok-probes.ensures in
    let long : length c.index.result.now.orders ≡ length c.args.rows = ap (λ (l : List (List ℕ)). length l) orders in
    let answers : length c.deref.result.now ≡ length c.in_ok-answers.answers.items = ap (λ (l : List Bool). length l) c.deref.ensures.value in
    let enough = answers_enough c.args.item.now c.args.combination.now c.args.rows
    c.in_ok-probes.probes c.in_ok-answers.answers.items c.requires c.in_ok-probes.ensures
    c.in_ok-answers.ensures in
    omega (arith, long, answers, enough)

pub returns : goal.returns
returns c =
    let orders : c.index.result.now.orders ≡ c.args.rows =
    ap (λ (x : Combination). x.orders) c.index.ensures
    ∙ orders_of_probe c.args.combination.now c.args.rows c.in_ok-probes.probes c.index.result.now
    c.in_ok-probes.ensures in
    IfOk-weaker c.kept.result
    (λ v. v ≡ rows_kept c.index.result.now.orders c.deref.result.now)
    (λ v. KeepsRows c.args.item.now c.args.combination.now c.args.rows v)
    (λ v e. rows_pass c.args.item.now c.args.combination.now c.args.rows v c.in_ok-probes.probes
    c.in_ok-answers.answers.items c.requires c.in_ok-probes.ensures c.in_ok-answers.ensures
    (e ∙ ap (λ (l : List (List ℕ)). rows_kept l c.deref.result.now) orders
    ∙ ap (λ (l : List Bool). rows_kept c.args.rows l) c.deref.ensures.value)) c.kept.ensures
