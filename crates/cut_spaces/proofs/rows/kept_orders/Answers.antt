use Rattle.std.proofs.Common.{List, [], ◌∷◌, ℕ, sym, subst}
use Rattle.cut_spaces.specs.Rows.{KeepsOrders}
use Rattle.cut_spaces.proofs.Orders.{no_location, one_location, rows_positive}
use Rattle.cut_spaces.proofs.rows.kept_orders.Goals as goal

pub loop-location-init : goal.loop-location-init
loop-location-init c =
    subst (λ (l : List (List ℕ)). KeepsOrders c.args.item.now c.args.combination.now ([] ∷ []) l)
    (sym c.of_no_store-orders.ensures) (no_location c.args.item.now c.args.combination.now)

pub followed_by-requires : goal.followed_by-requires
followed_by-requires c =
    rows_positive c.args.item.now c.args.combination.now c.loop-location.location c.in_ok-rows.rows
    c.in_ok-rows.ensures

pub loop-location-preserved : goal.loop-location-preserved
loop-location-preserved c =
    one_location c.args.item.now c.args.combination.now c.loop-location.location c.in_ok-rows.rows
    c.loop-location.orders c.in_ok-orders.orders c.in_ok-rows.ensures c.loop-location.invariant
    c.in_ok-orders.ensures
