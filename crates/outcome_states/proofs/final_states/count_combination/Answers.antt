use Rattle.std.proofs.Common.{◌≡◌, ℕ, ◌+◌, ◌<◌, ◌≤◌, Bool, List, [], cond, map, take, length, sym, ap, arith, ◌∙◌}
use Rattle.std.proofs.lemmas.List.{take_all}
use Rattle.outcome_states.specs.Counting.{count_column}
use Rattle.outcome_states.specs.Ends.{candidate_final_value}
use Rattle.outcome_states.specs.Order.{is_state}
use Rattle.outcome_states.specs.declared.answer.FinalValue.{FinalValue}
use Rattle.outcome_states.proofs.Columns.{by_orders, none_yet, one_order_more, combination_kept}
use Rattle.outcome_states.proofs.Tallies.{no_more_counted, counted_twice, same_counts}
use Rattle.outcome_states.proofs.final_states.count_combination.Goals as goal

pub loop-k-init : goal.loop-k-init
loop-k-init c =
    no_more_counted c.args.tally.now.counts.entries _
    (λ v. none_yet
    (λ o. is_state v (map (candidate_final_value c.args.space.now c.args.combination.now o)
    c.args.observables.now))
    (length c.args.combination.now.reads_from.items)
    (length c.args.combination.now.orders) c.args.kept.now)

pub loop-k-preserved : goal.loop-k-preserved
loop-k-preserved c =
    let lt : c.loop-k.k < length c.args.combination.now.orders = omega (arith, c.loop-k-test.true, c.len-orders.ensures) in
    let read_choices : c.len-read_choices.result ≡ length c.args.combination.now.reads_from.items = c.len-read_choices.ensures ∙ c.args.combination.now.reads_from.ok.0 in
    let found : c.kept_with_order-found.result ≡ count_column (length c.args.combination.now.reads_from.items) (length c.args.combination.now.orders) c.loop-k.k c.args.kept.now =
    c.kept_with_order-found.ensures
    ∙ ap (λ (n : ℕ). count_column n c.len-orders.result c.loop-k.k c.args.kept.now) read_choices
    ∙ ap
    (λ (n : ℕ). count_column (length c.args.combination.now.reads_from.items) n c.loop-k.k
    c.args.kept.now) c.len-orders.ensures in
    let test : List FinalValue → List ℕ → Bool = λ v o. is_state v (map (candidate_final_value c.args.space.now c.args.combination.now o) c.args.observables.now) in
    let so_far : List FinalValue → ℕ → ℕ = λ v i. by_orders (test v) (length c.args.combination.now.reads_from.items) (length c.args.combination.now.orders) 0 c.args.kept.now (take i c.args.combination.now.orders) in
    counted_twice c.args.tally.now.counts.entries c.loop-k.tally.counts.entries
    c.count_order.new.tally.counts.entries (λ v. so_far v c.loop-k.k)
    (λ v. cond (test v c.order-coherence.result.now) c.kept_with_order-found.result 0)
    (λ v. so_far v (c.loop-k.k + 1))
    c.loop-k.invariant c.in_ok-count_order.ensures
    (λ v.
    one_order_more (test v) (length c.args.combination.now.reads_from.items)
    (length c.args.combination.now.orders) c.args.kept.now c.args.combination.now.orders
    c.loop-k.k c.order-coherence.result.now [] lt c.order-coherence.ensures
    ∙ ap (λ (n : ℕ). so_far v c.loop-k.k + cond (test v c.order-coherence.result.now) n 0) (sym found))

pub returns : goal.returns
returns c =
    let past : length c.args.combination.now.orders ≤ c.loop-k.k = omega (arith, c.loop-k-test.false, c.len-orders.ensures) in
    let test : List FinalValue → List ℕ → Bool = λ v o. is_state v (map (candidate_final_value c.args.space.now c.args.combination.now o) c.args.observables.now) in
    same_counts c.args.tally.now.counts.entries c.loop-k.tally.counts.entries _ _ c.loop-k.invariant
    (λ v.
    combination_kept (test v) c.args.kept.now c.args.combination.now
    ∙ ap
    (by_orders (test v) (length c.args.combination.now.reads_from.items)
    (length c.args.combination.now.orders) 0 c.args.kept.now)
    (sym (take_all c.loop-k.k c.args.combination.now.orders past)))
