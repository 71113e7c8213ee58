use Rattle.std.proofs.Common.{◌≡◌, ◌<◌, ◌/◌, length, arith, rules, ◌∙◌}
use Rattle.std.proofs.Math.Nat.{mod-lt}
use Rattle.store_orders.proofs.Pairs.{has_orders, has_index}
use Rattle.candidate_spaces.proofs.Spaces.{candidate_there}
use Rattle.candidate_spaces.proofs.candidate.execution_of.Goals as goal

pub nonzero_div-index : goal.nonzero_div-index
nonzero_div-index c =
    let some = has_orders c.args.combination.now c.args.index c.requires in
    omega (arith, some)

pub index-reads_from-requires : goal.index-reads_from-requires
index-reads_from-requires c =
    let orders : c.len-orders.result ≡ length c.args.combination.now.orders = omega arith in
    let lt : c.args.index / c.len-orders.result < length c.args.combination.now.reads_from.items = rw orders ((has_index c.args.combination.now c.args.index (has_orders c.args.combination.now c.args.index c.requires)).1 c.requires) in
    omega (arith, lt, c.args.combination.now.reads_from.ok.0)

pub nonzero_rem-index : goal.nonzero_rem-index
nonzero_rem-index c =
    let some = has_orders c.args.combination.now c.args.index c.requires in
    omega (arith, some)

pub order-coherence-requires : goal.order-coherence-requires
order-coherence-requires c =
    let orders : c.len-orders.result ≡ length c.args.combination.now.orders = omega arith in
    rw orders (mod-lt c.args.index (has_orders c.args.combination.now c.args.index c.requires))

pub returns : goal.returns
returns c =
    candidate_there c.args.registers.now c.args.combination.now c.args.index c.len-orders.result
    c.index-reads_from.result.now c.order-coherence.result.now _
    (omega arith) c.requires c.index-reads_from.ensures c.order-coherence.ensures
    (record {
      events = c.in_ok-from_slice.ensures.items ∙ c.deref.ensures.value;
      dependencies = c.in_ok-copied.ensures;
      reads_from = c.in_ok-from_slice-2.ensures.items ∙ c.deref-2.ensures.value;
      coherence = c.in_ok-from_slice-3.ensures.items;
      registers = search rules;
    })
