use Rattle.std.proofs.Common.{◌≡◌, ◌∙◌, ◌+◌, true, map, take, sym, subst}
use Rattle.bench_nodes.specs.declared.table.Slot.{Slot}
use Rattle.bench_nodes.specs.Guesses.{slot_spot, are_first, with_guess}
use Rattle.bench_nodes.proofs.Guessing.{spots_more, length_with}
use Rattle.bench_nodes.proofs.places.guesses_of.Goals as goal

pub loop-index-preserved : goal.loop-index-preserved
loop-index-preserved c =
    let gs = c.loop-index.guesses.items in let i = c.loop-index.index in
    let slots = c.args.slots.now in let slot = c.index-slots-index.result in
    let spot = slot_spot c.saturating_mul-count.result in
    rw (c.put_guess.ensures, c.spot_of.ensures) (record {
      count = length_with gs _ i ∙ c.loop-index.invariant.count;
      first = subst
          (λ (s : Slot). are_first (with_guess gs (spot s) i) 0 (map spot (take (i + 1) slots)) ≡ true)
          (sym c.index-slots-index.is)
          (spots_more spot gs slots i slot c.loop-index-test.true c.loop-index.invariant.first);
    })
