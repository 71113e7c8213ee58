use Rattle.std.proofs.Common.{◌∙◌}
use Rattle.bench_nodes.specs.declared.table.ItemRow.{ItemRow}
use Rattle.bench_nodes.specs.Guesses.{item_spot}
use Rattle.bench_nodes.proofs.Guessing.{spots_more, length_with}
use Rattle.bench_nodes.proofs.guesses.item_guesses.Goals as goal

pub loop-index-preserved : goal.loop-index-preserved
loop-index-preserved c =
    let gs = c.loop-index.guesses.items in let i = c.loop-index.index in
    let d : ItemRow = record { number = 0; stamp = 0 } in
    rw (c.put_guess.ensures, c.left_of.ensures) (record {
      count = length_with gs _ i ∙ c.loop-index.invariant.count;
      first = spots_more (item_spot c.saturating_mul-count.result) gs c.args.rows.now i d
          c.loop-index-test.true c.loop-index.invariant.first;
    })
