use Rattle.std.proofs.Common.{arith}
use Rattle.bit_rows.specs.Rows.{RowsHave}
use Rattle.bit_rows.proofs.Paths.{PlusBelow-zero}
use Rattle.bit_rows.proofs.Registers.{all_loaded, as_far, both_back, both_ways, swapped, closed_sixteen}
use Rattle.bit_rows.proofs.lanes.close_sixteen.Goals as goal

pub returns-then-count-gt8-clause-pairs : goal.returns-then-count-gt8-clause-pairs
returns-then-count-gt8-clause-pairs c =
    let words = c.args.words.now in
    let R = RowsHave words in
    let loaded = all_loaded c.args.count words c.load-first.result c.load-second.result c.requires.few c.requires.within c.load-first.ensures.lanes c.load-second.ensures.lanes in
    let early = c.close_eight-early.ensures.pairs words (λ a b. both_ways (loaded a b) (PlusBelow-zero R a b)) in
    let turned = as_far _ R _ 8 (omega arith) (λ a b. both_ways (swapped _ _ a b) (early a b)) in
    let late = c.close_eight-late.ensures.pairs words turned in
    closed_sixteen _ _ _ _ _ c.requires.few (omega arith) c.requires.within c.store_sixteen.ensures
    (λ a b. both_ways (both_back (swapped _ _ a b)) (late a b))

pub returns-else-count-gt8-clause-pairs : goal.returns-else-count-gt8-clause-pairs
returns-else-count-gt8-clause-pairs c =
    let words = c.args.words.now in
    let R = RowsHave words in
    let loaded = all_loaded c.args.count words c.load-first.result c.load-second.result c.requires.few c.requires.within c.load-first.ensures.lanes c.load-second.ensures.lanes in
    let early = c.close_eight-early.ensures.pairs words (λ a b. both_ways (loaded a b) (PlusBelow-zero R a b)) in
    closed_sixteen _ _ _ _ _ c.requires.few (omega arith) c.requires.within
    c.store_sixteen-else-count-gt8.ensures early
