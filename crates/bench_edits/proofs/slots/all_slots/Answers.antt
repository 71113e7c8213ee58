use Rattle.std.proofs.Common.{◌≡◌, ◌≤◌, min, length, map, sym, ◌∙◌, arith, rules}
use Rattle.std.proofs.lemmas.Slice.Zip.{zip_end}
use Rattle.std.specs.Iterator.Adapters.{zip_first, zip_second}
use Rattle.std.specs.Slice.Iter.{iter_rest}
use Rattle.bench_slots.specs.Slots.{plain, histories_in}
use Rattle.bench_edits.proofs.Making.{all_read}
use Rattle.bench_edits.proofs.slots.all_slots.Goals as goal

pub returns : goal.returns
returns c =
    let rows = c.args.rows.now in
    let models = c.args.models.now in
    let start = c.into_iter-row-iterator.result in
    let first : iter_rest (zip_first start) ≡ rows = search rules in
    let second : iter_rest (zip_second start) ≡ models = search rules in
    let taken = zip_end rows models c.loop-row.yielded start c.loop-row.row-iterator c.next.new.self c.next.result first second c.loop-row.yielded_by c.in-None.is c.next.ensures.steps in
    let past : min (length rows) (length models) ≤ length c.loop-row.yielded = omega (arith, taken) in
    sym (all_read (histories_in c.args.histories.now) (map plain c.loop-row.slots.items) rows models
    (length c.loop-row.yielded) past) ∙ c.loop-row.invariant
