use Rattle.std.proofs.Common.{[]}
use Rattle.memo_core.specs.Laws.{meaning}
use Rattle.cells.proofs.Listed.{lists_run, list_bounds}
use Rattle.cells.proofs.laws.listed.Goals as goal

pub returns : goal.returns
returns g c =
    let t = g.T.Texts in
    let means = meaning t.net t.is_valid t.since t.makes t.keeps t.edited t.last in
    record {
      runs =
          λ old new events replies h. (
          let all = lists_run means t.refuses t.last old new [] h.0 events replies h.1 in
          (all.run, all.is));
      bounded = list_bounds means t.refuses t.last c.exact_work.ensures.bounded;
    }
