use Rattle.memo_core.specs.Laws.{meaning}
use Rattle.cells.specs.Cells.{cells}
use Rattle.cells.proofs.CellRuns.{stays_settled}
use Rattle.cells.proofs.laws.untouched.Goals as goal

pub returns : goal.returns
returns g c =
    let t = g.T.Texts in
    let laws = g.met.T.Texts in
    let of = g.T.CellTexts in
    stays_settled (meaning t.net t.is_valid t.since t.makes t.keeps t.edited t.last)
    (cells of.verdict_of of.outcome_in of.from_scratch of.reaches) t.is_there
    (record {
      kept = record {
        valid_edited = λ x u e k v h. laws.valid_edited x u e k v h;
        since_same = λ x v. laws.since_same x v;
        since_edited = λ x u w e k s h. laws.since_edited x u w e k s h;
        given_stays = λ x u m given v s i p h. laws.given_stays x u m given v s i p h;
      };
      sound = λ x v. laws.sound x v;
      there = λ x v. laws.used_there x v;
      closed = λ x v. laws.used_closed x v;
    }) (λ x u e k test model v h r. g.met.T.CellTexts.unreached x u e k test model v h r)
