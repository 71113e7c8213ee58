use Rattle.memo_core.specs.Laws.{meaning}
use Rattle.cells.specs.Cells.{cells}
use Rattle.cells.proofs.CellRuns.{Owes, only_needed, none_twice, edit_bounds, quiet_cells}
use Rattle.cells.proofs.laws.exact_work.Goals as goal

pub returns : goal.returns
returns g c =
    let t = g.T.Texts in
    let laws = g.met.T.Texts in
    let of = g.T.CellTexts in
    let means = meaning t.net t.is_valid t.since t.makes t.keeps t.edited t.last in
    let all = cells of.verdict_of of.outcome_in of.from_scratch of.reaches in
    let owes : Owes means t.is_there = record {
      kept = record {
        valid_edited = λ x u e k v h. laws.valid_edited x u e k v h;
        since_same = λ x v. laws.since_same x v;
        since_edited = λ x u w e k s h. laws.since_edited x u w e k s h;
        given_stays = λ x u m given v s i p h. laws.given_stays x u m given v s i p h;
      };
      sound = λ x v. laws.sound x v;
      there = λ x v. laws.used_there x v;
      closed = λ x v. laws.used_closed x v;
    } in
    record {
      needed = only_needed means all t.is_there owes (λ x v. g.met.T.CellTexts.used_needed x v);
      apart = none_twice means all t.is_there owes;
      lowers = c.exact_work.ensures.lowers;
      bounded = c.exact_work.ensures.bounded;
      kept = c.exact_work.ensures.kept;
      edited =
          edit_bounds means all t.is_there owes c.exact_work.ensures.bounded
          c.exact_work.ensures.decided;
      quiet =
          quiet_cells means all t.is_there owes c.exact_work.ensures.quiet
          (λ x test model n v is. g.met.T.CellTexts.verdict_used x test model n v is);
    }
