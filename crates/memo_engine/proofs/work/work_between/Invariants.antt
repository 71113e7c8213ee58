use Rattle.std.proofs.Common.{◌≤◌}
use Rattle.memo_core.specs.Marks.{IsIdle}
use Rattle.memo_engine.proofs.work.work_between.Given as goal

abbrev pub invariant-loop-i : goal.invariant-loop-i
invariant-loop-i g l =
    record {
      order : l.i ≤ l.end;
      idle : IsIdle (g.T.Texts.net l.texts) l.memos.entries l.claims.entries l.first l.i;
    }
