use Rattle.memo_core.specs.Marks.{AreMarked}
use Rattle.memo_engine.proofs.marks.are_used_marked.Given as goal

abbrev pub invariant-loop-i : goal.invariant-loop-i
invariant-loop-i g l = AreMarked (g.T.Texts.net l.texts) l.memos.entries l.i
