use Rattle.std.proofs.Common.{◌≡◌, ◌<◌, ◌++◌, ◌∷◌, [], false, List, drop}
use Rattle.indexmap.specs.IndexMap.{spare}
use Rattle.memo_core.specs.declared.keys.Node.{Node}
use Rattle.memo_core.specs.Views.{as_memos}
use Rattle.memo_core.specs.Marks.{mark_of}
use Rattle.memo_engine.specs.Matched.{HasNoNewMatch}
use Rattle.memo_engine.specs.Unmarked.{marked_count, IsClosedTo, HasNoNewMark, LosesMarks}
use Rattle.memo_engine.proofs.marks.+unsettle.Given as goal

abbrev pub decreases-unsettle : goal.decreases-unsettle
decreases-unsettle g l = marked_count l.memos.now.entries

abbrev pub invariant-loop-i : goal.invariant-loop-i
invariant-loop-i g l =
    let net = g.T.Texts.net l.texts in
    record {
      same : as_memos l.memos.entries ≡ as_memos l.fn.memos.entries;
      fewer : marked_count l.memos.entries < marked_count l.fn.memos.entries;
      unmarked : mark_of l.memos.entries l.node ≡ false;
      matched : HasNoNewMatch l.fn.memos.entries l.memos.entries;
      old : HasNoNewMark l.fn.memos.entries l.memos.entries;
      closed : g.T.Texts.is_valid l.texts → (rest : List Node)
          → IsClosedTo net l.fn.memos.entries (l.node ∷ rest)
          → IsClosedTo net l.memos.entries (drop l.i (g.T.Texts.users l.texts l.node) ++ rest);
      lost : g.T.Texts.is_valid l.texts
          → LosesMarks net l.fn.memos.entries l.memos.entries (l.node ∷ []);
      room : spare l.memos ≡ spare l.fn.memos;
    }
