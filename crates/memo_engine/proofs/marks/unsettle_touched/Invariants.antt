use Rattle.std.proofs.Common.{◌≡◌, drop, false}
use Rattle.indexmap.specs.IndexMap.{spare}
use Rattle.memo_core.specs.declared.keys.Node.{Node}
use Rattle.memo_core.specs.Graph.{Matches}
use Rattle.memo_core.specs.Views.{as_memos}
use Rattle.memo_core.specs.Step.{Has}
use Rattle.memo_core.specs.Marks.{mark_of}
use Rattle.memo_engine.specs.Matched.{AreMatchedTo}
use Rattle.memo_engine.specs.Unmarked.{HasMarkedInputs, IsClosedTo, IsMarkedBut, HasNoNewMark}
use Rattle.memo_engine.proofs.marks.unsettle_touched.Given as goal

abbrev pub invariant-loop-i : goal.invariant-loop-i
invariant-loop-i g l =
    let net = g.T.Texts.net l.texts in
    let touched = g.T.Texts.touched l.texts in
    let ks = l.memos.entries in
    record {
      same : as_memos ks ≡ as_memos l.fn.memos.entries;
      old : HasNoNewMark l.fn.memos.entries ks;
      matched : AreMatchedTo net l.fn.memos.entries touched → AreMatchedTo net ks (drop l.i touched);
      closed : g.T.Texts.is_valid l.texts → IsMarkedBut net l.fn.memos.entries touched
          → IsClosedTo net ks (drop l.i touched);
      left : g.T.Texts.is_valid l.texts → IsMarkedBut net l.fn.memos.entries touched
          → (n : Node) → Has net.used n → mark_of ks n ≡ false → Matches net (as_memos ks) n
          → HasMarkedInputs net ks n → Has touched n;
      room : spare l.memos ≡ spare l.fn.memos;
    }
