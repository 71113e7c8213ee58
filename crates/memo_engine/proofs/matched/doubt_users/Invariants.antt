use Rattle.std.proofs.Common.{◌≡◌, true, drop}
use Rattle.indexmap.specs.IndexMap.{spare}
use Rattle.memo_core.specs.declared.keys.Node.{Node}
use Rattle.memo_core.specs.Views.{as_memos}
use Rattle.memo_core.specs.Step.{Has}
use Rattle.memo_core.specs.Marks.{mark_of, matched_of}
use Rattle.memo_engine.specs.Matched.{HasNoNewMatch}
use Rattle.memo_engine.proofs.matched.doubt_users.Given as goal

abbrev pub invariant-loop-i : goal.invariant-loop-i
invariant-loop-i g l =
    let ks = l.memos.entries in
    let users = g.T.Texts.users l.texts l.node in
    record {
      same : as_memos ks ≡ as_memos l.fn.memos.entries;
      marks : (n : Node) → mark_of ks n ≡ mark_of l.fn.memos.entries n;
      doubted : (n : Node) → matched_of ks n ≡ true → Has users n → Has (drop l.i users) n;
      old : HasNoNewMatch l.fn.memos.entries ks;
      room : spare l.memos ≡ spare l.fn.memos;
    }
