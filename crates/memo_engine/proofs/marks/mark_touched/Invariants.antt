use Rattle.std.proofs.Common.{◌≡◌, ℕ, List, drop}
use Rattle.indexmap.specs.IndexMap.{spare}
use Rattle.memo_core.specs.declared.claims.Claim.{Claim}
use Rattle.memo_core.specs.Views.{as_memos}
use Rattle.memo_core.specs.Marks.{IsMarkedTo}
use Rattle.memo_engine.specs.Matched.{AreMatched}
use Rattle.memo_engine.specs.Waiting.{IsWholeTo}
use Rattle.memo_engine.proofs.marks.mark_touched.Given as goal

abbrev pub invariant-loop-i : goal.invariant-loop-i
invariant-loop-i g l =
    let net = g.T.Texts.net l.texts in
    let touched = g.T.Texts.touched l.texts in
    record {
      same : as_memos l.memos.entries ≡ as_memos l.fn.memos.entries;
      matched : g.T.Texts.is_valid l.texts → AreMatched net l.fn.memos.entries
          → AreMatched net l.memos.entries;
      marks : g.T.Texts.is_valid l.texts → AreMatched net l.fn.memos.entries
          → IsMarkedTo net l.fn.memos.entries touched
          → IsMarkedTo net l.memos.entries (drop l.i touched);
      whole : g.T.Texts.is_valid l.texts → AreMatched net l.fn.memos.entries
          → (claims : List (ℕ × Claim))
          → IsMarkedTo net l.fn.memos.entries touched
          → IsWholeTo net l.fn.memos.entries claims l.fn.waiting touched
          → IsWholeTo net l.memos.entries claims l.waiting (drop l.i touched);
      room : spare l.memos ≡ spare l.fn.memos;
    }
