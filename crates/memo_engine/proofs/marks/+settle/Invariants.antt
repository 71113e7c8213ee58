use Rattle.std.proofs.Common.{◌≡◌, ◌<◌, ◌++◌, ◌∷◌, ℕ, List, drop}
use Rattle.indexmap.specs.IndexMap.{spare}
use Rattle.memo_core.specs.declared.keys.Node.{Node}
use Rattle.memo_core.specs.declared.claims.Claim.{Claim}
use Rattle.memo_core.specs.Views.{as_memos}
use Rattle.memo_core.specs.Step.{Has}
use Rattle.memo_core.specs.Marks.{unmarked_count, IsMarkedTo}
use Rattle.memo_engine.specs.Matched.{AreMatched}
use Rattle.memo_engine.specs.Waiting.{IsWholeTo}
use Rattle.memo_engine.proofs.marks.+settle.Given as goal

abbrev pub decreases-settle : goal.decreases-settle
decreases-settle g l = unmarked_count l.memos.now.entries

abbrev pub invariant-loop-i : goal.invariant-loop-i
invariant-loop-i g l =
    let net = g.T.Texts.net l.texts in
    record {
      same : as_memos l.memos.entries ≡ as_memos l.fn.memos.entries;
      fewer : unmarked_count l.memos.entries < unmarked_count l.fn.memos.entries;
      matched : g.T.Texts.is_valid l.texts → Has net.used l.node
          → AreMatched net l.fn.memos.entries → AreMatched net l.memos.entries;
      marks : g.T.Texts.is_valid l.texts → Has net.used l.node
          → AreMatched net l.fn.memos.entries → (rest : List Node)
          → IsMarkedTo net l.fn.memos.entries (l.node ∷ rest)
          → IsMarkedTo net l.memos.entries (drop l.i (g.T.Texts.users l.texts l.node) ++ rest);
      whole : g.T.Texts.is_valid l.texts → Has net.used l.node
          → AreMatched net l.fn.memos.entries → (claims : List (ℕ × Claim)) (rest : List Node)
          → IsMarkedTo net l.fn.memos.entries (l.node ∷ rest)
          → IsWholeTo net l.fn.memos.entries claims l.fn.waiting (l.node ∷ rest)
          → IsWholeTo net l.memos.entries claims l.waiting
          (drop l.i (g.T.Texts.users l.texts l.node) ++ rest);
      room : spare l.memos ≡ spare l.fn.memos;
    }
