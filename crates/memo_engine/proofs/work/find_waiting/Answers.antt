use Rattle.std.proofs.Common.{◌∙◌, [], ◌∷◌, refl, sym}
use Rattle.memo_engine.specs.declared.waiting.Waiting.{Waiting}
use Rattle.memo_engine.proofs.WaitingLemmas.{whole_noted, whole_passed, whole_popped, unused_idle}
use Rattle.memo_engine.proofs.work.find_waiting.Goals as goal
use Rattle.memo_engine.proofs.work.find_waiting.Goals.{else-is_used-via-then-is_used+else-has_work, else-is_used-via-else-is_used}

pub returns-then-has_work-clause-whole : goal.returns-then-has_work-clause-whole
returns-then-has_work-clause-whole g c =
    let net = g.T.Texts.net c.args.texts.now in
    let ks = c.args.memos.now.entries in
    let cs = c.args.claims.now.entries in
    let n = c.in-Some.node in
    let left : Waiting = record { nodes = c.pop.new.self; is_whole = c.loop-node.waiting.is_whole } in
    λ whole. whole_noted net ks cs left c.note.new.self (n ∷ []) [] c.note.ensures
    (whole_popped net ks cs c.loop-node.waiting left n refl c.in-Some.ensures.items
    (c.loop-node.invariant whole))

pub loop-node-preserved : goal.loop-node-preserved
loop-node-preserved g c =
    let net = g.T.Texts.net c.args.texts.now in
    let ks = c.args.memos.now.entries in
    let cs = c.args.claims.now.entries in
    let n = c.in-Some.node in
    let left : Waiting = record { nodes = c.pop.new.self; is_whole = c.loop-node.waiting.is_whole } in
    λ whole. whole_passed net ks cs left n []
    (elim c.else-is_used.branch [
      | else-is_used-via-then-is_used+else-has_work w ↦ λ used. sym w.has_work.ensures
          ∙ w.if-has_work.false
      | else-is_used-via-else-is_used w ↦ unused_idle net n
          (sym c.is_used.ensures ∙ w.if-is_used.false)
    ])
    (whole_popped net ks cs c.loop-node.waiting left n refl c.in-Some.ensures.items
    (c.loop-node.invariant whole))
