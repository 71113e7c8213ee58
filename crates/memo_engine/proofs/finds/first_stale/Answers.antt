use Rattle.std.proofs.Common.{sym, ◌∙◌, arith}
use Rattle.std.proofs.lemmas.List.{drop_all}
use Rattle.memo_core.specs.Views.{as_memos}
use Rattle.memo_engine.proofs.FindLemmas.{stale_short, stale_key, stale_now, stale_next}
use Rattle.memo_engine.proofs.finds.first_stale.Goals.{then-not-same-via-then-not-same, then-not-same-via-else-not-same+then-stamp-input}
use Rattle.memo_engine.proofs.finds.first_stale.Goals as goal

pub returns-then-i-inputs : goal.returns-then-i-inputs
returns-then-i-inputs g c =
    let net = g.T.Texts.net c.args.texts.now in
    sym (stale_short net (as_memos c.args.memos.now.entries) (net.inputs c.args.node)
    c.args.inputs.now c.loop-i.i c.loop-i.last c.input_at-key.result c.stamp_at-stamp.result
    c.input_at-key.ensures.rest c.stamp_at-stamp.ensures c.if-i-inputs.true)
    ∙ c.loop-i.invariant

pub returns-then-not-same : goal.returns-then-not-same
returns-then-not-same g c =
    let net = g.T.Texts.net c.args.texts.now in
    let ms = as_memos c.args.memos.now.entries in
    let ks = net.inputs c.args.node in
    elim c.then-not-same.branch [
      | then-not-same-via-then-not-same w ↦
          sym (stale_key net ms ks c.args.inputs.now c.loop-i.i c.loop-i.last c.input_at-key.result
          c.stamp_at-stamp.result c.input_at-key.ensures.rest c.stamp_at-stamp.ensures _
          c.if-i-inputs.false
          c.is_same_key-same.result c.is_same_key-same.ensures w.if-not-same.true)
          ∙ c.loop-i.invariant
      | then-not-same-via-else-not-same+then-stamp-input w ↦
          sym (stale_now net ms ks c.args.inputs.now c.loop-i.i c.loop-i.last c.input_at-key.result
          c.stamp_at-stamp.result c.input_at-key.ensures.rest c.stamp_at-stamp.ensures _
          c.if-i-inputs.false
          c.is_same_key-same.result c.is_same_key-same.ensures w.if-not-same.false
          w.if-stamp-input.true) ∙ c.loop-i.invariant
    ]

pub loop-i-preserved : goal.loop-i-preserved
loop-i-preserved g c =
    let net = g.T.Texts.net c.args.texts.now in
    sym (stale_next net (as_memos c.args.memos.now.entries) (net.inputs c.args.node)
    c.args.inputs.now c.loop-i.i c.loop-i.last c.input_at-key.result c.stamp_at-stamp.result
    c.input_at-key.ensures.rest c.stamp_at-stamp.ensures _
    c.if-i-inputs.false c.is_same_key-same.result c.is_same_key-same.ensures c.if-not-same.false
    c.if-stamp-input.false) ∙ c.loop-i.invariant

pub returns : goal.returns
returns g c =
    rw (drop_all c.loop-i.i ((g.T.Texts.net c.args.texts.now).inputs c.args.node) (omega arith)) at
    c.loop-i.invariant
