use Rattle.std.proofs.Common.{◌∙◌, arith}
use Rattle.memo_core.specs.Graph.{at}
use Rattle.memo_core.specs.Views.{as_memos, shown_values}
use Rattle.memo_engine.proofs.TokenLemmas.{part_step, hold_step, hold_none, held_all}
use Rattle.memo_engine.proofs.work.hold_all.Goals.{in-Part, in-Output+in-Some+in_ok-push-in-Some}
use Rattle.memo_engine.proofs.work.hold_all.Goals as goal

pub loop-i-preserved : goal.loop-i-preserved
loop-i-preserved g c =
    let ks = (g.T.Texts.net c.args.texts.now).inputs c.args.node in
    let now = at (as_memos c.args.memos.now.entries) in
    elim c.match-input_at.branch [
      | in-Part w ↦ rw w.values-is (part_step now ks c.loop-i.i _ _
          (shown_values c.loop-i.values.items) (rw w.in-Part.is at c.input_at.ensures.rest)
          ∙ c.loop-i.invariant)
      | in-Output+in-Some+in_ok-push-in-Some w ↦
          hold_step now ks c.loop-i.i w.in-Output.from w.in-Output.name c.loop-i.values.items
          c.match-input_at.values.items w.again.result
          (rw w.in-Output.is at c.input_at.ensures.rest)
          (rw (w.again.ensures) (rw w.in-Some.is at w.stored_token.ensures))
          (rw w.values-is w.in_ok-push-in-Some.ensures.items) ∙ c.loop-i.invariant
    ]

pub returns-in-None : goal.returns-in-None
returns-in-None g c =
    let ks = (g.T.Texts.net c.args.texts.now).inputs c.args.node in
    hold_none (at (as_memos c.args.memos.now.entries)) ks c.loop-i.i c.in-Output.from
    c.in-Output.name (shown_values c.loop-i.values.items) _ c.in-Output.ensures.rest
    c.in-None.ensures c.loop-i.invariant

pub returns : goal.returns
returns g c =
    let ks = (g.T.Texts.net c.args.texts.now).inputs c.args.node in
    held_all (at (as_memos c.args.memos.now.entries)) ks c.loop-i.i
    (shown_values c.loop-i.values.items) _ (omega arith) c.loop-i.invariant
