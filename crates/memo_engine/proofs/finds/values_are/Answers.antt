use Rattle.std.proofs.Common.{sym, ◌∙◌}
use Rattle.std.proofs.lemmas.List.{drop_all}
use Rattle.memo_core.specs.Graph.{at}
use Rattle.memo_core.specs.Views.{as_memos}
use Rattle.memo_engine.proofs.FindLemmas.{hold_short, hold_from}
use Rattle.memo_engine.proofs.TokenLemmas.{hold_end}
use Rattle.memo_engine.proofs.finds.values_are.Goals as goal

pub returns : goal.returns
returns g c =
    hold_end g.T.Texts.same (at (as_memos c.args.memos.now.entries)) c.args.values.now c.loop-key.j
    c.loop-key.invariant.within
    ∙ rw (drop_all c.loop-key.key-index c.args.keys.now c.loop-key-test.false) at
    c.loop-key.invariant.same

pub returns-then-j-values : goal.returns-then-j-values
returns-then-j-values g c =
    let now = at (as_memos c.args.memos.now.entries) in
    sym (hold_short g.T.Texts.same now c.args.keys.now c.args.values.now c.loop-key.key-index
    c.loop-key.j _ c.in-Output.node c.in-Output.name c.loop-key-test.true c.in-Output.is
    c.if-j-values.true) ∙ c.loop-key.invariant.same

pub returns-then-not-stored_is : goal.returns-then-not-stored_is
returns-then-not-stored_is g c =
    let now = at (as_memos c.args.memos.now.entries) in
    sym (rw c.if-not-stored_is.true at (hold_from g.T.Texts.same now c.args.keys.now
    c.args.values.now c.loop-key.key-index c.loop-key.j _ c.in-Output.node c.in-Output.name
    c.loop-key-test.true c.in-Output.is
    c.index-values-j.result c.if-j-values.false c.index-values-j.is c.stored_is.result
    c.stored_is.ensures)) ∙ c.loop-key.invariant.same
