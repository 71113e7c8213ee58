use Rattle.std.proofs.Common.{sym, ◌∙◌}
use Rattle.std.proofs.lemmas.Bool.{false≢true}
use Rattle.watch_run.proofs.Edited.{put_by_items, put_as_whole}
use Rattle.watch_run.proofs.Taking.{model_alone, alone_again}
use Rattle.watch_run.proofs.watched.Watched.put_items.Goals as goal

pub returns-then-branch-2-clause-others : goal.returns-then-branch-2-clause-others
returns-then-branch-2-clause-others g c =
    alone_again _ _ _ _ c.in_ok-change_items.ensures.others
    (model_alone _ _ _ c.requires.whole _ _ c.in_ok-make.ensures.made)

pub returns-then-branch-clause-edits : goal.returns-then-branch-clause-edits
returns-then-branch-clause-edits g c =
    put_by_items _ _ _ _ _ _ _ c.in_ok-change_items.ensures.edits
    (c.in_ok-holds_items.ensures.0 c.if-branch.true)

pub returns-then-branch-2-clause-edits : goal.returns-then-branch-2-clause-edits
returns-then-branch-2-clause-edits g c =
    put_as_whole _ _ _ _ _ _ c.in_ok-make.field-0 _ _ _ c.in_ok-change_items.ensures.edits
    (λ holds. false≢true (sym c.if-branch.false ∙ c.in_ok-holds_items.ensures.1 holds))
    c.in_ok-make.ensures.made c.in_ok-make.ensures.counted
    (c.in_ok-holds_items-2.ensures.0 c.if-branch-2.true)
