use Rattle.memo_engine.proofs.KeepLemmas.{all_kept}
use Rattle.memo_engine.proofs.stores.drop_left.Goals as goal

pub returns-then-not-may_drop-clause-memos : goal.returns-then-not-may_drop-clause-memos
returns-then-not-may_drop-clause-memos g c =
    all_kept (g.T.Texts.keeps c.args.texts.now) c.args.memos.now.entries
    (c.requires.kept c.if-not-may_drop.true)

pub returns-then-not-may_drop-clause-matched : goal.returns-then-not-may_drop-clause-matched
returns-then-not-may_drop-clause-matched g c = λ n h. h
