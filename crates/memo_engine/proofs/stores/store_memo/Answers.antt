use Rattle.std.proofs.Common.{◌∙◌, ap}
use Rattle.memo_core.specs.Views.{as_memos}
use Rattle.memo_core.proofs.Slots.{memo_inserted, mark_inserted, matched_inserted}
use Rattle.memo_engine.proofs.stores.store_memo.Goals as goal

pub returns-clause-memos : goal.returns-clause-memos
returns-clause-memos g c =
    ap as_memos c.in-Ok.ensures.entries
    ∙ memo_inserted c.args.node c.args.kept c.args.memos.now.entries

pub returns-clause-flags : goal.returns-clause-flags
returns-clause-flags g c =
    λ n.
    rw c.in-Ok.ensures.entries (mark_inserted c.args.node c.args.kept c.args.memos.now.entries n)

pub returns-clause-matched : goal.returns-clause-matched
returns-clause-matched g c =
    λ n.
    rw c.in-Ok.ensures.entries (matched_inserted c.args.node c.args.kept c.args.memos.now.entries n)
