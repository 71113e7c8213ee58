use Rattle.std.proofs.Common.{◌∙◌, ap}
use Rattle.memo_core.specs.Marks.{mark_in}
use Rattle.memo_core.proofs.Slots.{found_memo, mark_found_at}
use Rattle.memo_core.proofs.table.find.Goals as goal

pub returns-clause-memo : goal.returns-clause-memo
returns-clause-memo g c =
    found_memo c.args.node c.args.memos.now.entries c.get.result c.get.ensures.value

pub returns-clause-mark : goal.returns-clause-mark
returns-clause-mark g c =
    ap mark_in c.get.ensures.value ∙ mark_found_at c.args.node c.args.memos.now.entries
