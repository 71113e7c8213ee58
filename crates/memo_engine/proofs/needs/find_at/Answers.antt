use Rattle.std.proofs.Common.{sym}
use Rattle.indexmap.proofs.MapLemmas.{Found-position}
use Rattle.memo_core.specs.Names.{same_node}
use Rattle.memo_engine.proofs.needs.find_at.Goals as goal

pub returns-in-Some-clause-at : goal.returns-in-Some-clause-at
returns-in-Some-clause-at g c =
    (Found-position (same_node c.args.node) c.args.memos.now.entries c.in-Some.index
    (sym c.in-Some.ensures.index)).first
