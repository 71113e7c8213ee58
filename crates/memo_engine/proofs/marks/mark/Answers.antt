use Rattle.memo_engine.proofs.NeedLemmas.{marked_at, none_at}
use Rattle.memo_engine.proofs.marks.mark.Goals as goal

pub returns-in-Some-clause-marks : goal.returns-in-Some-clause-marks
returns-in-Some-clause-marks g c =
    λ n at. marked_at n c.args.memos.now.entries c.args.index c.in-Some.kept.now at
    (rw c.in-Some.is at c.get_index_mut.ensures.value)

pub returns-in_default-clause-marks : goal.returns-in_default-clause-marks
returns-in_default-clause-marks g c =
    λ n at. absurd (none_at n c.args.memos.now.entries c.args.index at
    (rw c.in_default.is at c.get_index_mut.ensures.value))
