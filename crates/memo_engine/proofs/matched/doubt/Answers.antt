use Rattle.std.proofs.Common.{refl}
use Rattle.memo_engine.proofs.MatchLemmas.{doubted, doubted_memos, doubted_marks, doubted_here, doubted_old, no_match_kept}
use Rattle.memo_engine.proofs.matched.doubt.Goals as goal

pub returns-in-Some-clause-memos : goal.returns-in-Some-clause-memos
returns-in-Some-clause-memos g c =
    let e = (c.get_mut.follows.holds (doubted c.in-Some.kept.now)).0 in
    let found = rw c.in-Some.is at c.get_mut.ensures.value in
    rw e (doubted_memos c.args.node c.in-Some.kept.now c.args.memos.now.entries found)

pub returns-in-Some-clause-marks : goal.returns-in-Some-clause-marks
returns-in-Some-clause-marks g c =
    let e = (c.get_mut.follows.holds (doubted c.in-Some.kept.now)).0 in
    let found = rw c.in-Some.is at c.get_mut.ensures.value in
    λ n. rw e (doubted_marks c.args.node c.in-Some.kept.now c.args.memos.now.entries found n)

pub returns-in-Some-clause-doubted : goal.returns-in-Some-clause-doubted
returns-in-Some-clause-doubted g c =
    let e = (c.get_mut.follows.holds (doubted c.in-Some.kept.now)).0 in
    let found = rw c.in-Some.is at c.get_mut.ensures.value in
    rw e (doubted_here c.args.node c.in-Some.kept.now c.args.memos.now.entries found)

pub returns-in-Some-clause-old : goal.returns-in-Some-clause-old
returns-in-Some-clause-old g c =
    let e = (c.get_mut.follows.holds (doubted c.in-Some.kept.now)).0 in
    let found = rw c.in-Some.is at c.get_mut.ensures.value in
    λ n h. doubted_old c.args.node c.in-Some.kept.now c.args.memos.now.entries found n (rw e at h)

pub returns-in_default-clause-memos : goal.returns-in_default-clause-memos
returns-in_default-clause-memos g c = rw c.get_mut.follows.holds-at-none refl

pub returns-in_default-clause-marks : goal.returns-in_default-clause-marks
returns-in_default-clause-marks g c = λ n. rw c.get_mut.follows.holds-at-none refl

pub returns-in_default-clause-doubted : goal.returns-in_default-clause-doubted
returns-in_default-clause-doubted g c =
    rw c.get_mut.follows.holds-at-none
    (no_match_kept c.args.node c.args.memos.now.entries
    (rw c.in_default.is at c.get_mut.ensures.value))

pub returns-in_default-clause-old : goal.returns-in_default-clause-old
returns-in_default-clause-old g c = λ n h. rw c.get_mut.follows.holds-at-none at h
