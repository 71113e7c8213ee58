use Rattle.std.proofs.Common.{◌∙◌, [], sym}
use Rattle.memo_engine.proofs.UnmarkLemmas.{marked_but, matched_but, whole_but}
use Rattle.memo_engine.proofs.WaitingLemmas.{whole_noted}
use Rattle.memo_engine.proofs.events.put_in_place.Goals as goal

pub returns-clause-matched : goal.returns-clause-matched
returns-clause-matched g c =
    let t = g.T.Texts in
    let laws = g.met.T.Texts in
    let before = c.args.texts.now in
    let after = c.commit.new.self in
    λ was is only are marks.
    c.settle_touched.ensures.matched is (matched_but (t.net before) (t.net after) (t.keeps after)
    c.args.memos.now.entries c.drop_left.new.memos.entries (t.touched after) marks
    (laws.used_closed before was) (laws.used_closed after is) (laws.used_kept after is) only
    c.drop_left.ensures.memos c.drop_left.ensures.marks c.drop_left.ensures.matched are)

pub returns-clause-marks : goal.returns-clause-marks
returns-clause-marks g c =
    let t = g.T.Texts in
    let laws = g.met.T.Texts in
    let before = c.args.texts.now in
    let after = c.commit.new.self in
    λ was is only are marks.
    c.settle_touched.ensures.marks is (matched_but (t.net before) (t.net after) (t.keeps after)
    c.args.memos.now.entries c.drop_left.new.memos.entries (t.touched after) marks
    (laws.used_closed before was) (laws.used_closed after is) (laws.used_kept after is) only
    c.drop_left.ensures.memos c.drop_left.ensures.marks c.drop_left.ensures.matched are)
    (marked_but (t.net before) (t.net after) (t.keeps after)
    c.args.memos.now.entries c.drop_left.new.memos.entries (t.touched after) marks
    (laws.used_closed before was) (laws.used_closed after is) (laws.used_kept after is) only
    c.drop_left.ensures.memos c.drop_left.ensures.marks)

pub drop_left-requires : goal.drop_left-requires
drop_left-requires g c = record {
  kept =
      λ none.
      c.requires.kept (sym c.may_drop-drops.ensures ∙ none) c.commit.new.self
      c.commit.ensures.commits;
}

pub returns-clause-whole : goal.returns-clause-whole
returns-clause-whole g c =
    let t = g.T.Texts in
    let laws = g.met.T.Texts in
    let before = c.args.texts.now in
    let after = c.commit.new.self in
    let ks = c.args.memos.now.entries in
    let left = c.drop_left.new.memos.entries in
    λ was is only are claims marks whole.
    c.settle_touched.ensures.whole is (matched_but (t.net before) (t.net after) (t.keeps after) ks
    left (t.touched after) marks (laws.used_closed before was) (laws.used_closed after is)
    (laws.used_kept after is) only c.drop_left.ensures.memos c.drop_left.ensures.marks
    c.drop_left.ensures.matched are) claims (marked_but (t.net before) (t.net after)
    (t.keeps after) ks left (t.touched after) marks
    (laws.used_closed before was) (laws.used_closed after is) (laws.used_kept after is) only
    c.drop_left.ensures.memos c.drop_left.ensures.marks)
    (whole_noted (t.net after) left claims c.args.waiting.now c.shorten.new.self []
    (t.touched after) c.shorten.ensures (whole_but (t.net before) (t.net after) (t.keeps after) ks
    left (t.touched after) marks (laws.used_closed before was) (laws.used_closed after is)
    (laws.used_kept after is) only c.drop_left.ensures.memos c.drop_left.ensures.marks claims
    c.args.waiting.now whole))
