use Rattle.std.proofs.Common.{◌∙◌, ◌+◌, ◌∷◌, drop, refl, sym, arith}
use Rattle.std.proofs.lemmas.List.{drop_all}
use Rattle.memo_engine.proofs.MarkLemmas.{has_at}
use Rattle.memo_engine.proofs.MatchLemmas.{matched_on, matched_end}
use Rattle.memo_engine.proofs.UnmarkLemmas.{left_after, closed_same, closed_settled, closed_used}
use Rattle.memo_engine.proofs.marks.unsettle_touched.Goals as goal

pub loop-i-init : goal.loop-i-init
loop-i-init g c =
    record {
      same = refl;
      old = λ n h. h;
      matched = λ are. are;
      closed = λ valid p. p.closed;
      left = λ valid p. p.left;
      room = refl;
    }

pub loop-i-preserved : goal.loop-i-preserved
loop-i-preserved g c =
    let net = g.T.Texts.net c.args.texts.now in
    let touched = g.T.Texts.touched c.args.texts.now in
    let i = c.loop-i.invariant in
    record {
      same = c.unsettle.ensures.memos ∙ c.doubt.ensures.memos ∙ i.same;
      old = λ n h. i.old n (sym (c.doubt.ensures.marks n) ∙ c.unsettle.ensures.old n h);
      matched =
          λ are. matched_on net c.loop-i.memos.entries c.doubt.new.memos.entries
          c.unsettle.new.memos.entries c.touched_at-node.result (drop (c.loop-i.i + 1) touched)
          (c.unsettle.ensures.memos ∙ c.doubt.ensures.memos) c.doubt.ensures.doubted
          c.doubt.ensures.old c.unsettle.ensures.matched
          (rw c.touched_at-node.ensures.rest at (i.matched are));
      closed =
          λ valid p. c.unsettle.ensures.closed valid (drop (c.loop-i.i + 1) touched)
          (closed_same net c.loop-i.memos.entries c.doubt.new.memos.entries
          (c.touched_at-node.result ∷ drop (c.loop-i.i + 1) touched)
          c.doubt.ensures.memos c.doubt.ensures.marks
          (rw c.touched_at-node.ensures.rest at (i.closed valid p)));
      left =
          λ valid p. left_after net c.loop-i.memos.entries c.unsettle.new.memos.entries
          c.touched_at-node.result touched (c.unsettle.ensures.memos ∙ c.doubt.ensures.memos)
          (λ m h. sym (c.doubt.ensures.marks m) ∙ c.unsettle.ensures.old m h)
          (λ m used before after. c.unsettle.ensures.lost valid m used
          (c.doubt.ensures.marks m ∙ before) after)
          (has_at touched c.loop-i.i c.touched_at-node.result c.touched_at-node.ensures.at)
          (i.left valid p);
      room = c.unsettle.ensures.room ∙ c.doubt.ensures.room ∙ i.room;
    }

pub returns-clause-matched : goal.returns-clause-matched
returns-clause-matched g c =
    let net = g.T.Texts.net c.args.texts.now in
    let touched = g.T.Texts.touched c.args.texts.now in
    λ are. matched_end net c.loop-i.memos.entries
    (rw (drop_all c.loop-i.i touched (omega arith)) at (c.loop-i.invariant.matched are))

pub returns-clause-marks : goal.returns-clause-marks
returns-clause-marks g c =
    let net = g.T.Texts.net c.args.texts.now in
    let touched = g.T.Texts.touched c.args.texts.now in
    λ valid p.
    let ks = c.loop-i.memos.entries in
    let closed = rw (drop_all c.loop-i.i touched (omega arith)) at (c.loop-i.invariant.closed valid p) in
    record {
      used = closed_used net ks (g.T.Texts.rank c.args.texts.now)
          (g.met.T.Texts.falls c.args.texts.now valid) closed;
      sound = closed_settled net ks (g.T.Texts.rank c.args.texts.now)
          (g.met.T.Texts.falls c.args.texts.now valid) closed;
      left = c.loop-i.invariant.left valid p;
    }
