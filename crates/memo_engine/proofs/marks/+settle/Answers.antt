use Rattle.std.proofs.Common.{◌∙◌, refl, sym, arith}
use Rattle.std.proofs.lemmas.List.{drop_all}
use Rattle.memo_engine.proofs.MarkLemmas.{as_memos-with_mark_at, unmarked_count-less, ready_there, passed, marked_on, marked_whole, has_at}
use Rattle.memo_engine.proofs.MatchLemmas.{matched_marked}
use Rattle.memo_engine.proofs.marks.+settle.Goals as goal

pub returns-in-None-clause-marks : goal.returns-in-None-clause-marks
returns-in-None-clause-marks g t c =
    λ valid there are rest p. passed (g.T.Texts.net c.args.texts.now) c.args.memos.now.entries
    c.args.node (sym (c.in-None.ensures.ready are)) rest p

pub returns-in-None-clause-whole : goal.returns-in-None-clause-whole
returns-in-None-clause-whole g t c =
    λ valid there are claims rest p. c.in-None.ensures.whole claims rest refl are p

pub returns-in-None-clause-matched : goal.returns-in-None-clause-matched
returns-in-None-clause-matched g t c = λ valid there are. are

pub loop-i-init : goal.loop-i-init
loop-i-init g t c =
    let net = g.T.Texts.net c.args.texts.now in
    let ks = c.args.memos.now.entries in
    let marked = c.mark.ensures.marks c.args.node c.in-Some.ensures.index.0 in
    record {
      same = rw marked (as_memos-with_mark_at c.args.node ks);
      fewer =
          rw marked (unmarked_count-less c.args.node ks _ c.in-Some.ensures.index.0
          c.in-Some.ensures.index.1);
      matched =
          λ valid there are. rw marked (matched_marked net ks c.args.node are there
          (ready_there net ks c.args.node (sym (c.in-Some.ensures.ready are))).1);
      marks =
          λ valid there are rest p. rw marked (marked_on net ks c.args.node
          (g.T.Texts.users c.args.texts.now)
          (λ u has on.
          (g.met.T.Texts.users_are c.args.texts.now valid).listed c.args.node u has on)
          there (sym (c.in-Some.ensures.ready are)) rest p);
      whole =
          λ valid there are claims rest p w. rw
          (marked, c.in-Some.ensures.same refl)
          (marked_whole net ks c.args.node (g.T.Texts.users c.args.texts.now)
          (λ u has on.
          (g.met.T.Texts.users_are c.args.texts.now valid).listed c.args.node u has on)
          there (sym (c.in-Some.ensures.ready are)) rest p claims c.args.waiting.now w);
      room = c.mark.ensures.room;
    }

pub loop-i-preserved : goal.loop-i-preserved
loop-i-preserved g t c = record {
  same = c.settle.ensures.memos ∙ c.loop-i.invariant.same;
  fewer = omega (arith, c.settle.ensures.fewer, c.loop-i.invariant.fewer);
  matched =
      λ valid there are. c.settle.ensures.matched valid
      ((g.met.T.Texts.users_are c.args.texts.now valid).are_used c.args.node c.user_at.result there
      (has_at (g.T.Texts.users c.args.texts.now c.args.node) c.loop-i.i c.user_at.result
      c.user_at.ensures.at)) (c.loop-i.invariant.matched valid there are);
  marks =
      λ valid there are rest p. c.settle.ensures.marks valid
      ((g.met.T.Texts.users_are c.args.texts.now valid).are_used c.args.node c.user_at.result there
      (has_at (g.T.Texts.users c.args.texts.now c.args.node) c.loop-i.i c.user_at.result
      c.user_at.ensures.at)) (c.loop-i.invariant.matched valid there are) _
      (rw c.user_at.ensures.rest at (c.loop-i.invariant.marks valid there are rest p));
  whole =
      λ valid there are claims rest p w. c.settle.ensures.whole valid
      ((g.met.T.Texts.users_are c.args.texts.now valid).are_used c.args.node c.user_at.result there
      (has_at (g.T.Texts.users c.args.texts.now c.args.node) c.loop-i.i c.user_at.result
      c.user_at.ensures.at)) (c.loop-i.invariant.matched valid there are) claims _
      (rw c.user_at.ensures.rest at (c.loop-i.invariant.marks valid there are rest p))
      (rw c.user_at.ensures.rest at (c.loop-i.invariant.whole valid there are claims rest p w));
  room = c.settle.ensures.room ∙ c.loop-i.invariant.room;
}

pub returns-clause-matched : goal.returns-clause-matched
returns-clause-matched g t c = c.loop-i.invariant.matched

pub returns-clause-marks : goal.returns-clause-marks
returns-clause-marks g t c =
    let users = g.T.Texts.users c.args.texts.now c.args.node in
    λ valid there are rest p.
    rw (drop_all c.loop-i.i users (omega arith)) at
    (c.loop-i.invariant.marks valid there are rest p)

pub returns-clause-whole : goal.returns-clause-whole
returns-clause-whole g t c =
    let users = g.T.Texts.users c.args.texts.now c.args.node in
    λ valid there are claims rest p w.
    rw (drop_all c.loop-i.i users (omega arith)) at
    (c.loop-i.invariant.whole valid there are claims rest p w)
