use Rattle.std.proofs.Common.{◌≡◌, ◌∙◌, inl, inr, refl, length, rules, arith}
use Rattle.std.proofs.lemmas.List.{drop_all}
use Rattle.memo_engine.proofs.AcceptLemmas.{no_items}
use Rattle.memo_engine.proofs.MatchLemmas.{doubted_on}
use Rattle.memo_engine.proofs.matched.doubt_users.Goals as goal

pub returns-then-is_empty-clause-doubted : goal.returns-then-is_empty-clause-doubted
returns-then-is_empty-clause-doubted g c =
    let none : length c.args.names.now ≡ 0 = search (rules, c.is_empty.ensures, c.if-is_empty.true) in
    λ n h. inl (no_items c.args.names.now none)

pub returns-then-is_empty-clause-old : goal.returns-then-is_empty-clause-old
returns-then-is_empty-clause-old g c = λ n h. h

pub loop-i-init : goal.loop-i-init
loop-i-init g c = record {
  same = refl;
  marks = λ n. refl;
  doubted = λ n h has. has;
  old = λ n h. h;
  room = refl;
}

pub loop-i-preserved : goal.loop-i-preserved
loop-i-preserved g c =
    let i = c.loop-i.invariant in
    record {
      same = c.doubt.ensures.memos ∙ i.same;
      marks = λ n. c.doubt.ensures.marks n ∙ i.marks n;
      doubted =
          λ n h has. doubted_on c.doubt.new.memos.entries c.user_at.result n _
          c.doubt.ensures.doubted h
          (rw c.user_at.ensures.rest at (i.doubted n (c.doubt.ensures.old n h) has));
      old = λ n h. i.old n (c.doubt.ensures.old n h);
      room = c.doubt.ensures.room ∙ i.room;
    }

pub returns-clause-doubted : goal.returns-clause-doubted
returns-clause-doubted g c =
    let users = g.T.Texts.users c.args.texts.now c.args.node in
    λ n h.
    inr (λ has. rw (drop_all c.loop-i.i users (omega arith)) at (c.loop-i.invariant.doubted n h has))

pub returns-clause-marks : goal.returns-clause-marks
returns-clause-marks g c = c.loop-i.invariant.marks

pub returns-clause-old : goal.returns-clause-old
returns-clause-old g c = c.loop-i.invariant.old
