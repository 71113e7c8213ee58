use Rattle.std.proofs.Common.{◌∙◌, ap, sym, arith, inl, inr}
use Rattle.std.proofs.lemmas.Bool.{cases_Bool}
use Rattle.std.proofs.lemmas.List.{drop_all}
use Rattle.memo_core.specs.Views.{as_memos}
use Rattle.memo_core.specs.Marks.{mark_of}
use Rattle.memo_core.proofs.JudgeLemmas.{true_false}
use Rattle.memo_engine.proofs.MarkLemmas.{has_at}
use Rattle.memo_engine.proofs.UnmarkLemmas.{as_memos-without_mark_at, unmarked_same, marked_count-less, without_no_mark, no_new_mark, closed_passed, closed_on, lost_here, lost_above}
use Rattle.memo_engine.proofs.MatchLemmas.{unmarked_matched}
use Rattle.memo_engine.proofs.marks.+unsettle.Goals as goal

pub returns-then-not-unmark-clause-memos : goal.returns-then-not-unmark-clause-memos
returns-then-not-unmark-clause-memos g t c =
    let ks = c.args.memos.now.entries in
    let none = sym c.unmark.ensures.had ∙ c.if-not-unmark.true in
    let same = c.unmark.ensures.marks ∙ without_no_mark c.args.node ks none in
    ap as_memos same

pub returns-then-not-unmark-clause-fewer : goal.returns-then-not-unmark-clause-fewer
returns-then-not-unmark-clause-fewer g t c =
    let ks = c.args.memos.now.entries in
    let none = sym c.unmark.ensures.had ∙ c.if-not-unmark.true in
    let same = c.unmark.ensures.marks ∙ without_no_mark c.args.node ks none in
    rw same (omega arith)

pub returns-then-not-unmark-clause-unmarked : goal.returns-then-not-unmark-clause-unmarked
returns-then-not-unmark-clause-unmarked g t c =
    let ks = c.args.memos.now.entries in
    let none = sym c.unmark.ensures.had ∙ c.if-not-unmark.true in
    let same = c.unmark.ensures.marks ∙ without_no_mark c.args.node ks none in
    rw same none

pub returns-then-not-unmark-clause-matched : goal.returns-then-not-unmark-clause-matched
returns-then-not-unmark-clause-matched g t c =
    let ks = c.args.memos.now.entries in
    let none = sym c.unmark.ensures.had ∙ c.if-not-unmark.true in
    let same = c.unmark.ensures.marks ∙ without_no_mark c.args.node ks none in
    λ n h. rw same at h

pub returns-then-not-unmark-clause-old : goal.returns-then-not-unmark-clause-old
returns-then-not-unmark-clause-old g t c =
    let ks = c.args.memos.now.entries in
    let none = sym c.unmark.ensures.had ∙ c.if-not-unmark.true in
    let same = c.unmark.ensures.marks ∙ without_no_mark c.args.node ks none in
    λ n h. rw same at h

pub returns-then-not-unmark-clause-closed : goal.returns-then-not-unmark-clause-closed
returns-then-not-unmark-clause-closed g t c =
    let ks = c.args.memos.now.entries in
    let none = sym c.unmark.ensures.had ∙ c.if-not-unmark.true in
    let same = c.unmark.ensures.marks ∙ without_no_mark c.args.node ks none in
    λ valid rest p. rw same (closed_passed (g.T.Texts.net c.args.texts.now)
    c.args.memos.now.entries c.args.node rest none p)

pub returns-then-not-unmark-clause-lost : goal.returns-then-not-unmark-clause-lost
returns-then-not-unmark-clause-lost g t c =
    let ks = c.args.memos.now.entries in
    let none = sym c.unmark.ensures.had ∙ c.if-not-unmark.true in
    let same = c.unmark.ensures.marks ∙ without_no_mark c.args.node ks none in
    λ valid n used before after. absurd (true_false _ before (rw same at after))

pub loop-i-init : goal.loop-i-init
loop-i-init g t c =
    let net = g.T.Texts.net c.args.texts.now in
    let ks = c.args.memos.now.entries in
    let n = c.args.node in
    record {
      same = rw c.unmark.ensures.marks (as_memos-without_mark_at n ks);
      fewer =
          rw c.unmark.ensures.marks (marked_count-less n ks
          (sym c.unmark.ensures.had ∙ c.if-not-unmark.false));
      unmarked = rw c.unmark.ensures.marks (unmarked_same n ks);
      matched = rw c.unmark.ensures.marks (λ m h. sym (unmarked_matched n m ks) ∙ h);
      old = rw c.unmark.ensures.marks (no_new_mark net ks n);
      closed =
          λ valid rest p. rw c.unmark.ensures.marks (closed_on net ks n
          (g.T.Texts.users c.args.texts.now)
          (g.met.T.Texts.users_are c.args.texts.now valid) rest p);
      lost = λ valid. rw c.unmark.ensures.marks (lost_here net ks n);
      room = c.unmark.ensures.room;
    }

pub loop-i-preserved : goal.loop-i-preserved
loop-i-preserved g t c =
    let net = g.T.Texts.net c.args.texts.now in
    let users = g.T.Texts.users c.args.texts.now in
    let i = c.loop-i.invariant in
    record {
      same = c.unsettle.ensures.memos ∙ i.same;
      fewer = omega (arith, c.unsettle.ensures.fewer, i.fewer);
      unmarked = elim (cases_Bool (mark_of c.unsettle.new.memos.entries c.args.node)) [
        | inl t ↦ absurd (true_false _ (c.unsettle.ensures.old c.args.node t) i.unmarked)
        | inr f ↦ f
      ];
      matched = λ n h. i.matched n (c.unsettle.ensures.matched n h);
      old = λ n h. i.old n (c.unsettle.ensures.old n h);
      closed =
          λ valid rest p. c.unsettle.ensures.closed valid _ (rw c.user_at.ensures.rest at
          (i.closed valid rest p));
      lost =
          λ valid. lost_above net users c.args.memos.now.entries _ c.unsettle.new.memos.entries
          c.args.node c.user_at.result (g.met.T.Texts.users_read c.args.texts.now valid)
          (has_at (users c.args.node) c.loop-i.i c.user_at.result c.user_at.ensures.at)
          (elim (cases_Bool (mark_of c.unsettle.new.memos.entries c.args.node)) [
            | inl t ↦ absurd (true_false _ (c.unsettle.ensures.old c.args.node t) i.unmarked)
            | inr f ↦ f
          ])
          c.unsettle.ensures.old (i.lost valid) (c.unsettle.ensures.lost valid);
      room = c.unsettle.ensures.room ∙ i.room;
    }

pub returns-clause-closed : goal.returns-clause-closed
returns-clause-closed g t c =
    let users = g.T.Texts.users c.args.texts.now c.args.node in
    λ valid rest p.
    rw (drop_all c.loop-i.i users (omega arith)) at (c.loop-i.invariant.closed valid rest p)
