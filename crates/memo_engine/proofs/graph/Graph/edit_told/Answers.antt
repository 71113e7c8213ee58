use Rattle.std.proofs.Common.{ℕ, ◌≤◌, ◌∙◌, [], refl, sym, subst}
use Rattle.memo_core.specs.Views.{as_memos}
use Rattle.memo_core.specs.Step.{open_claims}
use Rattle.memo_core.proofs.Progress.{keep_fresh}
use Rattle.memo_core.proofs.ClaimLemmas.{numbered_later}
use Rattle.memo_core.specs.Right.{CountsAsComputed}
use Rattle.memo_core.proofs.Counted.{counted_later}
use Rattle.memo_core.proofs.Headline.{edit_right}
use Rattle.memo_core.proofs.Runs.{right_kept}
use Rattle.memo_engine.proofs.KeepLemmas.{left_kept, kept_by}
use Rattle.memo_engine.proofs.MatchLemmas.{matched_same}
use Rattle.memo_engine.proofs.WaitingLemmas.{whole_noted, whole_same}
use Rattle.memo_engine.proofs.graph.Graph.edit_told.Goals as goal

pub returns-clause-edited : goal.returns-clause-edited
returns-clause-edited g c =
    let s = c.args.self.now in
    g.met.T.Texts.commits_edit s.texts c.prepare.new.self c.put_in_place.new.texts c.args.edit
    c.in-Ok.prepared _ c.in-Ok.ensures.prepares c.put_in_place.ensures.commits

pub returns-clause-right : goal.returns-clause-right
returns-clause-right g c =
    let s = c.args.self.now in
    let t = g.T.Texts in
    let laws = g.met.T.Texts in
    let edited = laws.commits_edit s.texts c.prepare.new.self c.put_in_place.new.texts c.args.edit c.in-Ok.prepared _ c.in-Ok.ensures.prepares c.put_in_place.ensures.commits in (
      laws.valid_edited s.texts c.put_in_place.new.texts c.args.edit _ c.requires.right.0 edited,
      rw c.put_in_place.ensures.memos (edit_right (CountsAsComputed t.since t.net t.makes s.texts)
          (CountsAsComputed t.since t.net t.makes c.put_in_place.new.texts)
          (λ n is vs os k. counted_later t.is_valid t.since t.net t.makes s.texts
          c.put_in_place.new.texts
          (λ w f. laws.since_edited w s.texts c.put_in_place.new.texts c.args.edit _ f edited) n
          is vs os k)
          (t.net s.texts)
          (t.net c.put_in_place.new.texts)
          (as_memos s.memos.entries) s.taken
          (t.keeps c.put_in_place.new.texts) c.requires.right.1
          (laws.goes_on s.texts c.put_in_place.new.texts c.args.edit _ c.requires.right.0 edited)),
    )

pub returns-clause-marks : goal.returns-clause-marks
returns-clause-marks g c =
    let s = c.args.self.now in
    let laws = g.met.T.Texts in
    let edited = laws.commits_edit s.texts c.prepare.new.self c.put_in_place.new.texts c.args.edit c.in-Ok.prepared _ c.in-Ok.ensures.prepares c.put_in_place.ensures.commits in
    c.put_in_place.ensures.marks (c.prepare.ensures.valid c.requires.right.0)
    (laws.valid_edited s.texts c.put_in_place.new.texts c.args.edit _ c.requires.right.0 edited)
    (rw c.prepare.ensures.net (laws.touches_only s.texts c.prepare.new.self
    c.put_in_place.new.texts c.args.edit c.in-Ok.prepared _ c.requires.right.0
    c.in-Ok.ensures.prepares c.put_in_place.ensures.commits))
    (rw c.prepare.ensures.net s.matched)
    (rw c.prepare.ensures.net c.requires.marks)

pub returns-in-Err-clause-right : goal.returns-in-Err-clause-right
returns-in-Err-clause-right g c =
    let s = c.args.self.now in
    let t = g.T.Texts in (
      c.prepare.ensures.valid c.requires.right.0,
      right_kept (CountsAsComputed t.since t.net t.makes s.texts)
          (CountsAsComputed t.since t.net t.makes c.prepare.new.self)
          (λ n is vs os k. counted_later t.is_valid t.since t.net t.makes s.texts
          c.prepare.new.self (λ w f. c.prepare.ensures.since w f) n is vs os k)
          (t.net s.texts)
          (t.net c.prepare.new.self) c.prepare.ensures.net
          (as_memos s.memos.entries) s.taken c.requires.right.1,
    )

pub returns-then-not-tell-clause-right : goal.returns-then-not-tell-clause-right
returns-then-not-tell-clause-right g c =
    let s = c.args.self.now in
    let t = g.T.Texts in (
      c.prepare.ensures.valid c.requires.right.0,
      right_kept (CountsAsComputed t.since t.net t.makes s.texts)
          (CountsAsComputed t.since t.net t.makes c.prepare.new.self)
          (λ n is vs os k. counted_later t.is_valid t.since t.net t.makes s.texts
          c.prepare.new.self (λ w f. c.prepare.ensures.since w f) n is vs os k)
          (t.net s.texts)
          (t.net c.prepare.new.self) c.prepare.ensures.net
          (as_memos s.memos.entries) s.taken c.requires.right.1,
    )

pub returns-clause-fresh : goal.returns-clause-fresh
returns-clause-fresh g c =
    let s = c.args.self.now in (
      rw c.put_in_place.ensures.memos (keep_fresh (g.T.Texts.keeps c.put_in_place.new.texts)
          (as_memos s.memos.entries) (open_claims s.claims.entries) c.requires.fresh.0),
      numbered_later s.taken (open_claims s.claims.entries) c.requires.fresh.1,
    )

pub returns-clause-step : goal.returns-clause-step
returns-clause-step g c =
    let s = c.args.self.now in
    let laws = g.met.T.Texts in
    let edited = laws.commits_edit s.texts c.prepare.new.self c.put_in_place.new.texts c.args.edit c.in-Ok.prepared _ c.in-Ok.ensures.prepares c.put_in_place.ensures.commits in
    record {
      parts = laws.goes_on s.texts c.put_in_place.new.texts c.args.edit _ c.requires.right.0 edited;
      memos = c.put_in_place.ensures.memos;
      claims = refl;
      taken = refl;
    }

pub returns-in-Err-clause-since : goal.returns-in-Err-clause-since
returns-in-Err-clause-since g c =
    let s = c.args.self.now in
    c.prepare.ensures.since s.texts (g.met.T.Texts.since_same s.texts c.requires.right.0)

pub returns-then-not-tell-clause-marks : goal.returns-then-not-tell-clause-marks
returns-then-not-tell-clause-marks g c = rw c.prepare.ensures.net c.requires.marks

pub put_in_place-requires-clause-kept : goal.put_in_place-requires-clause-kept
put_in_place-requires-clause-kept g c =
    let s = c.args.self.now in
    λ none t commits.
    kept_by (g.T.Texts.keeps s.texts) (g.T.Texts.keeps t)
    (g.met.T.Texts.keeps_all s.texts c.prepare.new.self t c.args.edit c.in-Ok.prepared _
    c.requires.right.0 c.in-Ok.ensures.prepares commits none) s.memos.entries s.kept

pub invariant_of-self-2-clause-kept : goal.invariant_of-self-2-clause-kept
invariant_of-self-2-clause-kept g c =
    left_kept (g.T.Texts.keeps c.put_in_place.new.texts) c.args.self.now.memos.entries
    c.put_in_place.new.memos.entries c.put_in_place.ensures.memos

pub invariant_of-self-2-clause-matched : goal.invariant_of-self-2-clause-matched
invariant_of-self-2-clause-matched g c =
    let s = c.args.self.now in
    let laws = g.met.T.Texts in
    let edited = laws.commits_edit s.texts c.prepare.new.self c.put_in_place.new.texts c.args.edit c.in-Ok.prepared _ c.in-Ok.ensures.prepares c.put_in_place.ensures.commits in
    c.put_in_place.ensures.matched (c.prepare.ensures.valid c.requires.right.0)
    (laws.valid_edited s.texts c.put_in_place.new.texts c.args.edit _ c.requires.right.0 edited)
    (rw c.prepare.ensures.net (laws.touches_only s.texts c.prepare.new.self
    c.put_in_place.new.texts c.args.edit c.in-Ok.prepared _ c.requires.right.0
    c.in-Ok.ensures.prepares c.put_in_place.ensures.commits))
    (rw c.prepare.ensures.net s.matched) (rw c.prepare.ensures.net c.requires.marks)

pub invariant_of-self-2-clause-whole : goal.invariant_of-self-2-clause-whole
invariant_of-self-2-clause-whole g c =
    let s = c.args.self.now in
    let laws = g.met.T.Texts in
    let net = g.T.Texts.net s.texts in
    let edited = laws.commits_edit s.texts c.prepare.new.self c.put_in_place.new.texts c.args.edit c.in-Ok.prepared _ c.in-Ok.ensures.prepares c.put_in_place.ensures.commits in
    c.put_in_place.ensures.whole (c.prepare.ensures.valid c.requires.right.0)
    (laws.valid_edited s.texts c.put_in_place.new.texts c.args.edit _ c.requires.right.0 edited)
    (rw c.prepare.ensures.net (laws.touches_only s.texts c.prepare.new.self
    c.put_in_place.new.texts c.args.edit c.in-Ok.prepared _ c.requires.right.0
    c.in-Ok.ensures.prepares c.put_in_place.ensures.commits))
    (rw c.prepare.ensures.net s.matched)
    s.claims.entries (rw c.prepare.ensures.net c.requires.marks)
    (rw c.prepare.ensures.net (whole_noted net s.memos.entries s.claims.entries s.waiting
    c.reserve.new.self [] [] c.reserve.ensures s.whole))

pub invariant_of-self-in-Err-reserve : goal.invariant_of-self-in-Err-reserve
invariant_of-self-in-Err-reserve g c =
    let s = c.args.self.now in
    let t = g.T.Texts in
    record {
      room = s.room;
      small = s.small;
      few = s.few;
      last = subst (λ (l : ℕ). l ≤ s.taken) (sym c.prepare.ensures.last) s.last;
      kept =
          kept_by (t.keeps s.texts) (t.keeps c.prepare.new.self)
          (λ n h. c.prepare.ensures.keeps n ∙ h) s.memos.entries s.kept;
      matched =
          matched_same (t.net s.texts) (t.net c.prepare.new.self) s.memos.entries
          c.prepare.ensures.net s.matched;
      whole =
          whole_same (t.net s.texts) (t.net c.prepare.new.self) s.memos.entries s.memos.entries
          s.claims.entries c.reserve.new.self c.prepare.ensures.net refl
          (whole_noted (t.net s.texts) s.memos.entries s.claims.entries s.waiting
          c.reserve.new.self [] [] c.reserve.ensures s.whole);
    }

pub invariant_of-self-then-not-tell-clause-kept : goal.invariant_of-self-then-not-tell-clause-kept
invariant_of-self-then-not-tell-clause-kept g c =
    let s = c.args.self.now in
    let t = g.T.Texts in
    kept_by (t.keeps s.texts) (t.keeps c.prepare.new.self) (λ n h. c.prepare.ensures.keeps n ∙ h)
    s.memos.entries s.kept

pub invariant_of-self-then-not-tell-clause-matched : goal.invariant_of-self-then-not-tell-clause-matched
invariant_of-self-then-not-tell-clause-matched g c =
    let s = c.args.self.now in
    matched_same (g.T.Texts.net s.texts) (g.T.Texts.net c.prepare.new.self) s.memos.entries
    c.prepare.ensures.net s.matched

pub invariant_of-self-then-not-tell-clause-whole : goal.invariant_of-self-then-not-tell-clause-whole
invariant_of-self-then-not-tell-clause-whole g c =
    let s = c.args.self.now in
    let t = g.T.Texts in
    whole_same (t.net s.texts) (t.net c.prepare.new.self) s.memos.entries s.memos.entries
    s.claims.entries c.reserve.new.self c.prepare.ensures.net refl
    (whole_noted (t.net s.texts) s.memos.entries s.claims.entries s.waiting c.reserve.new.self [] []
    c.reserve.ensures s.whole)

pub returns-in-Err-reserve-clause-right : goal.returns-in-Err-reserve-clause-right
returns-in-Err-reserve-clause-right g c =
    let s = c.args.self.now in
    let t = g.T.Texts in (
      c.prepare.ensures.valid c.requires.right.0,
      right_kept (CountsAsComputed t.since t.net t.makes s.texts)
          (CountsAsComputed t.since t.net t.makes c.prepare.new.self)
          (λ n is vs os k. counted_later t.is_valid t.since t.net t.makes s.texts
          c.prepare.new.self (λ w f. c.prepare.ensures.since w f) n is vs os k)
          (t.net s.texts)
          (t.net c.prepare.new.self) c.prepare.ensures.net
          (as_memos s.memos.entries) s.taken c.requires.right.1,
    )
