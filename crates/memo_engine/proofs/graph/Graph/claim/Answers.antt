use Rattle.std.proofs.Common.{◌≡◌, ◌+◌, List, refl, ap, subst, sym}
use Rattle.memo_core.specs.Graph.{Net, at}
use Rattle.memo_core.specs.Right.{CountsAsComputed}
use Rattle.memo_core.proofs.Counted.{counted_made}
use Rattle.memo_core.specs.Views.{MemoEntry, as_memos, shown_values}
use Rattle.memo_engine.proofs.WorkLemmas.{values_there, values_present, has_there}
use Rattle.memo_core.proofs.ClaimLemmas.{opened, numbered_opened}
use Rattle.memo_engine.proofs.MarkLemmas.{is_work_of, marked_none}
use Rattle.memo_core.proofs.Progress.{gives_fresh}
use Rattle.memo_core.specs.declared.claims.Claim.{Claim}
use Rattle.memo_core.specs.Step.{open_claim, open_claims, state}
use Rattle.memo_engine.proofs.WaitingLemmas.{whole_opened, whole_same}
use Rattle.memo_engine.proofs.KeepLemmas.{same_kept}
use Rattle.memo_core.proofs.Runs.{right_later}
use Rattle.memo_engine.specs.Matched.{AreMatched}
use Rattle.memo_engine.proofs.graph.Graph.claim.Goals as goal

pub returns-in-None-clause-none : goal.returns-in-None-clause-none
returns-in-None-clause-none g c =
    let s = c.args.self.now in
    let t = g.T.Texts in
    marked_none (t.net s.texts) s.memos.entries
    (g.met.T.Texts.used_closed s.texts c.requires.right.0) c.requires.marks s.claims.entries
    s.taken
    c.in-None.ensures.none

pub job_of-requires : goal.job_of-requires
job_of-requires g c =
    let s = c.args.self.now in
    let t = g.T.Texts in
    let laws = g.met.T.Texts in
    let w = is_work_of (t.net s.texts) s.memos.entries (laws.used_closed s.texts c.requires.right.0) c.requires.marks s.claims.entries s.taken c.in-Some.node c.in-Some.ensures.used c.in-Some.ensures.work in
    let there = has_there (t.is_there s.texts) (t.net s.texts).used c.in-Some.node (laws.used_there s.texts c.requires.right.0) w.used in
    record {
      there = there;
      values =
          values_there (CountsAsComputed t.since t.net t.makes s.texts) t.makes (t.net s.texts)
          (as_memos s.memos.entries) s.taken (t.is_there s.texts)
          (λ m is vs os k a. counted_made t.is_valid t.since t.net t.makes laws.given_stays s.texts
          c.requires.right.0 m is vs os k a) c.requires.right.1
          (laws.sound s.texts c.requires.right.0) c.in-Some.node there w.inputs_settled;
    }

pub returns-clause-given : goal.returns-clause-given
returns-clause-given g c =
    let s = c.args.self.now in
    let t = g.T.Texts in
    let w = is_work_of (t.net s.texts) s.memos.entries (g.met.T.Texts.used_closed s.texts c.requires.right.0) c.requires.marks s.claims.entries s.taken c.in-Some.node c.in-Some.ensures.used c.in-Some.ensures.work in
    let made = c.in_ok-job.ensures in
    record {
      work = rw made.claim.1 w;
      number_is = made.claim.0;
      given_is = rw made.claim.1 made.given;
      keys_are = rw made.claim.1 made.keys;
      values_are =
          rw made.keys (values_present (at (as_memos s.memos.entries))
          ((t.net s.texts).inputs c.in-Some.node) (shown_values c.in_ok-job.job.values.items)
          (sym made.values));
      after =
          rw (
            c.in_ok-open_claim.ensures.memos,
            c.in_ok-open_claim.ensures.opened,
            opened s.taken (record { node = c.in-Some.node; inputs = c.in_ok-inputs.inputs })
                s.claims.entries c.requires.fresh.1,
            c.in_ok-inputs.ensures,
            made.claim.0,
            made.claim.1,
          ) refl;
    }

pub returns-clause-right : goal.returns-clause-right
returns-clause-right g c =
    let s = c.args.self.now in (
      c.requires.right.0,
      rw c.in_ok-open_claim.ensures.memos (right_later
          (CountsAsComputed g.T.Texts.since g.T.Texts.net g.T.Texts.makes s.texts)
          (g.T.Texts.net s.texts) (as_memos s.memos.entries) s.taken c.requires.right.1),
    )

pub returns-clause-fresh : goal.returns-clause-fresh
returns-clause-fresh g c =
    let s = c.args.self.now in
    let net = g.T.Texts.net s.texts in
    let job = c.in_ok-job.job in (
      gives_fresh (state net s.memos.entries s.claims.entries s.taken)
          (state net c.open_claim.new.memos.entries c.open_claim.new.claims.entries (s.taken + 1))
          job.claim job.node job.given job.keys.items (shown_values job.values.items)
          c.requires.fresh.0 (returns-clause-given g c),
      rw (
        c.in_ok-open_claim.ensures.opened,
        opened s.taken (record { node = c.in-Some.node; inputs = c.in_ok-inputs.inputs })
            s.claims.entries c.requires.fresh.1,
      )
          (numbered_opened s.taken _ (open_claims s.claims.entries) refl c.requires.fresh.1),
    )

pub invariant_of-self-2-clause-kept : goal.invariant_of-self-2-clause-kept
invariant_of-self-2-clause-kept g c =
    let s = c.args.self.now in
    same_kept (g.T.Texts.keeps s.texts) s.memos.entries c.open_claim.new.memos.entries
    (ap as_memos c.in_ok-open_claim.ensures.memos) s.kept

-- what is known to match does where the memos are the same
matched_memos : {V G : Type 0} (net : Net G) (old new : List (MemoEntry V)) → new ≡ old
    → AreMatched net old → AreMatched net new
matched_memos {V} net old new e are =
    subst (λ (ks : List (MemoEntry V)). AreMatched net ks) (sym e) are

pub invariant_of-self-2-clause-matched : goal.invariant_of-self-2-clause-matched
invariant_of-self-2-clause-matched g c =
    let s = c.args.self.now in
    matched_memos (g.T.Texts.net s.texts) s.memos.entries c.open_claim.new.memos.entries
    c.in_ok-open_claim.ensures.memos s.matched

pub invariant_of-self-2-clause-whole : goal.invariant_of-self-2-clause-whole
invariant_of-self-2-clause-whole g c =
    let s = c.args.self.now in
    let net = g.T.Texts.net s.texts in
    let k : Claim = record { node = c.in-Some.node; inputs = c.in_ok-inputs.inputs } in
    whole_same net net s.memos.entries c.open_claim.new.memos.entries
    c.open_claim.new.claims.entries c.find_node.new.waiting refl c.in_ok-open_claim.ensures.memos
    (whole_opened net s.memos.entries s.claims.entries c.open_claim.new.claims.entries
    c.find_node.new.waiting (open_claim (s.taken + 1, k))
    (rw c.in_ok-open_claim.ensures.opened (opened s.taken k s.claims.entries c.requires.fresh.1))
    c.find_node.ensures.whole)
