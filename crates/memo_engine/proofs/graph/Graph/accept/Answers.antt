use Rattle.memo_core.specs.declared.keys.Key.{Key}
use Rattle.std.proofs.Common.{◌∙◌, ◌+◌, inl, List, [], ◌∷◌, subst, sym, ap, ◌≡◌, Some, None, option_map}
use Rattle.memo_core.specs.Graph.{Memo, named_values}
use Rattle.memo_core.specs.Views.{as_memos, shown_outputs, shown_values}
use Rattle.memo_core.specs.Step.{Has, open_claim, open_claims, return_of, state}
use Rattle.memo_core.proofs.ClaimLemmas.{closed, found, numbered_later, numbered_closed}
use Rattle.memo_core.proofs.Progress.{accepts_fresh, accept_unsettled}
use Rattle.std.specs.Ordering.{nat_cmp}
use Rattle.std.specs.BTreeMap.{is_at}
use Rattle.memo_engine.proofs.MarkLemmas.{put_pending, put_whole}
use Rattle.memo_core.specs.Right.{CountsAsComputed}
use Rattle.memo_core.proofs.Counted.{counted_now}
use Rattle.memo_engine.proofs.AcceptLemmas.{accepted, accepted_matched, claimed, due_unsettled, finishes}
use Rattle.memo_engine.proofs.KeepLemmas.{put_kept, same_kept}
use Rattle.memo_engine.proofs.WaitingLemmas.{whole_closed}
use Rattle.memo_engine.proofs.graph.Graph.accept.Goals as goal

pub unreachable-requires : goal.unreachable-requires
unreachable-requires g c =
    let s = c.args.self.now in
    clash (sym c.requires.due.1.found ∙ sym (found c.args.done.claim s.claims.entries)
    ∙ ap (option_map (λ k. open_claim (c.args.done.claim, k)))
    (sym c.remove.ensures.value ∙ c.in-None.is))
  where
    clash : {X : Type 0} {x : X} → Some x ≡ None → ⊥
    clash e = cc

pub returns-clause-taken : goal.returns-clause-taken
returns-clause-taken g c =
    let s = c.args.self.now in
    let d = c.args.done in
    let t = g.T.Texts in
    let net = t.net s.texts in
    let values = shown_values d.values.items in
    let outputs = shown_outputs d.outputs.items in
    let r = return_of d.claim d.node d.given d.keys.items values outputs in
    let present = c.requires.due.3 in
    let used : Has net.used d.node = subst (Has net.used) c.requires.due.1.same c.requires.due.2.used in
    let a = accepted t.same g.met.T.Texts.same_exact (CountsAsComputed t.since t.net t.makes s.texts) net (as_memos s.memos.entries) s.claims.entries s.taken d.claim d.node d.given d.keys.items values outputs
    c.in-Some.claim (sym c.in-Some.is ∙ c.remove.ensures.value) c.requires.due c.requires.right.1 (λ
    is a. counted_now t.is_valid t.since t.net t.makes s.texts
    (g.met.T.Texts.since_same s.texts c.requires.right.0) d.node is values
    (named_values outputs) a
    (record {
      given = d.given;
      gives = present.given;
      made =
          subst
          (λ (ks : List Key). t.makes d.node d.given ks values (named_values outputs))
          present.keys c.requires.computed;
    })) (as_memos c.settle.new.memos.entries)
    c.remove.new.self.entries
    (c.settle.ensures.memos ∙ c.doubt_users.ensures.memos
    ∙ rw (c.restamp_all.ensures.outputs, c.into_results-outputs.ensures.outputs) at
    c.store_memo.ensures.memos) c.remove.ensures.entries in
    let known = accepted_matched t.makes t.same net s.memos.entries c.doubt_users.new.memos.entries s.claims.entries s.taken d.claim d.node d.given d.keys.items values outputs (shown_outputs c.restamp_all.new.outputs.items)
    c.in-Some.claim c.as_slice.result.now (t.users s.texts) (t.rank s.texts) (t.is_there s.texts) (sym c.in-Some.is ∙ c.remove.ensures.value) c.requires.due c.requires.computed (rw c.into_results-outputs.ensures.outputs at c.restamp_all.ensures.outputs) (c.as_slice.ensures.value ∙ (rw c.into_results-outputs.ensures.outputs at c.restamp_all.ensures.names)) (g.met.T.Texts.users_are s.texts c.requires.right.0) (g.met.T.Texts.falls s.texts c.requires.right.0) (g.met.T.Texts.sound s.texts c.requires.right.0) (g.met.T.Texts.used_there s.texts c.requires.right.0) (c.doubt_users.ensures.memos ∙ c.store_memo.ensures.memos) (λ n f h. sym (rw f at (c.store_memo.ensures.matched n)) ∙ c.doubt_users.ensures.old n h) c.doubt_users.ensures.doubted s.matched in
    let old = state net s.memos.entries s.claims.entries s.taken in
    let new = state net c.settle.new.memos.entries c.remove.new.self.entries (s.taken + 1) in
    let m : Memo g.row.T-Value.Denot = record { node = d.node; inputs = c.in-Some.claim.inputs.items; outputs = shown_outputs c.restamp_all.new.outputs.items } in
    record {
      right = (c.requires.right.0, a.0);
      fresh = (
        accepts_fresh old new r c.requires.fresh.0 a.1,
        rw (c.remove.ensures.entries, closed d.claim s.claims.entries) (numbered_later s.taken _
            (numbered_closed s.taken d.claim (open_claims s.claims.entries)
            c.requires.fresh.1)),
      );
      marks =
          c.settle.ensures.marks c.requires.right.0 used known [] (put_pending net s.memos.entries
          c.doubt_users.new.memos.entries m c.requires.marks
          (c.doubt_users.ensures.memos ∙ c.store_memo.ensures.memos)
          (λ n. c.doubt_users.ensures.marks n ∙ c.store_memo.ensures.flags n)
          (accept_unsettled old new r c.requires.fresh.0 a.1));
      step =
          finishes old new r c.restamp_all.new.names.items c.finish_of.result c.finish_of.ensures
          a.1 ((rw c.into_results-outputs.ensures.outputs at c.restamp_all.ensures.names) ∙ a.2);
    }

pub invariant_of-self-clause-kept : goal.invariant_of-self-clause-kept
invariant_of-self-clause-kept g c =
    let s = c.args.self.now in
    let d = c.args.done in
    let t = g.T.Texts in
    let used : Has (t.net s.texts).used d.node = subst (Has (t.net s.texts).used) c.requires.due.1.same c.requires.due.2.used in
    let m : Memo g.row.T-Value.Denot = record { node = d.node; inputs = c.in-Some.claim.inputs.items; outputs = shown_outputs c.restamp_all.new.outputs.items } in
    same_kept (t.keeps s.texts) c.store_memo.new.memos.entries c.settle.new.memos.entries
    (c.settle.ensures.memos ∙ c.doubt_users.ensures.memos)
    (put_kept (t.keeps s.texts) m s.memos.entries c.store_memo.new.memos.entries
    c.store_memo.ensures.memos
    (g.met.T.Texts.used_kept s.texts c.requires.right.0 d.node used) s.kept)

pub invariant_of-self-clause-matched : goal.invariant_of-self-clause-matched
invariant_of-self-clause-matched g c =
    let s = c.args.self.now in
    let d = c.args.done in
    let t = g.T.Texts in
    let net = t.net s.texts in
    let values = shown_values d.values.items in
    let outputs = shown_outputs d.outputs.items in
    let used : Has net.used d.node = subst (Has net.used) c.requires.due.1.same c.requires.due.2.used in
    let known = accepted_matched t.makes t.same net s.memos.entries c.doubt_users.new.memos.entries s.claims.entries s.taken d.claim d.node d.given d.keys.items values outputs (shown_outputs c.restamp_all.new.outputs.items)
    c.in-Some.claim c.as_slice.result.now (t.users s.texts) (t.rank s.texts) (t.is_there s.texts) (sym c.in-Some.is ∙ c.remove.ensures.value) c.requires.due c.requires.computed (rw c.into_results-outputs.ensures.outputs at c.restamp_all.ensures.outputs) (c.as_slice.ensures.value ∙ (rw c.into_results-outputs.ensures.outputs at c.restamp_all.ensures.names)) (g.met.T.Texts.users_are s.texts c.requires.right.0) (g.met.T.Texts.falls s.texts c.requires.right.0) (g.met.T.Texts.sound s.texts c.requires.right.0) (g.met.T.Texts.used_there s.texts c.requires.right.0) (c.doubt_users.ensures.memos ∙ c.store_memo.ensures.memos) (λ n f h. sym (rw f at (c.store_memo.ensures.matched n)) ∙ c.doubt_users.ensures.old n h) c.doubt_users.ensures.doubted s.matched in
    c.settle.ensures.matched c.requires.right.0 used known

pub invariant_of-self-clause-whole : goal.invariant_of-self-clause-whole
invariant_of-self-clause-whole g c =
    let s = c.args.self.now in
    let d = c.args.done in
    let t = g.T.Texts in
    let net = t.net s.texts in
    let ks = s.memos.entries in
    let put = c.doubt_users.new.memos.entries in
    let stored = c.doubt_users.ensures.memos ∙ c.store_memo.ensures.memos in
    let cs = c.remove.new.self.entries in
    let values = shown_values d.values.items in
    let outputs = shown_outputs d.outputs.items in
    let r = return_of d.claim d.node d.given d.keys.items values outputs in
    let used : Has net.used d.node = subst (Has net.used) c.requires.due.1.same c.requires.due.2.used in
    let m : Memo g.row.T-Value.Denot = record { node = d.node; inputs = c.in-Some.claim.inputs.items; outputs = shown_outputs c.restamp_all.new.outputs.items } in
    let known = accepted_matched t.makes t.same net s.memos.entries c.doubt_users.new.memos.entries s.claims.entries s.taken d.claim d.node d.given d.keys.items values outputs (shown_outputs c.restamp_all.new.outputs.items)
    c.in-Some.claim c.as_slice.result.now (t.users s.texts) (t.rank s.texts) (t.is_there s.texts) (sym c.in-Some.is ∙ c.remove.ensures.value) c.requires.due c.requires.computed (rw c.into_results-outputs.ensures.outputs at c.restamp_all.ensures.outputs) (c.as_slice.ensures.value ∙ (rw c.into_results-outputs.ensures.outputs at c.restamp_all.ensures.names)) (g.met.T.Texts.users_are s.texts c.requires.right.0) (g.met.T.Texts.falls s.texts c.requires.right.0) (g.met.T.Texts.sound s.texts c.requires.right.0) (g.met.T.Texts.used_there s.texts c.requires.right.0) (c.doubt_users.ensures.memos ∙ c.store_memo.ensures.memos) (λ n f h. sym (rw f at (c.store_memo.ensures.matched n)) ∙ c.doubt_users.ensures.old n h) c.doubt_users.ensures.doubted s.matched in
    let unsettled = due_unsettled t.same g.met.T.Texts.same_exact net (as_memos ks) s.claims.entries s.taken d.claim d.node d.given d.keys.items values outputs c.requires.due c.requires.fresh.0 in
    let found = sym c.in-Some.is ∙ c.remove.ensures.value in
    let by = claimed net (as_memos ks) s.claims.entries s.taken r c.in-Some.claim found c.requires.due.0 c.requires.due.1 in
    c.settle.ensures.whole c.requires.right.0 used known cs []
    (put_pending net ks put m c.requires.marks stored
    (λ n. c.doubt_users.ensures.marks n ∙ c.store_memo.ensures.flags n) unsettled)
    (put_whole net ks put m c.requires.marks stored
    (λ n. c.doubt_users.ensures.marks n ∙ c.store_memo.ensures.flags n) unsettled cs s.waiting
    (whole_closed net ks s.claims.entries cs s.waiting (is_at (nat_cmp d.claim)) c.in-Some.claim
    (d.node ∷ []) found c.remove.ensures.entries (λ n used e i. inl (sym by.1 ∙ e)) s.whole))
