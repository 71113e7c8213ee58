use Rattle.memo_core.specs.Step.{open_claims, return_of}
use Rattle.memo_core.specs.Views.{as_memos, shown_outputs, shown_values}
use Rattle.std.proofs.Common.{refl}
use Rattle.memo_core.proofs.Progress.{fresh_closed}
use Rattle.memo_core.proofs.ClaimLemmas.{closed, numbered_closed}
use Rattle.memo_engine.proofs.WaitingLemmas.{whole_stale}
use Rattle.memo_engine.proofs.graph.Graph.finish.Goals as goal

pub returns-in-Late-clause-step : goal.returns-in-Late-clause-step
returns-in-Late-clause-step g c =
    let s = c.args.self.now in
    let j = c.in-Late.ensures in
    (j.0, j.1, j.2, rw (c.remove.ensures.entries, closed c.args.done.claim s.claims.entries) refl)

pub returns-in-Late-clause-fresh : goal.returns-in-Late-clause-fresh
returns-in-Late-clause-fresh g c =
    let s = c.args.self.now in
    rw (c.remove.ensures.entries, closed c.args.done.claim s.claims.entries) (
      fresh_closed
          (as_memos s.memos.entries) c.args.done.claim (open_claims s.claims.entries)
          c.requires.fresh.0,
      numbered_closed s.taken c.args.done.claim (open_claims s.claims.entries)
          c.requires.fresh.1,
    )

pub returns-in-Due-clause-right : goal.returns-in-Due-clause-right
returns-in-Due-clause-right g c = c.accept.ensures.taken.right

pub returns-in-Due-clause-fresh : goal.returns-in-Due-clause-fresh
returns-in-Due-clause-fresh g c = c.accept.ensures.taken.fresh

pub returns-in-Due-clause-marks : goal.returns-in-Due-clause-marks
returns-in-Due-clause-marks g c = c.accept.ensures.taken.marks

pub returns-in-Due-clause-step : goal.returns-in-Due-clause-step
returns-in-Due-clause-step g c = c.accept.ensures.taken.step

pub invariant_of-self-clause-whole : goal.invariant_of-self-clause-whole
invariant_of-self-clause-whole g c =
    let s = c.args.self.now in
    let d = c.args.done in
    let r = return_of d.claim d.node d.given d.keys.items (shown_values d.values.items) (shown_outputs d.outputs.items) in
    let j = c.in-Late.ensures in
    whole_stale (g.T.Texts.net s.texts) s.memos.entries s.claims.entries c.remove.new.self.entries
    s.waiting s.taken r j.0 c.in-Late.stamp j.1 j.2 c.remove.ensures.entries s.whole
