use Rattle.std.proofs.Common.{◌∙◌, inl, [], ◌∷◌, Some, None, sym}
use Rattle.std.specs.Ordering.{nat_cmp}
use Rattle.std.specs.BTreeMap.{is_at}
use Rattle.memo_core.specs.Views.{as_memos}
use Rattle.memo_core.specs.Step.{open_claims}
use Rattle.memo_core.proofs.Progress.{fresh_closed}
use Rattle.memo_core.proofs.ClaimLemmas.{closed, losing, numbered_closed}
use Rattle.memo_engine.proofs.WaitingLemmas.{whole_noted, whole_closed}
use Rattle.memo_engine.proofs.graph.Graph.lose.Goals as goal

pub returns-in-Some-clause-step : goal.returns-in-Some-clause-step
returns-in-Some-clause-step g c =
    let s = c.args.self.now in
    losing (g.T.Texts.net s.texts) s.memos.entries s.claims.entries c.remove.new.self.entries
    s.taken c.args.claim (Some c.in-Some.closed) (sym c.in-Some.is ∙ c.remove.ensures.value)
    c.remove.ensures.entries

pub returns-in-None-clause-step : goal.returns-in-None-clause-step
returns-in-None-clause-step g c =
    let s = c.args.self.now in
    losing (g.T.Texts.net s.texts) s.memos.entries s.claims.entries c.remove.new.self.entries
    s.taken c.args.claim None (sym c.in-None.is ∙ c.remove.ensures.value)
    c.remove.ensures.entries

pub returns-in-Some-clause-fresh : goal.returns-in-Some-clause-fresh
returns-in-Some-clause-fresh g c =
    let s = c.args.self.now in
    rw (c.remove.ensures.entries, closed c.args.claim s.claims.entries) (
      fresh_closed
          (as_memos s.memos.entries) c.args.claim (open_claims s.claims.entries)
          c.requires.fresh.0,
      numbered_closed s.taken c.args.claim (open_claims s.claims.entries) c.requires.fresh.1,
    )

pub returns-in-None-clause-fresh : goal.returns-in-None-clause-fresh
returns-in-None-clause-fresh g c =
    let s = c.args.self.now in
    rw (c.remove.ensures.entries, closed c.args.claim s.claims.entries) (
      fresh_closed
          (as_memos s.memos.entries) c.args.claim (open_claims s.claims.entries)
          c.requires.fresh.0,
      numbered_closed s.taken c.args.claim (open_claims s.claims.entries) c.requires.fresh.1,
    )

pub invariant_of-self-clause-whole : goal.invariant_of-self-clause-whole
invariant_of-self-clause-whole g c =
    let s = c.args.self.now in
    let net = g.T.Texts.net s.texts in
    let ks = s.memos.entries in
    let k = c.in-Some.closed in
    let left = c.remove.new.self.entries in
    whole_noted net ks left s.waiting c.note.new.self (k.node ∷ []) [] c.note.ensures
    (whole_closed net ks s.claims.entries left s.waiting (is_at (nat_cmp c.args.claim)) k
    (k.node ∷ []) (sym c.in-Some.is ∙ c.remove.ensures.value) c.remove.ensures.entries
    (λ n used e i. inl e) s.whole)
