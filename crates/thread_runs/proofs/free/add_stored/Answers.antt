use Rattle.std.proofs.Common.{ℕ, ◌≡◌, List, get_or, arith, ap, ◌∙◌}
use Rattle.thread_runs.proofs.FreeStores.{under_way, no_way, no_store, way_on, way_ends}
use Rattle.thread_runs.proofs.free.add_stored.Goals as goal

pub returns-then-end-eq0-clause-added : goal.returns-then-end-eq0-clause-added
returns-then-end-eq0-clause-added c =
    no_store c.args.lines.now c.args.first c.args.values.now _ (λ k d le lt.
    c.stores_end-end.ensures.none k d (omega (arith, c.if-end-eq0.true)) lt)

pub returns-then-count_at-eq0-clause-added : goal.returns-then-count_at-eq0-clause-added
returns-then-count_at-eq0-clause-added c =
    let here : c.count_at.result ≡ get_or c.in_ok-counts.counts.items 0 0 = c.count_at.ensures ∙ ap (λ (ns : List ℕ). get_or ns 0 0) c.deref.ensures.value in
    let counted = c.in_ok-counts.ensures 0 (omega arith) (omega arith) in
    no_way c.args.lines.now c.args.first c.args.values.now _ (omega (arith, here, counted))

pub loop-index-init : goal.loop-index-init
loop-index-init c =
    let here : c.count_at.result ≡ get_or c.in_ok-counts.counts.items 0 0 = c.count_at.ensures ∙ ap (λ (ns : List ℕ). get_or ns 0 0) c.deref.ensures.value in
    let counted = c.in_ok-counts.ensures 0 (omega arith) (omega arith) in
    record {
      rising = c.requires;
      way =
          rw (c.in_ok-push.ensures.items, c.new-walks.ensures.items) (under_way c.args.lines.now
          c.args.first c.args.values.now _ (omega (arith, here, counted)));
    }

pub loop-index-preserved : goal.loop-index-preserved
loop-index-preserved c = record {
  rising = c.note_all.ensures.set;
  way =
      way_on c.args.lines.now c.args.first c.args.values.now c.loop-index.index _ _ _ _ _ _ _ _
      (omega (arith, c.loop-index-test.true, c.stores_end-end.ensures.within))
      c.goes_by-on.ensures c.goes_by-there.ensures c.loop-index.invariant.way
      (rw c.deref-in-loop-index.ensures.value at c.in_ok-note_all.ensures.added)
      c.in_ok-walks.ensures;
}

pub returns-clause-added : goal.returns-clause-added
returns-clause-added c =
    way_ends c.args.lines.now c.args.first c.args.values.now c.loop-index.index _ _ _
    (λ k d le lt. c.stores_end-end.ensures.none k d (omega (arith, le, c.loop-index-test.false)) lt)
    c.loop-index.invariant.way
