use Rattle.std.proofs.Common.{ℕ, ◌≡◌, length, arith, subst}
use Rattle.text_values.specs.ModelValues.{clauses_of}
use Rattle.draw_relations.specs.Values.{AreValuesBefore, NoName}
use Rattle.draw_relations.proofs.Coding.{shown_step, sized_step}
use Rattle.draw_relations.proofs.values.found_values.Goals as goal

pub loop-index-init : goal.loop-index-init
loop-index-init c =
    record {
      shown = rw c.new-values.ensures.items NoName;
      sized = rw c.new-values.ensures.items (λ k d lt. absurd (omega (arith, lt)));
    }

pub loop-index-preserved : goal.loop-index-preserved
loop-index-preserved c =
    let space = c.args.space.now in
    let clauses = clauses_of c.args.items.now in
    let names = c.args.names.now in
    let i : ℕ = c.loop-index.index in
    let x = c.index-names-index.result in
    let found = c.in_ok-found.found in
    let old = c.loop-index.values.items in
    let new = c.push_found.new.values.items in
    record {
      shown =
          shown_step space clauses names i x old new found (omega arith) c.index-names-index.is
          c.in_ok-found.ensures c.in_ok-push_found.ensures c.loop-index.invariant.shown;
      sized =
          sized_step space clauses x old new found c.in_ok-found.ensures c.in_ok-push_found.ensures
          c.loop-index.invariant.sized;
    }

pub returns : goal.returns
returns c =
    let space = c.args.space.now in
    let clauses = clauses_of c.args.items.now in
    let names = c.args.names.now in
    let full : c.loop-index.index ≡ length names = omega (arith, c.loop-index-test.false, c.loop-index.auto.index-end) in
    record {
      all =
          subst (λ (k : ℕ). AreValuesBefore space clauses names k c.loop-index.values.items) full
          c.loop-index.invariant.shown;
      sized = c.loop-index.invariant.sized;
    }
