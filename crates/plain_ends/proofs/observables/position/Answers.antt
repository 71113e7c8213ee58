use denote.Ref.{Bor}
use Rattle.std.proofs.Common.{◌≡◌, ℕ, List, Bool, true, false, get_or, arith, sym, subst, ◌∙◌}
use Rattle.text_values.specs.declared.test.Place.{Place}
use Rattle.meaning.specs.Names.{is_same_observable}
use Rattle.meaning.specs.Outcome.{is_observable_before}
use Rattle.plain_runs.proofs.Placing.{placed_same, placed_before, placed_more, placed_last}
use Rattle.plain_ends.proofs.observables.position.Goals as goal

abbrev place_at : Bor Place → Place
place_at p = p.now

at : (x : Place) (ps : List (Bor Place)) (k : ℕ) (b : Bool) (p : Bor Place) (R : Place → Place → Bool)
    → p ≡ get_or ps k p → R x p.now ≡ b → R x (place_at (get_or ps k p)) ≡ b
at x ps k b p R is e = subst (λ (q : Bor Place). R x q.now ≡ b) is e

pub returns-then-is_same : goal.returns-then-is_same
returns-then-is_same c = record {
  bound = tt;
  position = placed_same is_same_observable is_observable_before place_at c.args.observable.now
      c.args.observables.now c.loop-index.index c.index-observables-index.result c.loop-index-test.true c.loop-index.invariant
      (at c.args.observable.now c.args.observables.now c.loop-index.index true c.index-observables-index.result (λ p q. is_same_observable p q) c.index-observables-index.is (sym c.is_same.ensures ∙ c.if-is_same.true));
}

pub returns-then-is_earlier : goal.returns-then-is_earlier
returns-then-is_earlier c = record {
  bound = c.loop-index.auto.index-end;
  position = placed_before is_same_observable is_observable_before place_at c.args.observable.now
      c.args.observables.now c.loop-index.index c.index-observables-index.result c.loop-index-test.true c.loop-index.invariant
      (at c.args.observable.now c.args.observables.now c.loop-index.index false c.index-observables-index.result (λ p q. is_same_observable p q) c.index-observables-index.is (sym c.is_same.ensures ∙ c.if-is_same.false))
      (at c.args.observable.now c.args.observables.now c.loop-index.index true c.index-observables-index.result (λ p q. is_observable_before p q) c.index-observables-index.is (sym c.is_earlier.ensures ∙ c.if-is_earlier.true));
}

pub returns : goal.returns
returns c = record {
  bound = omega arith;
  position = placed_last is_same_observable is_observable_before place_at c.args.observable.now
      c.args.observables.now c.loop-index.index c.loop-index-test.false c.loop-index.invariant;
}

pub loop-index-preserved : goal.loop-index-preserved
loop-index-preserved c =
    placed_more is_same_observable is_observable_before place_at c.args.observable.now
    c.args.observables.now c.loop-index.index c.index-observables-index.result c.loop-index-test.true c.loop-index.invariant
    (at c.args.observable.now c.args.observables.now c.loop-index.index false c.index-observables-index.result (λ p q. is_same_observable p q) c.index-observables-index.is (sym c.is_same.ensures ∙ c.if-is_same.false))
    (at c.args.observable.now c.args.observables.now c.loop-index.index false c.index-observables-index.result (λ p q. is_observable_before p q) c.index-observables-index.is (sym c.is_earlier.ensures ∙ c.if-is_earlier.false))
