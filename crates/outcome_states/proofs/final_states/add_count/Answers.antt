use Rattle.std.proofs.Common.{List, ◌≡◌, sym, subst, arith}
use Rattle.outcome_states.specs.Counting.{tally, Raises}
use Rattle.outcome_states.specs.declared.answer.FinalValue.{FinalValue}
use Rattle.outcome_states.proofs.Tallies.{begun}
use Rattle.outcome_states.proofs.final_states.add_count.Goals as goal

pub returns-in_ok-insert : goal.returns-in_ok-insert
returns-in_ok-insert c =
    let none : (c.raise_count.new.counts ≡ c.args.counts.now) × (tally c.args.counts.now.entries c.args.state.now ≡ 0) = c.raise_count.ensures.none c.if-not-raise_count.true in
    subst
    (λ (s : List FinalValue).
    Raises c.args.counts.now.entries c.insert.new.self.entries s c.args.found)
    c.in_ok-from_slice.ensures.items
    (begun c.args.counts.now.entries c.insert.new.self.entries c.in_ok-from_slice.field-0
    c.args.found
    (subst (λ (s : List FinalValue). tally c.args.counts.now.entries s ≡ 0)
    (sym c.in_ok-from_slice.ensures.items) none.1)
    (omega (arith, c.ranges.found.fits))
    (rw none.0 at c.in_ok-insert.ensures.entries))
