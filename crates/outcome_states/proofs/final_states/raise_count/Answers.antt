use Rattle.std.proofs.Common.{sym}
use Rattle.outcome_states.proofs.Tallies.{no_count, grown}
use Rattle.outcome_states.proofs.final_states.raise_count.Goals as goal

pub returns-in-Some-clause-raised : goal.returns-in-Some-clause-raised
returns-in-Some-clause-raised c = λ yes.
    grown c.args.counts.now.entries (c.get_mut.follows.lender c.saturating_add.result).entries
    c.args.state.now c.in-Some.count.now c.args.found c.saturating_add.result
    (sym c.in-Some.ensures.value) c.saturating_add.ensures
    ((c.get_mut.follows.holds c.saturating_add.result).0)

pub returns-in-None-clause-none : goal.returns-in-None-clause-none
returns-in-None-clause-none c =
    λ no. (
      c.get_mut.follows.holds-at-none,
      no_count c.args.counts.now.entries c.args.state.now (sym c.in-None.ensures.value),
    )
