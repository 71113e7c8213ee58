use Rattle.std.proofs.Common.{map, arith, ◌∙◌}
use Rattle.std.proofs.lemmas.Result.{on_ok_weaker}
use Rattle.outcome_states.specs.Ends.{candidate_final_value}
use Rattle.outcome_states.proofs.Tallies.{some_found, none_counted}
use Rattle.outcome_states.proofs.final_states.count_order.Goals as goal

pub returns-then-found-eq0 : goal.returns-then-found-eq0
returns-then-found-eq0 c =
    none_counted c.args.tally.now.counts.entries
    (map (candidate_final_value c.args.space.now c.args.combination.now c.args.coherence.now) c.args.observables.now)
    c.args.found c.if-found-eq0.true

pub returns : goal.returns
returns c =
    on_ok_weaker c.add_count.result
    (λ h. some_found c.args.tally.now.counts.entries c.add_count.new.counts.entries
    c.deref.result.now
    (map (candidate_final_value c.args.space.now c.args.combination.now c.args.coherence.now)
    c.args.observables.now) c.args.found
    (c.deref.ensures.value ∙ c.in_ok-write_state.ensures)
    (omega (arith, c.if-found-eq0.false)) h)
    c.add_count.ensures
