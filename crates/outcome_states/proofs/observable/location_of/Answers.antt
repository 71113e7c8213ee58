use Rattle.std.proofs.Common.{arith, ◌≡◌, [], false, get_or, sym, below_more}
use Rattle.std.proofs.lemmas.Grind.{common_steps}
use Rattle.outcome_states.specs.Names.{is_name}
use Rattle.outcome_states.proofs.Names.{is_name-Decides}
use Rattle.outcome_states.proofs.Observables.{first_found, none_found}
use Rattle.outcome_states.proofs.observable.location_of.Goals as goal

pub loop-i-preserved : goal.loop-i-preserved
loop-i-preserved c =
    let here : is_name c.args.name.now (get_or c.args.locations.now c.loop-i.i []) ≡ false = grind (arith, common_steps, is_name-Decides) in
    below_more _ _ c.loop-i.invariant here

pub returns-then-is_same : goal.returns-then-is_same
returns-then-is_same c =
    sym (first_found (is_name c.args.name.now) c.args.locations.now c.loop-i.i [] c.loop-i-test.true
    c.loop-i.invariant (grind (arith, common_steps, is_name-Decides)))

pub returns : goal.returns
returns c =
    sym (none_found (is_name c.args.name.now) c.args.locations.now []
    (λ k lt. c.loop-i.invariant k (omega arith)))
