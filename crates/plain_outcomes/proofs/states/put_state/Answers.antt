use Rattle.std.proofs.Common.{Vec, List, Some, ap, sym, subst, ◌∙◌}
use Rattle.std.specs.declared.alloc.Global.{Global}
use Rattle.std.specs.List.{insert}
use Rattle.meaning.specs.Machine as machine
use Rattle.meaning.specs.Outcome.{IsStateBefore}
use Rattle.meanings_exist.specs.Sorted.{HasOneMore}
use Rattle.plain_machine.specs.declared.value.Value.{Value}
use Rattle.plain_ends.specs.Ends.{values_as}
use Rattle.plain_runs.proofs.Placing.{inserted_as}
use Rattle.plain_outcomes.specs.States.{final_state_as, states_as, IsPlaceOf}
use Rattle.plain_outcomes.proofs.Ordering.{one_more}
use Rattle.plain_outcomes.proofs.states.put_state.Goals as goal

pub returns-in_ok-insert-in-Some : goal.returns-in_ok-insert-in-Some
returns-in_ok-insert-in-Some c =
    let s = values_as c.args.values.now in
    let old = states_as c.args.states.now.items in
    subst (λ (ss : List (List machine.Value)). HasOneMore IsStateBefore s old ss)
    (sym (ap states_as c.in_ok-insert-in-Some.ensures.items ∙ inserted_as final_state_as c.args.states.now.items c.in-Some.index c.in_ok-copy-in-Some.copy ∙ ap (λ (vs : List Value). insert old c.in-Some.index (values_as vs)) c.in_ok-copy-in-Some.ensures.items))
    (one_more s old c.in-Some.index c.requires.rises c.requires.good
    (subst (λ (vs : List (Vec Value Global)). IsPlaceOf s (states_as vs) (Some c.in-Some.index)) c.deref.ensures.value c.in-Some.ensures.position))
