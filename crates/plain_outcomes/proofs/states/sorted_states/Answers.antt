use Rattle.std.proofs.Common.{List, ◌∷◌, ap, sym, subst, ◌∙◌}
use Rattle.meaning.specs.Machine as machine
use Rattle.meaning.specs.Outcome.{IsStateBefore}
use Rattle.meanings_exist.specs.Sorted.{HasOneMore}
use Rattle.plain_machine.specs.declared.value.Value.{Value}
use Rattle.plain_ends.specs.Ends.{values_as}
use Rattle.plain_outcomes.specs.States.{states_as, end_state, AreGood}
use Rattle.plain_outcomes.proofs.Ordering.{sorted_none, sorted_more, good_more, sorted_all}
use Rattle.plain_outcomes.proofs.states.sorted_states.Goals as goal

pub loop-end-init : goal.loop-end-init
loop-end-init c = sorted_none (states_as c.new-states.result.items) (ap states_as c.new-states.ensures.items)

pub put_state-requires-clause-good : goal.put_state-requires-clause-good
put_state-requires-clause-good c =
    let item = c.end-item.result in
    subst (λ (s : List machine.Value). AreGood (s ∷ states_as c.loop-end.states.items))
    (sym (ap (λ (vs : List Value). values_as vs) c.deref.ensures.value ∙ ap end_state c.end-item.is))
    (good_more c.args.ends.now c.loop-end.end-index item c.loop-end-test.true (states_as c.loop-end.states.items) c.requires c.loop-end.invariant)

pub loop-end-preserved : goal.loop-end-preserved
loop-end-preserved c =
    let item = c.end-item.result in
    sorted_more c.args.ends.now c.loop-end.end-index item c.loop-end-test.true
    (states_as c.loop-end.states.items) (states_as c.put_state.new.states.items) c.loop-end.invariant
    (subst (λ (s : List machine.Value). HasOneMore IsStateBefore s (states_as c.loop-end.states.items) (states_as c.put_state.new.states.items))
    (ap (λ (vs : List Value). values_as vs) c.deref.ensures.value ∙ ap end_state c.end-item.is)
    c.in_ok-put_state.ensures)

pub returns : goal.returns
returns c =
    sorted_all c.args.ends.now c.loop-end.end-index (states_as c.loop-end.states.items) c.loop-end-test.false
    c.loop-end.invariant
