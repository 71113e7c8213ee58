use Rattle.std.proofs.Common.{List, ap, subst, ◌∙◌}
use Rattle.meaning.specs.Machine as machine
use Rattle.plain_machine.specs.declared.value.Value.{Value}
use Rattle.plain_ends.specs.Ends.{values_as}
use Rattle.plain_executions.proofs.Pairing.{zipped_more}
use Rattle.plain_outcomes.specs.States.{final_state_as, IsCountedOf}
use Rattle.plain_outcomes.proofs.states.counted_states.Goals as goal

pub loop-values-preserved : goal.loop-values-preserved
loop-values-preserved c =
    zipped_more (IsCountedOf c.args.ends.now) final_state_as c.args.states.now c.loop-values.values-index
    c.values-item.result c.loop-values.all.items c.push.new.self.items c.in_ok-one.one
    c.loop-values-test.true c.loop-values.invariant
    (subst (λ (s : List machine.Value). IsCountedOf c.args.ends.now s c.in_ok-one.one)
    (ap (λ (vs : List Value). values_as vs) c.deref.ensures.value ∙ ap final_state_as c.values-item.is)
    c.in_ok-one.ensures)
    c.in_ok-push.ensures.items
