use Rattle.std.proofs.Common.{◌∙◌, reverse, sym}
use Rattle.predefined_names.specs.declared.predefined.Predefined.TheVariants as names
use Rattle.binding_graph.specs.declared.resolved.Source.TheVariants as sources
use Rattle.binding_graph.specs.declared.resolved.Step.TheVariants as steps
use Rattle.order_growth.proofs.Stepping.{one_step, at_end}
use Rattle.order_growth.proofs.growth.code_growth.Goals as goal

pub loop-step-preserved : goal.loop-step-preserved
loop-step-preserved c =
    let l = c.loop-step in
    rw c.in_ok-apply.ensures (sym (one_step c.args.inputs.now c.args.steps.now l.step-index
    (steps.PushSet (sources.Predefined names.Loads)) (reverse l.stack.items) c.loop-step-test.true)
    ∙ l.invariant)

pub returns : goal.returns
returns c = λ e code.
    c.take_top.ensures.top
    ∙ at_end c.args.inputs.now c.args.steps.now c.loop-step.step-index (reverse c.loop-step.stack.items) e
    c.loop-step-test.false c.loop-step.invariant code
