use Rattle.std.proofs.Common.{[], arith}
use Rattle.std.proofs.lemmas.List.{drop_all}
use Rattle.predefined_names.specs.declared.predefined.Predefined.TheVariants as names
use Rattle.binding_graph.specs.declared.resolved.Source.TheVariants as sources
use Rattle.binding_graph.specs.declared.resolved.Step.TheVariants as steps
use Rattle.cat_machine.proofs.Steps.{split}
use Rattle.cat_machine.proofs.machine.Machine.run.Goals as goal

pub loop-step-init : goal.loop-step-init
loop-step-init c =
    λ s_end r_end whole. ([], [], whole, rw c.clear.ensures.items tt, rw c.clear-2.ensures tt)

pub loop-step-preserved : goal.loop-step-preserved
loop-step-preserved c = λ s_end r_end whole.
    let (ss, es, l, s, r) = c.loop-step.invariant s_end r_end whole in
    let led = rw (split (steps.PushSet (sources.Predefined names.Loads)) c.args.steps.now c.loop-step.step-index (omega arith)) at l in
    let h = c.in_ok-take.ensures ss es led.0 s r in
    (_, _, led.1, h.0, h.1)

pub returns : goal.returns
returns c = λ s_end r_end whole.
    let (ss, es, l, s, r) = c.loop-step.invariant s_end r_end whole in
    let e = rw (drop_all c.loop-step.step-index c.args.steps.now c.loop-step-test.false) at l in
    (rw (← e.0) s, rw (← e.1) r)
