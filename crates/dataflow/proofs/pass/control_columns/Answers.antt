use Rattle.std.proofs.Common.{ℕ, ap, set, ◌≡◌, sym, ◌∙◌, arith, rules}
use Rattle.thread_runs.specs.Runs.{executed}
use Rattle.taints.specs.Taints.{HasRegistersInFile}
use Rattle.taints.specs.Chains.{event_index}
use Rattle.taints.proofs.ReachLoop.{instruction_at, below_128}
use Rattle.dataflow.proofs.ControlLoop.{controlled_first, controlled_event, controlled_other, controlled_as}
use Rattle.dataflow.proofs.pass.control_columns.Goals as goal
use Rattle.dataflow.proofs.pass.control_columns.Goals.{then-is_event, else-is_event}

pub loop-step-init : goal.loop-step-init
loop-step-init c =
    controlled_first c.args.synchronised (executed c.args.steps.now) c.args.control.now _
    c.requires.clean (search rules)

pub bounds-columns-index : goal.bounds-columns-index
bounds-columns-index c =
    let lt = below_128 c.args.steps.now c.loop-step.step-index _ (instruction_at c.args.steps.now c.loop-step.step-index _ c.loop-step-test.true) (sym c.is_event.ensures ∙ c.if-is_event.true) c.loop-step-test.true c.requires.few in
    let here : c.loop-step.index ≡ event_index (executed c.args.steps.now) c.loop-step.step-index = c.loop-step.invariant.here in
    omega (arith, lt, here)

pub note-requires : goal.note-requires
note-requires c =
    let lt = below_128 c.args.steps.now c.loop-step.step-index _ (instruction_at c.args.steps.now c.loop-step.step-index _ c.loop-step-test.true) (sym c.is_event.ensures ∙ c.if-is_event.true) c.loop-step-test.true c.requires.few in
    let here : c.loop-step.index ≡ event_index (executed c.args.steps.now) c.loop-step.step-index = c.loop-step.invariant.here in
    λ load. omega (arith, lt, here)

pub overflow_add-index : goal.overflow_add-index
overflow_add-index c =
    let lt = below_128 c.args.steps.now c.loop-step.step-index _ (instruction_at c.args.steps.now c.loop-step.step-index _ c.loop-step-test.true) (sym c.is_event.ensures ∙ c.if-is_event.true) c.loop-step-test.true c.requires.few in
    let here : c.loop-step.index ≡ event_index (executed c.args.steps.now) c.loop-step.step-index = c.loop-step.invariant.here in
    omega (arith, lt, here)

pub loop-step-preserved : goal.loop-step-preserved
loop-step-preserved c =
    let same = instruction_at c.args.steps.now c.loop-step.step-index _ c.loop-step-test.true in
    let inside : HasRegistersInFile _ = record { operands = c.registers_fit.ensures.operands; addresses = c.registers_fit.ensures.addresses; stored = c.registers_fit.ensures.stored } in
    elim c.if-is_event.branch [
      | then-is_event w ↦
          let event = sym c.is_event.ensures ∙ w.if-is_event.true in
          controlled_as _ _ _ _ _ _ _ _ _ (w.control-is ∙ w.note.ensures)
          (w.columns-is
          ∙ ap (λ (v : ℕ). set c.loop-step.columns c.loop-step.index v) w.word.ensures)
          w.index-is
          (controlled_event c.args.synchronised (executed c.args.steps.now) c.loop-step.step-index
          c.loop-step.control c.loop-step.columns c.loop-step.index _ same event
          (below_128 c.args.steps.now c.loop-step.step-index _ same event c.loop-step-test.true
          c.requires.few) inside c.loop-step.invariant)
      | else-is_event w ↦
          controlled_as _ _ _ _ _ _ _ _ _ (w.control-is ∙ w.note-else-is_event.ensures) w.columns-is
          w.index-is
          (controlled_other c.args.synchronised (executed c.args.steps.now) c.loop-step.step-index
          c.loop-step.control c.loop-step.columns c.loop-step.index _ same
          (sym c.is_event.ensures ∙ w.if-is_event.false) inside c.loop-step.invariant)
    ]
