use Rattle.std.proofs.Common.{List, arith, ap, subst, ◌∙◌}
use Rattle.std.proofs.lemmas.List.{take_all}
use Rattle.thread_runs.specs.declared.value.Value.{Value}
use Rattle.thread_runs.specs.LocationValues.{AreLeft, MayHold}
use Rattle.thread_runs.proofs.Holding.{none_yet, next_stays, next_goes}
use Rattle.thread_runs.proofs.location_values.values_at.Goals as goal
use Rattle.thread_runs.proofs.location_values.values_at.Goals.{then-may_be_held+in_ok-push, else-may_be_held}

pub loop-value-init : goal.loop-value-init
loop-value-init c =
    none_yet (λ u. MayHold c.args.program.now c.args.location u → ⊥) c.args.values.now
    c.in_ok-found.found.items c.in_ok-found.found.items 0 c.in_ok-found.ensures.items

pub loop-value-preserved : goal.loop-value-preserved
loop-value-preserved c = elim c.if-may_be_held.branch [
  | then-may_be_held+in_ok-push w ↦
      next_stays (λ u. MayHold c.args.program.now c.args.location u → ⊥) c.args.values.now
      c.loop-value.found.items c.if-may_be_held.found.items c.loop-value.value-index _
      c.loop-value-test.true c.loop-value.invariant
      (ap (λ v. v.items) w.found-is ∙ w.in_ok-push.ensures.items)
  | else-may_be_held w ↦
      next_goes (λ u. MayHold c.args.program.now c.args.location u → ⊥) c.args.values.now
      c.loop-value.found.items c.if-may_be_held.found.items c.loop-value.value-index _
      c.loop-value-test.true c.loop-value.invariant
      (c.may_be_held.ensures w.if-may_be_held.false) (ap (λ v. v.items) w.found-is)
]

pub returns : goal.returns
returns c =
    subst
    (λ (vs : List Value). AreLeft (λ u. MayHold c.args.program.now c.args.location u → ⊥) vs
    c.loop-value.found.items)
    (take_all c.loop-value.value-index c.args.values.now
    (omega (arith, c.loop-value-test.false)))
    c.loop-value.invariant
