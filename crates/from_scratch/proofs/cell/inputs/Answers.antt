use Rattle.std.proofs.Common.{ap, ◌∙◌, arith}
use Rattle.from_scratch.proofs.Knowing.{found_some, found_none}
use Rattle.from_scratch.proofs.cell.inputs.Goals as goal
use Rattle.from_scratch.proofs.cell.inputs.Goals.{in-Some+in_ok-push, in_default}

pub loop-input-preserved : goal.loop-input-preserved
loop-input-preserved c =
    let columns = c.args.columns.now in
    let names = c.args.item.now.inputs.items in
    let used_names = c.deref-input-items.result.now in
    elim c.match-column_of.branch [
      | in-Some+in_ok-push w ↦ found_some columns names used_names c.loop-input.input-index _
          c.loop-input.found.items c.match-column_of.found.items w.in-Some.column
          c.deref-input-items.ensures.value (omega arith) c.loop-input.invariant w.in-Some.ensures
          (ap (λ v. v.items) w.found-is ∙ w.in_ok-push.ensures.items)
      | in_default w ↦ found_none columns names used_names c.loop-input.input-index _
          c.loop-input.found.items c.match-column_of.found.items c.deref-input-items.ensures.value
          (omega arith) c.loop-input.invariant w.in_default.ensures (ap (λ v. v.items) w.found-is)
    ]
