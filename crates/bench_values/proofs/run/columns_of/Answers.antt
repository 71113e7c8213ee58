use Rattle.std.proofs.Common.{ap, ◌∙◌}
use Rattle.bench_values.specs.Values.{column_in}
use Rattle.bench_values.proofs.Finding.{found_some, found_none}
use Rattle.bench_values.proofs.run.columns_of.Goals as goal
use Rattle.bench_values.proofs.run.columns_of.Goals.{in-Some+in_ok-push, in_default}

pub loop-value-preserved : goal.loop-value-preserved
loop-value-preserved c =
    let i = c.loop-value.value-index in
    let found = c.loop-value.columns.items in
    let new = c.match-column.columns.items in
    elim c.match-column.branch [
      | in-Some+in_ok-push w ↦ found_some column_in c.args.values.now i c.value-item.result found
          new w.in-Some.column c.loop-value-test.true c.value-item.is c.loop-value.invariant
          w.in-Some.ensures (ap (λ v. v.items) w.columns-is ∙ w.in_ok-push.ensures.items)
      | in_default w ↦ found_none column_in c.args.values.now i c.value-item.result found new
          c.loop-value-test.true c.value-item.is c.loop-value.invariant w.in_default.ensures
          (ap (λ v. v.items) w.columns-is)
    ]
