use Rattle.std.proofs.Common.{◌≡◌, ◌∙◌, ◌==◌, if◌then◌else◌, arith}
use Rattle.tests_layers.proofs.RowLists.{row_set, kept_stamp, new_stamp}
use Rattle.tests_layers.proofs.benches.rows.put.Goals as goal
use Rattle.tests_layers.proofs.benches.rows.put.Goals.{then-value-row, else-value-row}

pub returns-then-name-row : goal.returns-then-name-row
returns-then-name-row c =
    let row = c.index-row.result.now in
    let stamp : c.if-value-row.stamp ≡ (if c.args.value == row.value then row.stamp else c.args.number) = elim c.if-value-row.branch [
      | then-value-row w ↦ w.stamp-is
          ∙ kept_stamp c.args.value row c.args.number w.if-value-row.true
      | else-value-row w ↦ w.stamp-is
          ∙ new_stamp c.args.value row c.args.number w.if-value-row.false
    ] in
    row_set c.args.name c.args.value c.args.number c.loop-i.rows.items c.loop-i.i row
    c.if-value-row.stamp (omega (arith, c.loop-i.rows.ok.0)) c.index-row.ensures
    c.if-name-row.true stamp
    ∙ c.loop-i.invariant.rest
