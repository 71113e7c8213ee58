use Rattle.std.proofs.Common.{◌≡◌, ◌++◌, take}
use Rattle.std.specs.List.{flat_map}
use Rattle.report_page.specs.Table.{column_head}
use Rattle.report_page.proofs.table.put_column_heads.Given as goal

abbrev pub invariant-loop-model : goal.invariant-loop-model
invariant-loop-model l =
    l.text.items ≡ l.initial.text.items ++ flat_map column_head (take l.model-index l.models)
