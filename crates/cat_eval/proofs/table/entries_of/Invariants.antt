use Rattle.std.proofs.Common.{◌≡◌, [], take}
use Rattle.cat_eval.specs.Tables.{AreFilled, entry_names}
use Rattle.cat_eval.proofs.table.entries_of.Given as goal

abbrev pub invariant-loop-name : goal.invariant-loop-name
invariant-loop-name l =
    (entry_names l.entries.items ≡ take l.name-index l.names) × AreFilled l.entries.items []
