use Rattle.std.proofs.Common.{Contains, take}
use Rattle.predefined_names.specs.declared.predefined.Predefined.{Predefined}
use Rattle.cat_eval.specs.Tables.{HasName}
use Rattle.cat_eval.proofs.table.Table.has_all.Given as goal

abbrev pub invariant-loop-name : goal.invariant-loop-name
invariant-loop-name l =
    (name : Predefined) → Contains (take l.name-index l.names) name
    → HasName l.self.blocks.items name
