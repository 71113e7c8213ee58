use Rattle.std.proofs.Common.{◌≡◌, ◌⊎◌, Contains, take}
use Rattle.predefined_names.specs.declared.predefined.Predefined.{Predefined}
use Rattle.cat_eval.specs.Needs.{AreSuited, is_changing_name}
use Rattle.cat_eval.specs.Tables.{HasName}
use Rattle.cat_eval.proofs.table.Table.missing.Given as goal

abbrev pub invariant-loop-name : goal.invariant-loop-name
invariant-loop-name l =
    AreSuited l.missing.names.items l.missing.reads l.missing.orders
    × ((name : Predefined) → Contains (take l.name-index l.names) name
    → is_changing_name name ≡ l.is_changing
    → HasName l.self.blocks.items name ⊎ Contains l.missing.names.items name)
