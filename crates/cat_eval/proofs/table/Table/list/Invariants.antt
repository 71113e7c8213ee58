use Rattle.std.proofs.Common.{List, Contains, take}
use Rattle.predefined_names.specs.declared.predefined.Predefined.{Predefined}
use Rattle.candidate_spaces.specs.Space.{Candidate}
use Rattle.cat_eval.specs.Tables.{AreBlocks, AreColumnsFor, HasName, column_names}
use Rattle.cat_eval.proofs.table.Table.list.Given as goal

abbrev pub invariant-loop-name : goal.invariant-loop-name
invariant-loop-name l =
    ((candidates : List Candidate) → AreBlocks l.self.blocks.items candidates
    → AreColumnsFor l.named candidates)
    × ((name : Predefined) → Contains (take l.name-index l.names) name
    → HasName l.self.blocks.items name → Contains (column_names l.named) name)
