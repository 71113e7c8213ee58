use Rattle.std.proofs.Common.{◌≡◌, map, drop}
use Rattle.path_lists.specs.Lists.{listed_by}
use Rattle.path_lists.specs.Files.{first_list}
use Rattle.path_lists.proofs.file.first_list.Given as goal

abbrev pub invariant-loop-entry : goal.invariant-loop-entry
invariant-loop-entry l =
    first_list (map listed_by l.entries)
    ≡ first_list (map listed_by (drop l.entry-index l.entries))
