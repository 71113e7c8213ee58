use Rattle.std.proofs.Common.{◌≡◌, map}
use Rattle.path_lists.specs.Lists.{listed_by}
use Rattle.path_lists.specs.Files.{wanted_by, listed_files}
use Rattle.path_lists.proofs.file.files_of.Given as goal

abbrev pub invariant-loop-entry : goal.invariant-loop-entry
invariant-loop-entry l =
    map wanted_by l.files.items ≡ listed_files l.list (map listed_by l.yielded)
