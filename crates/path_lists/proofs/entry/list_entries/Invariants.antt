use Rattle.std.proofs.Common.{◌≡◌, length, map}
use Rattle.path_lists.specs.Lists.{listed_by, paths_from}
use Rattle.path_lists.proofs.entry.list_entries.Given as goal

abbrev pub invariant-loop-text : goal.invariant-loop-text
invariant-loop-text l =
    (map listed_by l.entries.items ≡ paths_from l.list 1 (map (λ t. t.now) l.yielded))
    × (l.line ≡ length l.yielded)
