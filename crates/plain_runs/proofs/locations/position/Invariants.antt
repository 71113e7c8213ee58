use Rattle.std.proofs.Common.{◌≡◌, ◌++◌, take, drop, bytes_eq}
use Rattle.meaning.specs.Names.{is_name_before, with_one}
use Rattle.plain_runs.specs.Locations.{names_as}
use Rattle.plain_runs.proofs.locations.position.Given as goal

abbrev pub invariant-loop-index : goal.invariant-loop-index
invariant-loop-index l =
    with_one bytes_eq is_name_before l.name (names_as l.names)
    ≡ take l.index (names_as l.names) ++ with_one bytes_eq is_name_before l.name (drop l.index (names_as l.names))
