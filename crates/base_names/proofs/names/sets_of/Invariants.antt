use Rattle.std.proofs.Common.{◌≡◌, ◌++◌, drop, filter}
use Rattle.predefined_names.specs.PredefinedNames.{is_set}
use Rattle.base_names.specs.Known.{set_names}
use Rattle.base_names.proofs.names.sets_of.Given as goal

abbrev pub invariant-loop-name : goal.invariant-loop-name
invariant-loop-name l =
    set_names l.sets.items ++ filter is_set (drop l.name-index l.names) ≡ filter is_set l.names
