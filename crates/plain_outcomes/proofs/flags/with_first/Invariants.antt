use Rattle.std.proofs.Common.{◌≡◌, ◌∷◌, bytes_eq, not, take}
use Rattle.std.specs.Prelude.{filter}
use Rattle.plain_runs.specs.Locations.{names_as}
use Rattle.plain_outcomes.proofs.flags.with_first.Given as goal

abbrev pub invariant-loop-other : goal.invariant-loop-other
invariant-loop-other l =
    names_as l.names.items
    ≡ l.name ∷ filter (λ m. not (bytes_eq l.name m)) (take l.other-index (names_as l.others))
