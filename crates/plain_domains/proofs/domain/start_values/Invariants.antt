use Rattle.std.proofs.Common.{take, []}
use Rattle.text_values.specs.TestValue.{content_of}
use Rattle.meaning_plain.specs.Lists.{Given}
use Rattle.plain_runs.specs.Locations.{names_as}
use Rattle.plain_domains.specs.Domains.{Adds, IsStartOf}
use Rattle.plain_domains.proofs.domain.start_values.Given as goal

abbrev pub invariant-loop-location : goal.invariant-loop-location
invariant-loop-location l =
    Adds (Given (IsStartOf (content_of l.test)) (take l.location-index (names_as l.locations))) []
    l.values.items
