use Rattle.std.proofs.Common.{map, take}
use Rattle.meaning_plain.specs.Lists.{Given}
use Rattle.plain_runs.specs.Frees.{free_run_as}
use Rattle.plain_domains.specs.Domains.{Adds, IsStoredIn}
use Rattle.plain_domains.proofs.domain.put_runs.Given as goal

abbrev pub invariant-loop-free : goal.invariant-loop-free
invariant-loop-free l =
    Adds (Given (λ f. IsStoredIn f.run) (take l.free-index (map free_run_as l.runs)))
    l.initial.values.items l.values.items
