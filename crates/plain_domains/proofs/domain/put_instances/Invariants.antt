use Rattle.std.proofs.Common.{map, take}
use Rattle.meaning_plain.specs.Lists.{Given}
use Rattle.plain_runs.specs.Runs.{instance_as}
use Rattle.plain_domains.specs.Domains.{Adds, IsStoredBy}
use Rattle.plain_domains.proofs.domain.put_instances.Given as goal

abbrev pub invariant-loop-instance : goal.invariant-loop-instance
invariant-loop-instance l =
    Adds (Given IsStoredBy (take l.instance-index (map instance_as l.instances)))
    l.initial.values.items l.values.items
