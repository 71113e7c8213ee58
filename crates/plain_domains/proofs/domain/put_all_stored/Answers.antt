use Rattle.std.proofs.Common.{List, map, subst}
use Rattle.meaning_plain.specs.Lists.{Given}
use Rattle.plain_runs.specs.declared.run.Instance.{Instance}
use Rattle.plain_runs.specs.Runs.{instance_as}
use Rattle.plain_domains.specs.Domains.{Adds, IsStoredBy}
use Rattle.plain_domains.proofs.domain.put_all_stored.Goals as goal

pub returns : goal.returns
returns c =
    subst (λ (l : List Instance). Adds (Given IsStoredBy (map instance_as l)) c.args.values.now.items c.put_instances.new.values.items)
    c.deref.ensures.value c.in_ok-put_instances.ensures
