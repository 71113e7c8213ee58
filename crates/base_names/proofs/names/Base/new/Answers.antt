use Rattle.std.proofs.Common.{◌≡◌}
use Rattle.base_names.specs.Known.{set_names}
use Rattle.base_names.proofs.Every.{all_sets, every_set, every_name}
use Rattle.base_names.proofs.names.Base.new.Goals as goal

pub returns-clause-sets : goal.returns-clause-sets
returns-clause-sets c name holds =
    let held : set_names c.in_ok-base.base.sets ≡ all_sets = c.in_ok-base.ensures.sets in
    rw (c.enter.ensures.sets, held) (every_set name holds)

pub returns-clause-relations : goal.returns-clause-relations
returns-clause-relations c name relation =
    rw c.enter.ensures.shared (c.in_ok-base.ensures.relations name (every_name name) relation)
