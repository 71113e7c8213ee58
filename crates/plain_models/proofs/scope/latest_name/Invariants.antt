use Rattle.std.proofs.Common.{◌≡◌, take}
use Rattle.plain_models.specs.Scopes.{latest_index}
use Rattle.plain_models.proofs.scope.latest_name.Given as goal

abbrev pub invariant-loop-index : goal.invariant-loop-index
invariant-loop-index l = l.found ≡ latest_index l.name (take l.index l.names)
