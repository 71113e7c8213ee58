use Rattle.std.proofs.Common.{◌≡◌, map, take}
use Rattle.plain_models.specs.Scopes.{named_name, latest_index}
use Rattle.plain_models.proofs.scope.latest_named.Given as goal

abbrev pub invariant-loop-index : goal.invariant-loop-index
invariant-loop-index l = l.found ≡ latest_index l.name (map named_name (take l.index l.outer))
