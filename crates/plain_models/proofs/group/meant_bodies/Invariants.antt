use Rattle.std.proofs.Common.{map, take}
use Rattle.meaning_plain.specs.Lists.{SetOf}
use Rattle.plain_models.specs.Values.{HaveValues}
use Rattle.plain_models.specs.Scopes.{names_in}
use Rattle.plain_models.specs.Groups.{body_of}
use Rattle.plain_models.proofs.group.meant_bodies.Given as goal

abbrev pub invariant-loop-binding : goal.invariant-loop-binding
invariant-loop-binding l =
    HaveValues (SetOf l.scope.all.now)
    (names_in (SetOf l.scope.all.now) l.scope.items.now l.scope.outer.now l.scope.names.now l.scope.values.now)
    (map body_of (take l.binding-index l.group)) l.values.items
