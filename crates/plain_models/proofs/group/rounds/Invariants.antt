use Rattle.std.proofs.Common.{[]}
use Rattle.meaning_plain.specs.Lists.{SetOf}
use Rattle.plain_models.specs.Scopes.{with_named}
use Rattle.plain_models.proofs.Rounds.{AreRounds}
use Rattle.plain_models.proofs.Solving.{room}
use Rattle.plain_models.proofs.group.rounds.Given as goal

abbrev pub invariant-rounds : goal.invariant-rounds
invariant-rounds l =
    AreRounds (SetOf l.scope.all.now)
    (with_named (SetOf l.scope.all.now) l.scope.items.now l.scope.outer.now []) l.group
    l.values.items

abbrev pub decreases-rounds : goal.decreases-rounds
decreases-rounds l = room l.values.items
