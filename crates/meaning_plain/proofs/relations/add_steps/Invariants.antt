use Rattle.std.proofs.Common.{take}
use Rattle.meaning_plain.specs.Lists.{Grows, Given, Joins}
use Rattle.meaning_plain.proofs.relations.add_steps.Given as goal

abbrev pub invariant-loop-step : goal.invariant-loop-step
invariant-loop-step l =
    Grows (Given (Joins l.from l.through) (take l.step-index l.steps)) l.initial.pairs.items l.pairs.items
