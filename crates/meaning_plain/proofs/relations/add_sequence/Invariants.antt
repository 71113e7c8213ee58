use Rattle.std.proofs.Common.{take}
use Rattle.meaning_plain.specs.Lists.{Grows, Given, JoinsSteps}
use Rattle.meaning_plain.proofs.relations.add_sequence.Given as goal

abbrev pub invariant-loop-pair : goal.invariant-loop-pair
invariant-loop-pair l =
    Grows (Given (JoinsSteps l.second) (take l.pair-index l.first)) l.initial.pairs.items l.pairs.items
