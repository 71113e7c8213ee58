use Rattle.std.proofs.Common.{take}
use Rattle.meaning_plain.specs.Lists.{Grows, Given, JoinsThrough}
use Rattle.meaning_plain.proofs.relations.add_all_through.Given as goal

abbrev pub invariant-loop-pair : goal.invariant-loop-pair
invariant-loop-pair l =
    Grows (Given (JoinsThrough l.k l.steps) (take l.pair-index l.steps)) l.initial.pairs.items l.pairs.items
