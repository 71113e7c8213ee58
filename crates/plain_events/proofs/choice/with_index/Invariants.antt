use Rattle.meaning.specs.Sets.{IsListOf}
use Rattle.plain_events.specs.Choices.{lists_as, BeginsBelow}
use Rattle.plain_events.proofs.choice.with_index.Given as goal

abbrev pub invariant-loop-index : goal.invariant-loop-index
invariant-loop-index l =
    IsListOf (BeginsBelow l.index (lists_as l.rests)) (lists_as l.all.items)
