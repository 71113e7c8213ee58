use Rattle.std.proofs.Common.{map}
use Rattle.text_values.specs.TestValue.{content_of}
use Rattle.meaning.specs.Sets.{IsListOf}
use Rattle.meaning.specs.Domain.{InRound}
use Rattle.plain_machine.specs.Values.{value_as}
use Rattle.plain_domains.proofs.Rounds.{SoundBelow}
use Rattle.plain_domains.proofs.domain.rounds.Given as goal

abbrev pub invariant-loop-round : goal.invariant-loop-round
invariant-loop-round l = record {
  listed : IsListOf (InRound (content_of l.test) l.round) (map value_as l.values.items);
  sound : SoundBelow (content_of l.test) l.round;
}
