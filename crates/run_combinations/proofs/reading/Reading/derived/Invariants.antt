use Rattle.std.proofs.Common.{◌≡◌, ◌-◌, ◌^◌, min}
use Rattle.run_combinations.specs.Rounds.{IsArisingRound, AllArise}
use Rattle.run_combinations.proofs.reading.Reading.derived.Given as goal

abbrev pub invariant-loop-derived : goal.invariant-loop-derived
invariant-loop-derived l = record {
  count : l.derived.count ≡ min l.self.count 128;
  round : IsArisingRound l.self l.reads_from l.without l.derived l.next;
  arise : AllArise l.self l.reads_from l.without l.derived;
}

abbrev pub decreases-loop-derived : goal.decreases-loop-derived
decreases-loop-derived l = 2 ^ 128 - l.derived.word
