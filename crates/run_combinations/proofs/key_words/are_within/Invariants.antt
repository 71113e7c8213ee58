use Rattle.run_combinations.proofs.Keying.{HasFirst}
use Rattle.run_combinations.proofs.key_words.are_within.Given as goal

abbrev pub invariant-loop-a : goal.invariant-loop-a
invariant-loop-a l = HasFirst l.words l.others l.a
