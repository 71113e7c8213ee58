use Rattle.std.proofs.Common.{All, take}
use Rattle.meaning_laws.specs.Words.{IsWrittenWord}
use Rattle.meaning_laws.proofs.written.entries_are_words.Given as goal

abbrev pub invariant-loop-entry : goal.invariant-loop-entry
invariant-loop-entry l = All (λ e. IsWrittenWord e.value) (take l.entry-index l.entries)
