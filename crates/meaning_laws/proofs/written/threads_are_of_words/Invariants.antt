use Rattle.std.proofs.Common.{All, take}
use Rattle.meaning_laws.specs.Words.{IsStepOfWords}
use Rattle.meaning_laws.proofs.written.threads_are_of_words.Given as goal

abbrev pub invariant-loop-thread : goal.invariant-loop-thread
invariant-loop-thread l = All (λ t. All IsStepOfWords t.steps.items) (take l.thread-index l.threads)
