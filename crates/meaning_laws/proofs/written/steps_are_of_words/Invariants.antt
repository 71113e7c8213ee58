use Rattle.std.proofs.Common.{All, take}
use Rattle.meaning_laws.specs.Words.{IsStepOfWords}
use Rattle.meaning_laws.proofs.written.steps_are_of_words.Given as goal

abbrev pub invariant-loop-step : goal.invariant-loop-step
invariant-loop-step l = All IsStepOfWords (take l.step-index l.steps)
