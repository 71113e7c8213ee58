use Rattle.std.proofs.Common.{◌≡◌, take}
use Rattle.command_line.specs.Words.{borrowed_words, words_of, words_given}
use Rattle.command_line.proofs.words.words_given.Given as goal

-- what the words before say
abbrev pub invariant-loop-word : goal.invariant-loop-word
invariant-loop-word l = words_of l.given ≡ words_given (borrowed_words (take l.word-index l.words))
