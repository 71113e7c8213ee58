use Rattle.meaning_edits.proofs.Histories.{histories_of_words, tests_meant, histories_meant}
use Rattle.meaning_edits.proofs.histories_are_meant.Goals as goal

pub returns : goal.returns
returns c = record {
  words = histories_of_words;
  tests = tests_meant c.tests_of_words_are_meant.ensures;
  boards = histories_meant c.boards_are_meant.ensures;
}
