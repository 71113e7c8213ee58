use Rattle.meaning_answers.proofs.Saying.{Laws}
use Rattle.meaning_answers.proofs.Files.{tables_said, differences_said}
use Rattle.meaning_answers.proofs.reports_are_said.Goals as goal

pub returns : goal.returns
returns c =
    let laws : Laws = record { meant = c.tests_of_words_are_meant.ensures; printed = c.states_are_printed.ensures } in
    record { table = tables_said laws; difference = differences_said laws }
