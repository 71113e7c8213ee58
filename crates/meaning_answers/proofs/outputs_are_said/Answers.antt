use Rattle.meaning_answers.proofs.Sessions.{outputs_said}
use Rattle.meaning_answers.proofs.outputs_are_said.Goals as goal

pub returns : goal.returns
returns c = λ cs text refused t output.
    outputs_said
    (record { meant = c.tests_of_words_are_meant.ensures; printed = c.states_are_printed.ensures })
    cs text refused t output
