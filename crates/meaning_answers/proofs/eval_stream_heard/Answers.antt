use Rattle.meaning_answers.proofs.Saying.{stream_said}
use Rattle.meaning_answers.proofs.eval_stream_heard.Goals as goal

pub returns-clause-said : goal.returns-clause-said
returns-clause-said g c =
    stream_said
    (record { meant = c.tests_of_words_are_meant.ensures; printed = c.states_are_printed.ensures })
    _ _ _ c.eval_stream_heard.result c.eval_stream_heard.ensures.written
