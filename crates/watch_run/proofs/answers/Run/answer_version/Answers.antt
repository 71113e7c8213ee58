use Rattle.watch_run.proofs.Gaining.{text_answered, unread_answered}
use Rattle.watch_run.proofs.answers.Run.answer_version.Goals as goal

pub returns-in-Text-clause-answer : goal.returns-in-Text-clause-answer
returns-in-Text-clause-answer g c =
    text_answered _ _ _ _ c.args.version c.in-Text.version c.in-Text.is c.answer_text.result
    c.answer_text.ensures.answer

pub returns-in_ok-memory-in-Unread-clause-answer : goal.returns-in_ok-memory-in-Unread-clause-answer
returns-in_ok-memory-in-Unread-clause-answer g c =
    let said = rw c.in_ok-memory-in-Unread.ensures.value at c.put_said.ensures in
    unread_answered _ _ _ _ c.args.version c.in-Unread.is (rw c.new-text.ensures.items at said)
