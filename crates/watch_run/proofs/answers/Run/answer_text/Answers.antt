use Rattle.watch_run.proofs.Gaining.{text_accepted, text_refused}
use Rattle.watch_run.proofs.answers.Run.answer_text.Goals as goal

pub returns-then-is_accepted-clause-answer : goal.returns-then-is_accepted-clause-answer
returns-then-is_accepted-clause-answer g c =
    let noted = rw c.in_ok-is_accepted.ensures.value at c.accept.ensures.noted in
    text_accepted _ _ _ _ _ _ _ _ _ c.in_ok-is_accepted.is_accepted c.new-text.ensures.items
    c.if-is_accepted.true noted c.in_ok-put_settled.ensures.settled

pub returns-clause-answer : goal.returns-clause-answer
returns-clause-answer g c =
    let noted = rw c.in_ok-is_accepted.ensures.value at c.accept.ensures.noted in
    text_refused _ _ _ _ _ _ _ c.in_ok-is_accepted.is_accepted c.new-text.ensures.items
    c.if-is_accepted.false noted
