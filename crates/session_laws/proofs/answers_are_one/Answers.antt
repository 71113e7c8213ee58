use Rattle.session_laws.proofs.TextAnswers.{one_answer, one_evaluation}
use Rattle.session_laws.proofs.answers_are_one.Goals as goal

pub returns : goal.returns
returns c = record { answer = one_answer; evaluation = one_evaluation }
