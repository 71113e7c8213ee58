use Rattle.std.proofs.Common.{ℕ, List, Bool}
use Rattle.command_answers.specs.Answer.{IsEvalAnswer}
use Rattle.command_answers.proofs.Answering.{written_so}
use Rattle.command_answers.proofs.stream.write_answer.Goals as goal

pub returns-clause-written : goal.returns-clause-written
returns-clause-written g c =
    written_so
    (λ (text : List ℕ) (refused : Bool). IsEvalAnswer c.args.model.now c.args.test.now text refused)
    c.answer_to.result _ _ c.write_made.result c.answer_to.ensures c.write_made.ensures.written
