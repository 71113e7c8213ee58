use Rattle.std.proofs.Common.{ℕ, List, Bool}
use Rattle.command_answers.specs.Whys.{IsWhyAnswer}
use Rattle.command_answers.proofs.Answering.{written_so}
use Rattle.command_answers.proofs.stream.write_why.Goals as goal

pub returns-clause-written : goal.returns-clause-written
returns-clause-written g c =
    written_so
    (λ (text : List ℕ) (refused : Bool).
    IsWhyAnswer c.args.asked c.args.model.now c.args.test.now text refused)
    c.why_answer.result _ _ c.write_made.result c.why_answer.ensures
    c.write_made.ensures.written
