use Rattle.std.proofs.Common.{ℕ, List, Bool}
use Rattle.command_answers.specs.Pictures.{IsPictureAnswer}
use Rattle.command_answers.proofs.Answering.{written_so}
use Rattle.command_answers.proofs.stream.write_drawings.Goals as goal

pub returns-clause-written : goal.returns-clause-written
returns-clause-written g c =
    written_so
    (λ (text : List ℕ) (refused : Bool).
    IsPictureAnswer c.args.request c.args.model.now c.args.test.now text refused)
    c.draw_answer.result _ _ c.write_made.result c.draw_answer.ensures
    c.write_made.ensures.written
