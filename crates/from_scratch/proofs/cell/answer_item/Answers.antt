use Rattle.std.proofs.lemmas.Result.{on_ok_weaker}
use Rattle.from_scratch.specs.Keeping.{IsLeftOut}
use Rattle.from_scratch.proofs.Knowing.{answered_silent}
use Rattle.from_scratch.proofs.Letting.{answered_whole}
use Rattle.from_scratch.proofs.cell.answer_item.Goals as goal

pub returns-in-Group-clause-answered : goal.returns-in-Group-clause-answered
returns-in-Group-clause-answered c = c.answer_group.ensures.answered (rw c.in-Group.is tt)

pub returns-in-Check-clause-answered : goal.returns-in-Check-clause-answered
returns-in-Check-clause-answered c =
    on_ok_weaker c.answer_check.result
    (answered_whole (IsLeftOut c.args.wanted.now c.args.at) c.args.space.now c.args.at
    c.args.item.now c.args.answers.now c.answer_check.new.answers)
    (c.answer_check.ensures.answered c.in-Check.is)

pub returns-in-Silent-clause-answered : goal.returns-in-Silent-clause-answered
returns-in-Silent-clause-answered c =
    let answers = c.args.answers.now in
    answered_whole (IsLeftOut c.args.wanted.now c.args.at) c.args.space.now c.args.at
    c.args.item.now answers answers (answered_silent c.args.space.now c.args.at c.args.item.now
    answers c.in-Silent.is)
