use Rattle.std.proofs.Common.{refl}
use Rattle.from_scratch.specs.declared.cell.ItemAnswers.{ItemAnswers}
use Rattle.from_scratch.proofs.Letting.{answered_less}
use Rattle.from_scratch.proofs.cell.answer_next.Goals as goal

pub returns-clause-answered : goal.returns-clause-answered
returns-clause-answered c =
    let answered = c.answer_item.new.answers in
    let new : ItemAnswers = record { columns = c.let_go_behind.new.columns; kept = answered.kept; flags = answered.flags } in
    answered_less c.args.last.now c.as_slice-wanted.result.now c.args.space.now c.args.at
    c.args.item.now c.args.answers.now answered new
    (rw c.as_slice-wanted.ensures.value c.in_ok-list_wanted.ensures)
    c.in_ok-answer_item.ensures.answered c.let_go_behind.ensures refl refl
