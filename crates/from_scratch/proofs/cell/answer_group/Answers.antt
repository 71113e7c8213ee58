use Rattle.std.proofs.Common.{List, Vec, Global, refl, subst}
use Rattle.cat_machine.specs.declared.column.Column.{Column}
use Rattle.from_scratch.specs.declared.cell.ItemAnswers.{ItemAnswers}
use Rattle.from_scratch.specs.Known.{AreFound}
use Rattle.from_scratch.proofs.Letting.{answered_group}
use Rattle.from_scratch.proofs.cell.answer_group.Goals as goal

pub returns-clause-answered : goal.returns-clause-answered
returns-clause-answered c = λ group.
    let (inputs, found, given) = c.in_ok-found.ensures.found in
    let old = c.args.answers.now in
    let new : ItemAnswers = record { columns = c.put_columns.new.columns; kept = old.kept; flags = old.flags } in
    answered_group c.args.wanted.now c.args.space.now c.args.at c.args.item.now old new inputs
    c.in_ok-found.found group
    (subst
    (λ (columns : List (Vec Column Global)).
    AreFound columns c.args.item.now.inputs.items inputs) c.deref.ensures.value found)
    given c.put_columns.ensures.count c.put_columns.ensures.others c.put_columns.ensures.here refl
    refl
