use Rattle.std.proofs.Common.{List, Vec, Global, Bool, refl, subst}
use Rattle.cat_machine.specs.declared.column.Column.{Column}
use Rattle.cat_eval.specs.Kept.{KeptAnswersOf}
use Rattle.from_scratch.specs.Known.{AreFound}
use Rattle.from_scratch.proofs.Knowing.{answered_kept}
use Rattle.from_scratch.proofs.cell.answer_kept.Goals as goal

pub returns-clause-answered : goal.returns-clause-answered
returns-clause-answered c = λ check role none.
    let (inputs, found, given) = c.in_ok-answers.ensures.found in
    answered_kept c.args.space.now c.args.at c.args.item.now check c.args.answers.now _ inputs role
    none
    (subst
    (λ (columns : List (Vec Column Global)).
    AreFound columns c.args.item.now.inputs.items inputs) c.deref.ensures.value found)
    (subst
    (λ (kept : List Bool). KeptAnswersOf kept c.args.item.now.role inputs c.args.space.now
    c.in_ok-answers.field-0.items) c.deref-2.ensures.value given)
    refl refl
