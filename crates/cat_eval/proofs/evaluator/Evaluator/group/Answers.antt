use Rattle.std.proofs.Common.{Vec, Global, []}
use Rattle.std.proofs.lemmas.Result.{IfOk-weaker}
use Rattle.cat_machine.specs.declared.column.Column.{Column}
use Rattle.cat_eval.specs.Wanted.{WantedColumnsOf}
use Rattle.cat_eval.proofs.Columns.{columns_named}
use Rattle.cat_eval.proofs.Wanting.{all_wanted}
use Rattle.cat_eval.proofs.evaluator.Evaluator.group.Goals as goal

pub returns-clause-values : goal.returns-clause-values
returns-clause-values c =
    IfOk-weaker c.group_wanted.result _ _
    (λ (v : Vec Column Global) (given : WantedColumnsOf [] c.args.item.now.role c.args.inputs.now
    c.args.space.now v.items).
    all_wanted c.args.item.now.role c.args.inputs.now c.args.space.now v.items given)
    c.group_wanted.ensures.values

pub returns-clause-long : goal.returns-clause-long
returns-clause-long c =
    IfOk-weaker c.group_wanted.result _ _
    (λ v values.
    columns_named c.args.item.now.role c.args.inputs.now c.args.space.now v.items values)
    (returns-clause-values c)
