use Rattle.cat_eval.specs.Needs.{is_changing_name}
use Rattle.cat_eval.specs.Tables.{HasName}
use Rattle.cat_eval.proofs.Blocks.{either_sort}
use Rattle.cat_eval.proofs.table.Table.need_both.Goals as goal

pub returns-clause-there : goal.returns-clause-there
returns-clause-there c = λ name inside.
    either_sort (is_changing_name name) (HasName c.need_some-2.new.self.blocks.items name)
    (λ no. c.need_some-2.ensures.kept name (c.in_ok-need_some.ensures.there name inside no))
    (λ yes. c.in_ok-need_some-2.ensures.there name inside yes)

pub returns-clause-right : goal.returns-clause-right
returns-clause-right c = λ right. c.need_some-2.ensures.right (c.need_some.ensures.right right)

pub returns-in_err-need_some-2-clause-right : goal.returns-in_err-need_some-2-clause-right
returns-in_err-need_some-2-clause-right c =
    λ right. c.need_some-2.ensures.right (c.need_some.ensures.right right)
