use Rattle.std.proofs.Common.{◌∙◌}
use Rattle.cat_eval.proofs.Listed.{suited_more}
use Rattle.cat_eval.proofs.needs.Needs.add.Goals as goal

pub returns-clause-suited : goal.returns-clause-suited
returns-clause-suited c = λ held.
    let old = c.args.self.now in
    suited_more old.names.items _ c.args.name old.reads old.orders _ _
    (λ x inside. rw c.note.ensures.names at (c.list.ensures.within x inside))
    (c.list.ensures.fixed.0 ∙ c.note.ensures.reads)
    (c.list.ensures.fixed.1 ∙ c.note.ensures.orders) held

pub returns-in_err-list-clause-suited : goal.returns-in_err-list-clause-suited
returns-in_err-list-clause-suited c = λ held.
    let old = c.args.self.now in
    suited_more old.names.items _ c.args.name old.reads old.orders _ _
    (λ x inside. rw c.note.ensures.names at (c.list.ensures.within x inside))
    (c.list.ensures.fixed.0 ∙ c.note.ensures.reads)
    (c.list.ensures.fixed.1 ∙ c.note.ensures.orders) held
