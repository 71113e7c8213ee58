use Rattle.memo_marks.proofs.UserLemmas.{none_held}
use Rattle.memo_marks.proofs.marked.users.Goals as goal

pub returns-in-None : goal.returns-in-None
returns-in-None g c =
    let texts = c.marks.inside.texts.now in
    rw (← c.marks.view_is) (none_held (g.T.Texts.net texts) c.marks.inside.users.entries c.args.node
    (g.met.T.Texts.used_closed texts c.marks.invariant.0) c.marks.invariant.2
    (rw c.in-None.is at c.get.ensures.value))
