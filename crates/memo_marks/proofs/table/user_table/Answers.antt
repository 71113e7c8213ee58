use Rattle.memo_marks.proofs.UserLemmas.{users_put}
use Rattle.memo_marks.proofs.table.user_table.Goals as goal

pub loop-i-preserved : goal.loop-i-preserved
loop-i-preserved g c =
    let net = g.T.Texts.net c.args.texts.now in
    rw c.in_ok-insert.ensures.entries (users_put net c.loop-i.table.entries _ c.used_at-node.result
    c.in_ok-users.users c.in_ok-users.ensures (rw c.used_at-node.ensures.rest at c.loop-i.invariant))
