use Rattle.std.proofs.Common.{◌+◌, sym, ◌∙◌, drop}
use Rattle.memo_marks.proofs.UserLemmas.{one_found, none_new}
use Rattle.memo_marks.proofs.table.users_of.Goals as goal
use Rattle.memo_marks.proofs.table.users_of.Goals.{then-is_new_user+in_ok-push, else-is_new_user}

pub loop-i-preserved : goal.loop-i-preserved
loop-i-preserved g c =
    let net = g.T.Texts.net c.args.texts.now in
    let rest = drop (c.loop-i.i + 1) (g.T.Texts.users c.args.texts.now c.args.node) in
    let user = c.user_at-user.result in
    let found = c.loop-i.users.items in
    let answer = rw c.as_slice.ensures.value at c.is_new_user.ensures in
    elim c.if-is_new_user.branch [
      | then-is_new_user+in_ok-push w ↦ rw (w.users-is, w.in_ok-push.ensures.items)
          (one_found net c.args.node found rest user (sym answer ∙ w.if-is_new_user.true)
          (rw c.user_at-user.ensures.rest at c.loop-i.invariant))
      | else-is_new_user w ↦ rw w.users-is
          (none_new net c.args.node found rest user (sym answer ∙ w.if-is_new_user.false)
          (rw c.user_at-user.ensures.rest at c.loop-i.invariant))
    ]
