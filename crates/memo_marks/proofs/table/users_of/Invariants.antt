use Rattle.std.proofs.Common.{drop}
use Rattle.memo_marks.proofs.UserLemmas.{AreUsersFound}
use Rattle.memo_marks.proofs.table.users_of.Given as goal

abbrev pub invariant-loop-i : goal.invariant-loop-i
invariant-loop-i g l =
    AreUsersFound (g.T.Texts.net l.texts) l.node l.users.items
    (drop l.i (g.T.Texts.users l.texts l.node))
