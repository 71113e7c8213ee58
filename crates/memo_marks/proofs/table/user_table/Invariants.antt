use Rattle.std.proofs.Common.{drop}
use Rattle.memo_marks.specs.Users.{HoldsUsers}
use Rattle.memo_marks.proofs.table.user_table.Given as goal

abbrev pub invariant-loop-i : goal.invariant-loop-i
invariant-loop-i g l =
    let net = g.T.Texts.net l.texts in
    HoldsUsers net l.table.entries (drop l.i net.used)
