use Rattle.std.proofs.Common.{◌≤◌, ap, subst, arith, length}
use Rattle.std.proofs.lemmas.Bool.Decides.{nat_tests}
use mathlib.Core.List.{IsPrefix}
use Rattle.desk_history.proofs.Fronts.{prefix_shorter}
use Rattle.desk_history.proofs.book.Front.begins_with.Goals as goal

pub returns-clause-begins : goal.returns-clause-begins
returns-clause-begins g c le =
    let both = c.learn.new.self.log in
    let mine : IsPrefix c.self.inside.seen.log both = subst (λ l. IsPrefix l both) (ap (λ s. s.log) c.again-both.ensures) c.learn.ensures.2 in
    let fewer : c.other.inside.count ≤ c.self.inside.count = grind (arith, nat_tests) in
    let less : length c.other.inside.seen.log ≤ length c.self.inside.seen.log = omega (arith, c.self.invariant.0, c.other.invariant.0) in
    rw (← c.self.view_is, ← c.other.view_is) (prefix_shorter c.other.inside.seen.log
    c.self.inside.seen.log both c.learn.ensures.3 mine less)
