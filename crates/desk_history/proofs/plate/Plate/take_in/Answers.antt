use Rattle.std.proofs.Common.{◌≡◌, ◌-◌, suc, length, arith, refl, ◌∙◌, ap}
use mathlib.Core.List.{IsPrefix}
use Rattle.desk_history.proofs.Showing.{taken_in}
use Rattle.desk_history.proofs.plate.Plate.take_in.Goals as goal

pub invariant_of-self-2 : goal.invariant_of-self-2
invariant_of-self-2 g c =
    let old = c.self.inside.front in
    let new = c.entry.inside.front in
    let op = c.entry.inside.op in
    let begins : IsPrefix old new = c.if-not-begins_with.ensures.begins refl in
    let longer : length new ≡ suc (length old) = omega (arith, c.len.ensures.length, c.len-else-not-begins_with.ensures.length, c.if-len-ne1.false) in
    let after = g.L.Operations.after in
    let none = g.L.Operations.none in
    let made = c.in_ok-apply.ensures ∙ ap (λ b. after b op) c.self.invariant in
    rw c.again.ensures (taken_in after none c.apply.new.board old c.entry.invariant.0 new op begins
    longer c.entry.invariant.1 made)
