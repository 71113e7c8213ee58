use Rattle.std.proofs.Common.{◌∙◌, sym}
use Rattle.std.proofs.lemmas.Bool.{false≢true}
use Rattle.cat_machine.proofs.Grown.{less_room, no_gain, whole_gain}
use Rattle.cat_machine.proofs.stack.grow.Goals as goal

pub returns-then-is_same-clause-value : goal.returns-then-is_same-clause-value
returns-then-is_same-clause-value c = λ count within.
    no_gain c.args.own.now c.copy_from.new.self c.union_with.new.self c.args.value.now
    c.copy_from.ensures c.union_with.ensures c.count.ensures.regular
    (c.is_same.ensures.0 c.if-is_same.true) count c.count-2.ensures.regular within

pub returns-clause-grown : goal.returns-clause-grown
returns-clause-grown c = λ _.
    rw c.copy_from-2.ensures (less_room c.args.own.now c.copy_from.new.self c.union_with.new.self
    c.args.value.now c.copy_from.ensures c.union_with.ensures c.count.ensures.regular
    (λ same. absurd (false≢true (sym c.if-is_same.false ∙ c.is_same.ensures.1 same))))

pub returns-clause-value : goal.returns-clause-value
returns-clause-value c = λ count within.
    c.copy_from-2.ensures
    ∙ whole_gain c.args.own.now c.copy_from.new.self c.union_with.new.self c.args.value.now
    c.copy_from.ensures c.union_with.ensures c.count.ensures.regular count
    c.count-2.ensures.regular within
