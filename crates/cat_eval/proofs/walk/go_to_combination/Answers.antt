use Rattle.cat_eval.proofs.Likeness.{alike_entered}
use Rattle.cat_eval.proofs.walk.go_to_combination.Goals as goal

pub returns-in-Some-clause-entered : goal.returns-in-Some-clause-entered
returns-in-Some-clause-entered c = λ held.
    alike_entered c.args.base.now c.in-Some.earlier.now c.args.combination.now
    (c.is_same_shape.ensures c.if-is_same_shape.true) (rw c.in-Some.is at held)
