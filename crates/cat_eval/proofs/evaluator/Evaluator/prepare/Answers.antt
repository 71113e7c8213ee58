use Rattle.cat_eval.proofs.evaluator.Evaluator.prepare.Goals as goal

pub returns : goal.returns
returns c = c.need.ensures.right (rw c.loop-index.invariant c.requires)
