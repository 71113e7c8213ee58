use Rattle.cat_eval.proofs.evaluator.Evaluator.need_names.Goals as goal

pub returns-clause-there : goal.returns-clause-there
returns-clause-there c = rw c.deref.ensures.value at c.need.ensures.there

pub returns-clause-over : goal.returns-clause-over
returns-clause-over c = c.need.ensures.right c.requires
