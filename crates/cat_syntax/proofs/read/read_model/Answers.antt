use Rattle.cat_syntax.proofs.read.read_model.Goals as goal

pub returns-in-Err-clause-only : goal.returns-in-Err-clause-only
returns-in-Err-clause-only c = c.in-Err.ensures.only
