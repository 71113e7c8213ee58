use Rattle.std.proofs.Common.{◌∙◌}
use Rattle.cat_expressions.proofs.Stack.{taken_by, taken_by_none}
use Rattle.cat_expressions.proofs.frames.takes.Goals as goal

pub returns-in-Some : goal.returns-in-Some
returns-in-Some c =
    c.takes.ensures ∙ taken_by c.args.least c.args.frames.now _ c.in-Some.ensures.value

pub returns-in-None : goal.returns-in-None
returns-in-None c = taken_by_none c.args.least c.args.frames.now c.in-None.ensures.value
