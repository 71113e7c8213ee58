use Rattle.std.proofs.Common.{arith}
use Rattle.meaning_plain.specs.Lists.{Joins}
use Rattle.meaning_plain.proofs.Growing.{grows_begin, grows_more, grows_all}
use Rattle.meaning_plain.proofs.relations.add_steps.Goals as goal

pub loop-step-init : goal.loop-step-init
loop-step-init c = grows_begin (Joins c.args.from c.args.through) c.args.pairs.now.items

pub loop-step-preserved : goal.loop-step-preserved
loop-step-preserved c =
    grows_more (Joins c.args.from c.args.through) c.args.steps.now c.loop-step.step-index _ _ _ _ (omega arith)
    c.loop-step.invariant c.in_ok-add_step.ensures

pub returns : goal.returns
returns c =
    grows_all (Joins c.args.from c.args.through) c.args.steps.now c.loop-step.step-index _ _ (omega arith) c.loop-step.invariant
