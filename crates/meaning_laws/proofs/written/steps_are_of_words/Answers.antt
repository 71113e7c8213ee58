use Rattle.std.proofs.Common.{sym, subst}
use Rattle.std.proofs.lemmas.List.{take_all}
use Rattle.std.proofs.lemmas.List.Elements.{All-more, All-same}
use Rattle.meaning_laws.specs.Words.{IsStepOfWords}
use Rattle.meaning_laws.proofs.written.steps_are_of_words.Goals as goal

pub loop-step-preserved : goal.loop-step-preserved
loop-step-preserved c =
    All-more IsStepOfWords c.args.steps.now c.loop-step.step-index c.step-item.result
    c.loop-step-test.true c.loop-step.invariant
    (subst IsStepOfWords c.step-item.is c.step_is_of_words.ensures)

pub returns : goal.returns
returns c =
    All-same IsStepOfWords c.args.steps.now _
    (sym (take_all c.loop-step.step-index c.args.steps.now c.loop-step-test.false))
    c.loop-step.invariant
