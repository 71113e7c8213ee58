use Rattle.std.proofs.Common.{All, List, sym, subst}
use Rattle.std.proofs.lemmas.List.{take_all}
use Rattle.std.proofs.lemmas.List.Elements.{All-more, All-same}
use Rattle.text_values.specs.declared.test.Step.{Step}
use Rattle.text_values.specs.declared.test.Thread.{Thread}
use Rattle.meaning_laws.specs.Words.{IsStepOfWords}
use Rattle.meaning_laws.proofs.written.threads_are_of_words.Goals as goal

abbrev IsOfWords : Thread → Type 0
IsOfWords t = All IsStepOfWords t.steps.items

pub loop-thread-preserved : goal.loop-thread-preserved
loop-thread-preserved c =
    All-more IsOfWords c.args.threads.now c.loop-thread.thread-index c.thread-item.result
    c.loop-thread-test.true c.loop-thread.invariant
    (subst IsOfWords c.thread-item.is
    (subst (λ (steps : List Step). All IsStepOfWords steps) c.deref.ensures.value
    c.steps_are_of_words.ensures))

pub returns : goal.returns
returns c =
    All-same IsOfWords c.args.threads.now _
    (sym (take_all c.loop-thread.thread-index c.args.threads.now c.loop-thread-test.false))
    c.loop-thread.invariant
