use Rattle.std.proofs.Common.{All, List, subst}
use Rattle.std.proofs.lemmas.List.Elements.{All-map}
use Rattle.text_values.specs.declared.test.InitEntry.{InitEntry}
use Rattle.text_values.specs.declared.test.Step.{Step}
use Rattle.text_values.specs.declared.test.Thread.{Thread}
use Rattle.text_values.specs.TestValue.{thread_steps}
use Rattle.meaning_laws.specs.Words.{IsWrittenWord, IsStepOfWords}
use Rattle.meaning_laws.proofs.written.test_is_of_words.Goals as goal

abbrev AreOfWords : List Thread → Type 0
AreOfWords ts = All (λ (t : Thread). All IsStepOfWords t.steps.items) ts

pub returns : goal.returns
returns c = record {
  start =
      subst (λ (es : List InitEntry). All (λ (e : InitEntry). IsWrittenWord e.value) es)
      c.deref.ensures.value c.entries_are_words.ensures;
  lines =
      All-map (λ (steps : List Step). All IsStepOfWords steps) thread_steps
      c.args.test.now.threads.items
      (subst AreOfWords c.deref-2.ensures.value c.threads_are_of_words.ensures);
  condition = c.formula_is_of_words.ensures;
}
