use Rattle.std.proofs.Common.{refl, ap, ◌∙◌}
use Rattle.bench_texts.specs.declared.change.Change.TheVariants as changes
use Rattle.bench_texts.specs.BenchTexts.{with_tests}
use Rattle.bench_texts.specs.Held.{texts_of}
use Rattle.bench_texts.specs.Changes.{changed_texts}
use Rattle.bench_texts.proofs.Refusing.{limited_answers, limited_ready}
use Rattle.std.proofs.Common.{remove, arith}
use Rattle.std.proofs.lemmas.Grind.{common_steps}
use Rattle.bench_texts.specs.Edits.{DropTest}
use Rattle.bench_texts.proofs.Lists.{length-remove}
use Rattle.bench_texts.specs.declared.replacement.Replacement.TheVariants as made
use Rattle.bench_texts.proofs.texts.Texts.prepare_drop_test.Goals as goal

pub returns-clause-answer : goal.returns-clause-answer
returns-clause-answer c =
    limited_answers (texts_of c.args.self.now) c.args.spent (DropTest c.args.test.now)
    (changes.DropTest c.in_ok-at.at) c.limited.result
    (rw c.in_ok-at.ensures.1 refl)
    (ap (λ i. with_tests (λ ts. remove ts i) (texts_of c.args.self.now)) c.in_ok-at.ensures.0)
    (λ r put. put ∙ ap made.DropTest c.in_ok-at.ensures.0)
    (c.limited.ensures (changed_texts (changes.DropTest c.in_ok-at.at) (texts_of c.args.self.now))
    (grind (
      arith,
      common_steps,
      length-remove (texts_of c.args.self.now).tests c.in_ok-at.at,
    ))
    (grind (arith, common_steps)) c.outputs.ensures)

pub returns-clause-ready : goal.returns-clause-ready
returns-clause-ready c =
    limited_ready (texts_of c.args.self.now) c.args.self.now c.args.spent
    (changes.DropTest c.in_ok-at.at)
    (changed_texts (changes.DropTest c.in_ok-at.at) (texts_of c.args.self.now)) c.limited.result
    c.in_ok-at.ensures.2
    (c.limited.ensures (changed_texts (changes.DropTest c.in_ok-at.at) (texts_of c.args.self.now))
    (grind (
      arith,
      common_steps,
      length-remove (texts_of c.args.self.now).tests c.in_ok-at.at,
    ))
    (grind (arith, common_steps)) c.outputs.ensures)
