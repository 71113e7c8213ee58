use Rattle.std.proofs.Common.{refl, ap, sym}
use Rattle.text_values.specs.TestValue.{content_of}
use Rattle.bench_texts.specs.declared.change.Change.TheVariants as changes
use Rattle.bench_texts.specs.BenchTexts.{with_tests}
use Rattle.bench_texts.specs.Held.{texts_of}
use Rattle.bench_texts.specs.Changes.{changed_texts}
use Rattle.bench_texts.proofs.Refusing.{limited_answers}
use Rattle.std.proofs.Common.{◌≡◌, arith, IfOk, subst, ◌∙◌}
use Rattle.std.proofs.lemmas.Grind.{common_steps}
use Rattle.bench_texts.specs.BenchTexts.{test_index, put_at}
use Rattle.bench_texts.specs.Edits.{PutTest}
use Rattle.bench_texts.proofs.Lists.{length-put_at}
use Rattle.bench_texts.proofs.Refusing.{limited_is}
use Rattle.bench_texts.specs.Replacements.{IsTextPut}
use Rattle.bench_texts.proofs.texts.Texts.place_test.Goals as goal

pub returns-clause-answer : goal.returns-clause-answer
returns-clause-answer c = λ text reads.
    let e : c.test_index-at.result ≡ test_index c.args.test.name (texts_of c.args.self.now).tests = c.test_index-at.ensures.value ∙ ap (λ n. test_index n (texts_of c.args.self.now).tests) c.as_bytes.ensures in
    limited_answers (texts_of c.args.self.now) c.args.spent (PutTest text)
    (changes.PutTest c.test_index-at.result c.args.test) c.limited.result refl (
      content_of c.args.test,
      reads,
      ap (λ i. with_tests (put_at i (content_of c.args.test)) (texts_of c.args.self.now)) e,
    )
    (λ r put. subst (IsTextPut (texts_of c.args.self.now) text) (sym put) (e, reads))
    (c.limited.ensures
    (changed_texts (changes.PutTest c.test_index-at.result c.args.test)
    (texts_of c.args.self.now))
    (grind (
      arith,
      common_steps,
      length-put_at (texts_of c.args.self.now).tests c.test_index-at.result
          (content_of c.args.test),
    ))
    (grind (arith, common_steps)) c.outputs.ensures)

pub returns-clause-change : goal.returns-clause-change
returns-clause-change c =
    let e : c.test_index-at.result ≡ test_index c.args.test.name (texts_of c.args.self.now).tests = c.test_index-at.ensures.value ∙ ap (λ n. test_index n (texts_of c.args.self.now).tests) c.as_bytes.ensures in
    subst (λ i. IfOk c.limited.result (λ d. d ≡ changes.PutTest i c.args.test)) e
    (limited_is (texts_of c.args.self.now) c.args.spent
    (changes.PutTest c.test_index-at.result c.args.test)
    (changed_texts (changes.PutTest c.test_index-at.result c.args.test)
    (texts_of c.args.self.now)) c.limited.result
    (c.limited.ensures
    (changed_texts (changes.PutTest c.test_index-at.result c.args.test)
    (texts_of c.args.self.now))
    (grind (
      arith,
      common_steps,
      length-put_at (texts_of c.args.self.now).tests c.test_index-at.result
          (content_of c.args.test),
    ))
    (grind (arith, common_steps)) c.outputs.ensures))
