use Rattle.std.proofs.Common.{◌≡◌, ◌+◌, length, true, None, refl, ap, sym, subst, ◌∙◌, arith}
use Rattle.std.proofs.lemmas.Grind.{common_steps}
use Rattle.text_values.specs.ModelValues.{clauses_of}
use Rattle.bench_texts.specs.BenchTexts.{PlainModel, numbered_items, put_at, with_models}
use Rattle.bench_texts.specs.Limits.{is_model_name}
use Rattle.bench_texts.specs.Held.{texts_of}
use Rattle.bench_texts.specs.Edits.{PutModel, limit_fault, Applies}
use Rattle.bench_texts.proofs.Refusing.{refused_by_limit, unspent}
use Rattle.bench_texts.specs.Replacements.{IsModelPut}
use Rattle.bench_texts.proofs.texts.Texts.prepare_put_model.Goals as goal

pub returns-in-Some-clause-answer : goal.returns-in-Some-clause-answer
returns-in-Some-clause-answer c =
    let t = texts_of c.args.self.now in let at = c.model_index-at.result in let items = c.in-Ok.read.items.items in
    let m : PlainModel = record { name = c.args.model.now; items = numbered_items t.next (clauses_of items) } in
    let next = t.next + length (clauses_of items) in
    let named : is_model_name c.args.model.now ≡ true = grind (arith, common_steps) in
    let read : c.deref.result.now ≡ items = grind (arith, common_steps) in
    let fault : c.put_fault.result ≡ limit_fault t c.args.spent (with_models (put_at at m) next t) = c.put_fault.ensures c.args.model.now next ∙ ap (λ is. limit_fault t c.args.spent (with_models (put_at at (record { name = c.args.model.now; items = numbered_items t.next (clauses_of is) })) next t)) read in
    refused_by_limit t (with_models (put_at at m) next t) c.args.spent
    (PutModel c.args.model.now c.args.text.now) c.in-Some.fault (rw named refl) (
      clauses_of items,
      c.in-Ok.ensures.found,
      ap (λ i. with_models (put_at i m) next t) c.model_index-at.ensures.value,
    )
    (sym fault ∙ c.in-Some.is)

pub make_model-requires-clause-next : goal.make_model-requires-clause-next
make_model-requires-clause-next c =
    let t = texts_of c.args.self.now in let at = c.model_index-at.result in let items = c.in-Ok.read.items.items in
    let m : PlainModel = record { name = c.args.model.now; items = numbered_items t.next (clauses_of items) } in
    let next = t.next + length (clauses_of items) in
    let named : is_model_name c.args.model.now ≡ true = grind (arith, common_steps) in
    let read : c.deref.result.now ≡ items = grind (arith, common_steps) in
    let fault : c.put_fault.result ≡ limit_fault t c.args.spent (with_models (put_at at m) next t) = c.put_fault.ensures c.args.model.now next ∙ ap (λ is. limit_fault t c.args.spent (with_models (put_at at (record { name = c.args.model.now; items = numbered_items t.next (clauses_of is) })) next t)) read in
    let none : c.put_fault.result ≡ None = grind (arith, common_steps) in
    unspent t (with_models (put_at at m) next t) c.args.spent (sym fault ∙ none)

pub returns-in-Ok-make_model-clause-answer : goal.returns-in-Ok-make_model-clause-answer
returns-in-Ok-make_model-clause-answer c =
    let t = texts_of c.args.self.now in let at = c.model_index-at.result in let items = c.in-Ok.read.items.items in
    let m : PlainModel = record { name = c.args.model.now; items = numbered_items t.next (clauses_of items) } in
    let next = t.next + length (clauses_of items) in
    let named : is_model_name c.args.model.now ≡ true = grind (arith, common_steps) in
    let read : c.deref.result.now ≡ items = grind (arith, common_steps) in
    let fault : c.put_fault.result ≡ limit_fault t c.args.spent (with_models (put_at at m) next t) = c.put_fault.ensures c.args.model.now next ∙ ap (λ is. limit_fault t c.args.spent (with_models (put_at at (record { name = c.args.model.now; items = numbered_items t.next (clauses_of is) })) next t)) read in
    let none : c.put_fault.result ≡ None = grind (arith, common_steps) in (
      subst (λ n. Applies t c.args.spent (PutModel c.args.model.now c.args.text.now) n)
          (sym c.in-Ok-make_model.ensures.change)
          (record {
            all_there = rw named refl;
            makes = (
              clauses_of items,
              c.in-Ok.ensures.found,
              ap (λ i. with_models (put_at i m) next t)
                  c.model_index-at.ensures.value,
            );
            within = sym fault ∙ none;
          }),
      λ r put. subst (λ i. IsModelPut i r) c.model_index-at.ensures.value
          (c.in-Ok-make_model.ensures.target r put),
    )
