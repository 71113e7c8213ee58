use Rattle.std.proofs.Common.{◌≡◌, ◌<◌, length, get_or, min, remove, refl, ap, sym, ◌∙◌, arith, subst}
use Rattle.std.proofs.lemmas.Grind.{common_steps}
use Rattle.bench_texts.specs.declared.change.Change.TheVariants as changes
use Rattle.bench_texts.specs.BenchTexts.{model_index, changed_at, with_items, with_models}
use Rattle.bench_texts.specs.Limits.{items_outputs}
use Rattle.bench_texts.specs.Held.{plain_model, texts_of}
use Rattle.bench_texts.specs.Changes.{changed_texts}
use Rattle.bench_texts.specs.Edits.{RemoveItem}
use Rattle.bench_texts.proofs.Lists.{length-changed_at, get_or-map, held_at}
use Rattle.bench_texts.proofs.Counts.{outputs-with, items-remove}
use Rattle.bench_texts.proofs.Refusing.{limited_answers, limited_ready}
use Rattle.bench_texts.specs.Replacements.{IsModelPut}
use Rattle.bench_texts.proofs.texts.Texts.prepare_remove_item.Goals as goal

pub outputs_without-of_items-requires : goal.outputs_without-of_items-requires
outputs_without-of_items-requires c =
    held_at plain_model (λ m. c.in_ok-index.index < length m.items) c.args.self.now.models.items
    c.in_ok-at.at c.index.result.now (omega (arith, c.in_ok-at.ensures.2)) c.index.ensures
    c.in_ok-index.ensures.2

pub returns-clause-answer : goal.returns-clause-answer
returns-clause-answer c =
    let ms = (texts_of c.args.self.now).models in let m = plain_model c.index.result.now in
    let here : m ≡ get_or (texts_of c.args.self.now).models c.in_ok-at.at m = get_or-map plain_model c.args.self.now.models.items c.in_ok-at.at c.index.result.now (omega (arith, c.in_ok-at.ensures.2)) c.index.ensures in
    let total = c.outputs_with-of_models.ensures (items_outputs (remove m.items c.in_ok-index.index)) (c.outputs_without-of_items.ensures ∙ ap (λ n. min n 18446744073709551615) (sym (items-remove m.items c.in_ok-index.index))) ∙ ap (λ n. min n 18446744073709551615) (sym (outputs-with (λ is. remove is c.in_ok-index.index) (texts_of c.args.self.now).models c.in_ok-at.at m (grind (arith, common_steps, c.in_ok-at.ensures.2)) here)) in
    let within = c.limited.ensures (changed_texts (changes.RemoveItem c.in_ok-at.at c.in_ok-index.index) (texts_of c.args.self.now)) (grind (arith, common_steps)) (length-changed_at (with_items (λ is. remove is c.in_ok-index.index)) (texts_of c.args.self.now).models c.in_ok-at.at ∙ grind (arith, common_steps)) total in
    limited_answers (texts_of c.args.self.now) c.args.spent
    (RemoveItem c.args.model.now c.args.item)
    (changes.RemoveItem c.in_ok-at.at c.in_ok-index.index) c.limited.result
    (rw (c.in_ok-at.ensures.1, c.in_ok-index.ensures.1) refl)
    (ap
    (λ i. with_models (changed_at i (with_items (λ is. remove is c.in_ok-index.index)))
    (texts_of c.args.self.now).next (texts_of c.args.self.now)) c.in_ok-at.ensures.0
    ∙ ap
    (λ k. with_models
    (changed_at (model_index c.args.model.now (texts_of c.args.self.now).models)
    (with_items (λ is. remove is k)))
    (texts_of c.args.self.now).next
    (texts_of c.args.self.now)) c.in_ok-index.ensures.0)
    (λ r put. subst (λ i. IsModelPut i r) c.in_ok-at.ensures.0 put)
    within

pub returns-clause-ready : goal.returns-clause-ready
returns-clause-ready c =
    let ms = (texts_of c.args.self.now).models in let m = plain_model c.index.result.now in
    let here : m ≡ get_or (texts_of c.args.self.now).models c.in_ok-at.at m = get_or-map plain_model c.args.self.now.models.items c.in_ok-at.at c.index.result.now (omega (arith, c.in_ok-at.ensures.2)) c.index.ensures in
    let total = c.outputs_with-of_models.ensures (items_outputs (remove m.items c.in_ok-index.index)) (c.outputs_without-of_items.ensures ∙ ap (λ n. min n 18446744073709551615) (sym (items-remove m.items c.in_ok-index.index))) ∙ ap (λ n. min n 18446744073709551615) (sym (outputs-with (λ is. remove is c.in_ok-index.index) (texts_of c.args.self.now).models c.in_ok-at.at m (grind (arith, common_steps, c.in_ok-at.ensures.2)) here)) in
    let within = c.limited.ensures (changed_texts (changes.RemoveItem c.in_ok-at.at c.in_ok-index.index) (texts_of c.args.self.now)) (grind (arith, common_steps)) (length-changed_at (with_items (λ is. remove is c.in_ok-index.index)) (texts_of c.args.self.now).models c.in_ok-at.at ∙ grind (arith, common_steps)) total in
    limited_ready (texts_of c.args.self.now) c.args.self.now c.args.spent
    (changes.RemoveItem c.in_ok-at.at c.in_ok-index.index)
    (changed_texts (changes.RemoveItem c.in_ok-at.at c.in_ok-index.index)
    (texts_of c.args.self.now)) c.limited.result
    (c.in_ok-at.ensures.2, c.in_ok-index.ensures.2)
    within
