use Rattle.std.proofs.Common.{◌≡◌, ◌<◌, ◌+◌, length, get_or, min, insert, refl, ap, sym, ◌∙◌, arith, [], inr, subst}
use Rattle.std.proofs.lemmas.Grind.{common_steps}
use Rattle.text_values.specs.ModelValues.{clause_of}
use Rattle.bench_texts.specs.declared.change.Change.TheVariants as changes
use Rattle.bench_texts.specs.BenchTexts.{NumberedItem, model_index, changed_at, with_items, with_models}
use Rattle.bench_texts.specs.Limits.{items_outputs}
use Rattle.bench_texts.specs.Held.{plain_model, texts_of}
use Rattle.bench_texts.specs.Changes.{changed_texts}
use Rattle.bench_texts.specs.Edits.{InsertItem, model_items}
use Rattle.bench_texts.proofs.Lists.{length-changed_at, get_or-map, held_here, index-map}
use Rattle.bench_texts.proofs.Counts.{outputs-with, items-insert, counted-more}
use Rattle.bench_texts.proofs.Refusing.{limited_answers, limited_ready_within, unspent}
use Rattle.bench_texts.specs.Replacements.{IsModelPut}
use Rattle.bench_texts.proofs.texts.Texts.prepare_insert_item.Goals as goal

pub returns-then-len-ge-MAX_ITEMS-clause-answer : goal.returns-then-len-ge-MAX_ITEMS-clause-answer
returns-then-len-ge-MAX_ITEMS-clause-answer c =
    let held : model_items (texts_of c.args.self.now) c.args.model.now ≡ (plain_model c.index.result.now).items = rw (← c.in_ok-at.ensures.0) (index-map plain_model (λ m. m.items) c.args.self.now.models.items c.in_ok-at.at c.index.result.now [] (omega (arith, c.in_ok-at.ensures.2)) c.index.ensures) in (
      rw (c.in_ok-at.ensures.1, c.in_ok-index.ensures.1) refl,
      inr (record {
        item = clause_of c.in-Ok.item;
        reads = c.in-Ok.ensures.found;
        many = rw held (omega arith);
        rule_is = refl;
        offset_is = refl;
      }),
    )

pub returns-clause-answer : goal.returns-clause-answer
returns-clause-answer c =
    let held : model_items (texts_of c.args.self.now) c.args.model.now ≡ (plain_model c.index.result.now).items = rw (← c.in_ok-at.ensures.0) (index-map plain_model (λ m. m.items) c.args.self.now.models.items c.in_ok-at.at c.index.result.now [] (omega (arith, c.in_ok-at.ensures.2)) c.index.ensures) in
    let t = texts_of c.args.self.now in
    let m = plain_model c.index-2.result.now in
    let y : NumberedItem = record { number = t.next; clause = clause_of c.in-Ok.item } in
    let here : m ≡ get_or t.models c.in_ok-at.at m = get_or-map plain_model c.args.self.now.models.items c.in_ok-at.at c.index-2.result.now (omega (arith, c.in_ok-at.ensures.2)) c.index-2.ensures in
    let of_items = c.saturating_add-of_items.ensures ∙ counted-more _ _ _ _ c.outputs-others.ensures c.outputs_of.ensures ∙ ap (λ n. min n 18446744073709551615) (sym (items-insert m.items c.in_ok-index.index y)) in
    let total = c.outputs_with-of_models.ensures (items_outputs (insert m.items c.in_ok-index.index y)) of_items ∙ ap (λ n. min n 18446744073709551615) (sym (outputs-with (λ is. insert is c.in_ok-index.index y) t.models c.in_ok-at.at m (grind (arith, common_steps, c.in_ok-at.ensures.2)) here)) in
    let within = c.limited.ensures (changed_texts (changes.InsertItem c.in_ok-at.at c.in_ok-index.index c.in-Ok.item) t) (grind (arith, common_steps)) (length-changed_at (with_items (λ is. insert is c.in_ok-index.index y)) t.models c.in_ok-at.at ∙ grind (arith, common_steps)) total in
    limited_answers t c.args.spent (InsertItem c.args.model.now c.args.before c.args.text.now)
    (changes.InsertItem c.in_ok-at.at c.in_ok-index.index c.in-Ok.item) c.limited.result
    (rw (c.in_ok-at.ensures.1, c.in_ok-index.ensures.1) refl) (
      clause_of c.in-Ok.item,
      c.in-Ok.ensures.found,
      rw held (omega arith),
      ap
          (λ i. with_models
          (changed_at i (with_items (λ is. insert is c.in_ok-index.index y)))
          (t.next + 1) t) c.in_ok-at.ensures.0
          ∙ ap
          (λ k. with_models
          (changed_at (model_index c.args.model.now t.models)
          (with_items (λ is. insert is k y)))
          (t.next + 1) t) c.in_ok-index.ensures.0,
    )
    (λ r put. subst (λ i. IsModelPut i r) c.in_ok-at.ensures.0 put)
    within

pub returns-clause-ready : goal.returns-clause-ready
returns-clause-ready c =
    let t = texts_of c.args.self.now in
    let m = plain_model c.index-2.result.now in
    let y : NumberedItem = record { number = t.next; clause = clause_of c.in-Ok.item } in
    let here : m ≡ get_or t.models c.in_ok-at.at m = get_or-map plain_model c.args.self.now.models.items c.in_ok-at.at c.index-2.result.now (omega (arith, c.in_ok-at.ensures.2)) c.index-2.ensures in
    let of_items = c.saturating_add-of_items.ensures ∙ counted-more _ _ _ _ c.outputs-others.ensures c.outputs_of.ensures ∙ ap (λ n. min n 18446744073709551615) (sym (items-insert m.items c.in_ok-index.index y)) in
    let total = c.outputs_with-of_models.ensures (items_outputs (insert m.items c.in_ok-index.index y)) of_items ∙ ap (λ n. min n 18446744073709551615) (sym (outputs-with (λ is. insert is c.in_ok-index.index y) t.models c.in_ok-at.at m (grind (arith, common_steps, c.in_ok-at.ensures.2)) here)) in
    let within = c.limited.ensures (changed_texts (changes.InsertItem c.in_ok-at.at c.in_ok-index.index c.in-Ok.item) t) (grind (arith, common_steps)) (length-changed_at (with_items (λ is. insert is c.in_ok-index.index y)) t.models c.in_ok-at.at ∙ grind (arith, common_steps)) total in
    let below : length (plain_model c.index.result.now).items < 256 = omega arith in
    let room = held_here plain_model (λ m. length m.items < 256) c.args.self.now.models.items c.in_ok-at.at c.index.result.now (omega (arith, c.in_ok-at.ensures.2)) c.index.ensures below in
    limited_ready_within t c.args.self.now c.args.spent
    (changes.InsertItem c.in_ok-at.at c.in_ok-index.index c.in-Ok.item)
    (changed_texts (changes.InsertItem c.in_ok-at.at c.in_ok-index.index c.in-Ok.item) t)
    c.limited.result
    (λ fits.
    let left =
    unspent t
    (changed_texts (changes.InsertItem c.in_ok-at.at c.in_ok-index.index c.in-Ok.item) t)
    c.args.spent fits in
    (c.in_ok-at.ensures.2, c.in_ok-index.ensures.2, room, omega (arith, left)))
    within
