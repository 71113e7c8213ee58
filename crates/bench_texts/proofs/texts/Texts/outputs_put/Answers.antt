use Rattle.std.proofs.Common.{◌≡◌, ◌+◌, min, length, refl, ap, sym, ◌∙◌, arith}
use Rattle.std.proofs.lemmas.Grind.{common_steps}
use Rattle.text_values.specs.ModelValues.{clauses_of}
use Rattle.bench_texts.specs.BenchTexts.{PlainModel, numbered_items}
use Rattle.bench_texts.specs.Limits.{items_outputs}
use Rattle.bench_texts.specs.Held.{texts_of}
use Rattle.bench_texts.proofs.Numbered.{outputs-numbered}
use Rattle.bench_texts.proofs.Counts.{counted-more, counted-sum, outputs-put_at, outputs-put_last}
use Rattle.bench_texts.proofs.texts.Texts.outputs_put.Goals as goal

pub returns-then-at-len : goal.returns-then-at-len
returns-then-at-len c = λ name first.
    let m : PlainModel = record { name = name; items = numbered_items first (clauses_of c.args.items.now) } in
    let f : c.saturating_add-of_model.result ≡ min (items_outputs m.items + 1) 18446744073709551615 = c.saturating_add-of_model.ensures ∙ counted-more (items_outputs m.items) 1 _ 1 (c.count_items.ensures ∙ ap (λ n. min n 18446744073709551615) (sym (outputs-numbered first c.args.items.now))) refl in
    c.saturating_add.ensures ∙ counted-sum _ _ _ _ c.outputs_around.ensures f
    ∙ ap (λ n. min n 18446744073709551615) (sym (outputs-put_at
    (texts_of c.args.self.now).models c.args.at m))

pub returns-else-at-len : goal.returns-else-at-len
returns-else-at-len c = λ name first.
    let m : PlainModel = record { name = name; items = numbered_items first (clauses_of c.args.items.now) } in
    let f : c.saturating_add-of_model.result ≡ min (items_outputs m.items + 1) 18446744073709551615 = c.saturating_add-of_model.ensures ∙ counted-more (items_outputs m.items) 1 _ 1 (c.count_items.ensures ∙ ap (λ n. min n 18446744073709551615) (sym (outputs-numbered first c.args.items.now))) refl in
    let last : c.args.at ≡ length (texts_of c.args.self.now).models = grind (arith, common_steps) in
    c.saturating_add-else-at-len.ensures ∙ counted-sum _ _ _ _ c.outputs.ensures f
    ∙ ap (λ n. min n 18446744073709551615) (sym (outputs-put_last
    (texts_of c.args.self.now).models c.args.at m last))
