use Rattle.std.proofs.Common.{◌≡◌, ◌++◌, List, map, arith}
use Rattle.std.proofs.lemmas.List.{length-append}
use Rattle.text_values.specs.declared.model.Item.{Item}
use Rattle.bench_edits.proofs.Making.{texts_next, texts_whole}
use Rattle.bench_edits.proofs.texts.texts_of.Goals as goal

pub loop-model-preserved : goal.loop-model-preserved
loop-model-preserved c =
    let models = c.args.models.now in let i = c.loop-model.model-index in
    let m = c.model-item.result in let before = c.loop-model.invariant in
    let ns = map (λ r. r.number) c.loop-model.rows.items in
    let xs : List Item = map (λ x. x.now) c.loop-model.texts.items in
    let a : map (λ r. r.number) c.put_rows.new.rows.items ≡ ns ++ m.numbers.items = rw c.numbers.ensures at c.in_ok-put_rows.ensures in
    let b : map (λ x. x.now) c.put_texts.new.texts.items ≡ xs ++ m.text.items.items = rw (c.deref.ensures.value, c.text.ensures) at c.in_ok-put_texts.ensures in
    rw (a, b) (record {
      even = (let p = length-append ns m.numbers.items in let q = length-append xs m.text.items.items in
          omega (arith, p, q, before.even, m.paired, m.numbers.ok.0, m.text.items.ok.0));
      said = λ number. texts_next ns xs models i number m (omega arith) c.model-item.is
          before.even (before.said number);
    })

pub returns : goal.returns
returns c = λ number.
    texts_whole (map (λ r. r.number) c.loop-model.rows.items)
    (map (λ x. x.now) c.loop-model.texts.items) c.args.models.now c.loop-model.model-index number
    (omega arith) (c.loop-model.invariant.said number)
