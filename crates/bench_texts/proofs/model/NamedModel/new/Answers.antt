use Rattle.std.proofs.Common.{◌≡◌, IfOk, length, arith, subst}
use Rattle.text_values.specs.ModelValues.{clauses_of}
use Rattle.bench_texts.specs.BenchTexts.{numbered_items}
use Rattle.bench_texts.specs.Held.{plain_model}
use Rattle.bench_texts.proofs.Numbered.{items_of-numbered}
use Rattle.bench_texts.proofs.model.NamedModel.new.Goals as goal

pub returns-clause-value : goal.returns-clause-value
returns-clause-value c =
    let count : c.len.result ≡ length c.args.text.items.items = omega arith in
    let e = items_of-numbered c.in_ok-numbers.numbers.items c.args.first c.len.result c.args.text.items.items c.in_ok-numbers.ensures.value count in
    subst
    (λ n. IfOk c.of_items.result (λ m. plain_model m ≡ record {
      name = n;
      items = numbered_items c.args.first (clauses_of c.args.text.items.items);
    }))
    c.in_ok-name.ensures
    (subst
    (λ is. IfOk c.of_items.result (λ m. plain_model m
    ≡ record { name = c.in_ok-name.name; items = is })) e c.of_items.ensures.value)
