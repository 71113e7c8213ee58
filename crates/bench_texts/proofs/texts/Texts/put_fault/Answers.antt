use Rattle.std.proofs.Common.{arith}
use Rattle.std.proofs.lemmas.Grind.{common_steps}
use Rattle.text_values.specs.ModelValues.{clauses_of}
use Rattle.bench_texts.specs.BenchTexts.{PlainModel, numbered_items, put_at, with_models}
use Rattle.bench_texts.specs.Held.{texts_of}
use Rattle.bench_texts.proofs.Lists.{length-put_at}
use Rattle.bench_texts.proofs.texts.Texts.put_fault.Goals as goal

pub returns : goal.returns
returns c = λ name next.
    let t = texts_of c.args.self.now in
    let m : PlainModel = record { name = name; items = numbered_items t.next (clauses_of c.args.items.now) } in
    c.limit_fault.ensures (with_models (put_at c.args.at m) next t) (grind (arith, common_steps))
    (grind (arith, common_steps, length-put_at t.models c.args.at m))
    (c.outputs_put.ensures name t.next)
