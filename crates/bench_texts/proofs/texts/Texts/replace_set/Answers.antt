use Rattle.std.proofs.Common.{◌<◌, length, arith, ap}
use Rattle.text_values.specs.ModelValues.{clause_of}
use Rattle.bench_texts.specs.BenchTexts.{put_at, with_items, with_models}
use Rattle.bench_texts.specs.Held.{plain_model, texts_of}
use Rattle.bench_texts.proofs.Lists.{held_at, put_at-changed}
use Rattle.bench_texts.proofs.texts.Texts.replace_set.Goals as goal

pub with_set-requires : goal.with_set-requires
with_set-requires c =
    held_at plain_model (λ m. c.args.index < length m.items) c.args.self.now.models.items c.args.at
    c.index.result.now (omega (arith, c.requires.0)) c.index.ensures c.requires.1

pub returns-clause-texts : goal.returns-clause-texts
returns-clause-texts c =
    let change = with_items (put_at c.args.index (record { number = c.args.number; clause = clause_of c.args.item })) in
    ap (λ ms. with_models (λ was. ms) c.args.self.now.next (texts_of c.args.self.now))
    (put_at-changed plain_model change c.args.self.now.models.items c.args.at c.index.result.now
    (plain_model c.in_ok-model.model) (omega (arith, c.requires.0)) c.index.ensures
    c.in_ok-model.ensures.value)
