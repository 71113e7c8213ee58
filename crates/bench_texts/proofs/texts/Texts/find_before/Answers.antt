use Rattle.std.proofs.Common.{◌≡◌, ◌≤◌, [], length, refl, arith}
use Rattle.bench_texts.specs.Held.{plain_model, texts_of}
use Rattle.bench_texts.specs.Edits.{model_items}
use Rattle.bench_texts.proofs.Lists.{index-map, held_here}
use Rattle.bench_texts.proofs.texts.Texts.find_before.Goals as goal

pub returns-then-before-eq0 : goal.returns-then-before-eq0
returns-then-before-eq0 c =
    let e : model_items (texts_of c.args.self.now) c.args.model.now ≡ (plain_model c.index.result.now).items = rw (← c.requires.found) (index-map plain_model (λ m. m.items) c.args.self.now.models.items c.args.at c.index.result.now [] (omega arith) c.index.ensures) in (
      rw (c.if-before-eq0.true, e) c.len.ensures,
      rw c.if-before-eq0.true refl,
      held_here plain_model (λ m. c.len.result ≤ length m.items) c.args.self.now.models.items c.args.at
          c.index.result.now (omega arith) c.index.ensures (omega arith),
    )
