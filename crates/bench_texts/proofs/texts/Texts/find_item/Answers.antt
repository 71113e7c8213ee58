use Rattle.std.proofs.Common.{◌≡◌, ◌<◌, [], length, refl, arith}
use Rattle.std.proofs.lemmas.Grind.{common_steps}
use Rattle.std.proofs.lemmas.Bool.{lt-ltb}
use Rattle.bench_texts.specs.Held.{plain_model, texts_of}
use Rattle.bench_texts.specs.Edits.{model_items}
use Rattle.bench_texts.proofs.Lists.{index-map, held_here}
use Rattle.bench_texts.proofs.texts.Texts.find_item.Goals as goal

pub returns-then-index-len : goal.returns-then-index-len
returns-then-index-len c =
    let e : model_items (texts_of c.args.self.now) c.args.model.now ≡ (plain_model c.index-model.result.now).items = rw (← c.requires.found) (index-map plain_model (λ m. m.items) c.args.self.now.models.items c.args.at c.index-model.result.now [] (omega arith) c.index-model.ensures) in
    let l : c.item_index-index.result < length (plain_model c.index-model.result.now).items = omega arith in (
      rw e c.item_index-index.ensures,
      rw (e, ← c.item_index-index.ensures) (lt-ltb _ _ l),
      held_here plain_model (λ m. c.item_index-index.result < length m.items)
          c.args.self.now.models.items c.args.at c.index-model.result.now (omega arith)
          c.index-model.ensures l,
    )

pub returns-else-index-len : goal.returns-else-index-len
returns-else-index-len c =
    let e : model_items (texts_of c.args.self.now) c.args.model.now ≡ (plain_model c.index-model.result.now).items = rw (← c.requires.found) (index-map plain_model (λ m. m.items) c.args.self.now.models.items c.args.at c.index-model.result.now [] (omega arith) c.index-model.ensures) in
    (refl, rw (e, ← c.item_index-index.ensures) (grind (arith, common_steps)))
