use Rattle.std.proofs.Common.{◌+◌, arith}
use Rattle.bench_texts.proofs.Numbered.{outputs-take, outputs-drop}
use Rattle.bench_texts.proofs.model.NamedModel.outputs_without.Goals as goal

pub returns : goal.returns
returns c =
    let a = outputs-take c.args.self.now.numbers.items c.args.self.now.text.items.items c.args.index (omega arith) in
    let b = outputs-drop c.args.self.now.numbers.items c.args.self.now.text.items.items (c.args.index + 1) (omega arith) in
    rw (a, b) (grind (
      arith,
      c.count_items.ensures,
      c.count_items-2.ensures,
      c.split_at.ensures,
      c.split_at-2.ensures,
      c.saturating_add.ensures,
      c.as_slice-items.ensures.value,
    ))
