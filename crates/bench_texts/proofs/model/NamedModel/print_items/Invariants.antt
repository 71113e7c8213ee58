use Rattle.std.proofs.Common.{◌≡◌, ◌++◌, length, drop}
use Rattle.bench_texts.specs.BenchTexts.{items_with_numbers}
use Rattle.bench_texts.specs.Printed.{printed_items}
use Rattle.bench_texts.proofs.model.NamedModel.print_items.Given as goal

abbrev pub invariant-loop-number : goal.invariant-loop-number
invariant-loop-number l =
    l.text.items
    ++ printed_items (items_with_numbers (drop (length l.yielded) l.self.numbers.items)
    (drop (length l.yielded) l.self.text.items.items))
    ≡ printed_items (items_with_numbers l.self.numbers.items l.self.text.items.items)
