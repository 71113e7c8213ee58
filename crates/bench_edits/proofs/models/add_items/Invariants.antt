use Rattle.std.proofs.Common.{◌≡◌, ℕ, List, Option, ◌++◌, map}
use Rattle.std.specs.List.{range_with_len}
use Rattle.bench_parts.specs.Contents.{PartContent}
use Rattle.bench_parts.specs.Items.{ItemFact, AreListsOf, fact_at, resolved_items}
use Rattle.bench_edits.specs.ItemTexts.{text_by_number}
use Rattle.bench_edits.proofs.models.add_items.Given as goal

abbrev pub invariant-loop-index : goal.invariant-loop-index
invariant-loop-index l =
    (texts : ℕ → Option PartContent) (facts : List ItemFact)
    → ((number : ℕ) → text_by_number l.before number ≡ texts number)
    → AreListsOf l.fresh l.parts texts facts l.initial.lists
    → AreListsOf l.fresh l.parts texts
    (facts
    ++ map (fact_at l.items.numbers.now l.items.items.now (resolved_items l.items))
    (range_with_len 0 l.index)) l.lists
