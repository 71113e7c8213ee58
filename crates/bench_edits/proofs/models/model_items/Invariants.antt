use Rattle.std.proofs.Common.{map, take}
use Rattle.bench_parts.specs.Items.{AreListsOf}
use Rattle.bench_edits.specs.Readings.{named_text, all_facts}
use Rattle.bench_edits.proofs.models.model_items.Given as goal

abbrev pub invariant-loop-model : goal.invariant-loop-model
invariant-loop-model l =
    AreListsOf l.fresh l.parts (named_text l.before)
    (all_facts (map (λ m. m.now) (take l.model-index l.models))) l.lists
