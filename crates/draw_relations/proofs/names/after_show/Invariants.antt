use Rattle.std.proofs.Common.{◌≡◌, map, drop}
use Rattle.text_values.specs.ModelValues.{shown_term}
use Rattle.draw_relations.specs.Shown.{after_show}
use Rattle.draw_relations.proofs.names.after_show.Given as goal

abbrev pub invariant-loop-position : goal.invariant-loop-position
invariant-loop-position l =
    after_show l.hidden l.item l.position (map shown_term (drop l.position l.expressions))
    l.shown.items
    ≡ after_show l.hidden l.item 0 (map shown_term l.expressions) l.initial.shown.items
