use Rattle.std.proofs.Common.{◌≡◌, take}
use Rattle.std.specs.Prelude.{filter}
use Rattle.text_values.specs.ModelValues.{clauses_of}
use Rattle.draw_relations.specs.Shown.{is_binding}
use Rattle.draw_relations.proofs.texts.bindings.Given as goal

abbrev pub invariant-loop-item : goal.invariant-loop-item
invariant-loop-item l =
    clauses_of l.found.items ≡ filter is_binding (clauses_of (take l.item-index l.items))
