use Rattle.std.proofs.Common.{◌≡◌, [], drop}
use Rattle.text_values.specs.ModelValues.{clauses_of}
use Rattle.draw_relations.specs.Shown.{after_clauses}
use Rattle.draw_relations.proofs.names.shown_names.Given as goal

abbrev pub invariant-loop-index : goal.invariant-loop-index
invariant-loop-index l =
    after_clauses l.index (clauses_of (drop l.index l.items)) l.shown.items
    ≡ after_clauses 0 (clauses_of l.items) []
