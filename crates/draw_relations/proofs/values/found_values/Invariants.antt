use Rattle.std.specs.List.{All}
use Rattle.text_values.specs.ModelValues.{clauses_of}
use Rattle.draw_relations.specs.Values.{AreValuesBefore, IsSized}
use Rattle.draw_relations.proofs.values.found_values.Given as goal

abbrev pub invariant-loop-index : goal.invariant-loop-index
invariant-loop-index l = record {
  shown : AreValuesBefore l.space (clauses_of l.items) l.names l.index l.values.items;
  sized : All (λ s. IsSized l.space s.values) l.values.items;
}
