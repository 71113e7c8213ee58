use Rattle.bit_rows.specs.Relation.{Has}
use Rattle.draw_graph.proofs.Pairs.{UpTo}
use Rattle.draw_graph.proofs.relation.pairs.Given as goal

abbrev pub invariant-loop-from : goal.invariant-loop-from
invariant-loop-from l = UpTo (Has l.relation) l.from 0 l.pairs.items

abbrev pub invariant-loop-to : goal.invariant-loop-to
invariant-loop-to l = UpTo (Has l.relation) l.from l.to l.pairs.items
