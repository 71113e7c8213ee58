use Rattle.std.proofs.Common.{arith, sym, ◌∙◌}
use Rattle.bit_rows.proofs.Wide.{get_or-wide}
use Rattle.bit_relations.proofs.rows.has_pair.Goals as goal

pub returns : goal.returns
returns c =
    rw (get_or-wide _ _ c.args.from (c.told-low ∙ sym c.told-high) (omega (arith, c.told-low)))
    c.has_event.ensures
