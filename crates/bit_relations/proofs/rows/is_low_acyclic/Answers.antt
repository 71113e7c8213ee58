use Rattle.bit_rows.proofs.Closing.{acyclic_low}
use Rattle.bit_relations.proofs.rows.is_low_acyclic.Goals as goal

pub returns : goal.returns
returns c =
    acyclic_low _ _ _ _ c.requires.few c.requires.within c.close_low.ensures.pairs
    c.is_diagonal_free.ensures
