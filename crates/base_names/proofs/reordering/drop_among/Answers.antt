use Rattle.base_names.proofs.Tails.{dropped_among}
use Rattle.base_names.proofs.reordering.drop_among.Goals as goal

pub returns : goal.returns
returns c =
    dropped_among c.args.coherence.now c.args.stores.now c.requires c.set_product.ensures
    c.minus_with.ensures
