use Rattle.meaning_plain.proofs.Operators.{product_made}
use Rattle.meaning_plain.proofs.relations.product.Goals as goal

pub returns : goal.returns
returns c =
    product_made c.args.first.now c.args.second.now _ _ c.new-pairs.ensures.items
    c.in_ok-add_product.ensures
