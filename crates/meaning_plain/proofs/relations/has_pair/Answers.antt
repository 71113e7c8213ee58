use Rattle.std.proofs.lemmas.List.Elements.{contains_decides, Decides-contains}
use Rattle.meaning_plain.proofs.Growing.{pair_decides}
use Rattle.std.proofs.Common.{ℕ, ◌&&◌}
use Rattle.std.proofs.Math.Dec.{eqb}
use Rattle.meaning_plain.proofs.relations.has_pair.Goals as goal

pub returns : goal.returns
returns c =
    Decides-contains c.args.pairs.now c.args.pair c.contains.result
    (contains_decides (λ (p q : ℕ × ℕ). eqb p.0 q.0 && eqb p.1 q.1) pair_decides c.args.pairs.now
    c.args.pair c.contains.result c.contains.ensures.cases)
