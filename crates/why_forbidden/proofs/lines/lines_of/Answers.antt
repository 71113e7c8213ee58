use Rattle.std.proofs.Common.{◌∙◌, refl}
use Rattle.bit_rows.specs.Relation.{Has, IsMember}
use Rattle.why_forbidden.specs.Drawings.{PairsOfName}
use Rattle.why_forbidden.proofs.Pairing.{edges_as}
use Rattle.why_forbidden.proofs.lines.lines_of.Goals as goal

pub returns : goal.returns
returns c = λ one is.
    let S = IsMember c.args.drawn.now in
    let found = c.relation_of-pairs.ensures one is in
    record {
      name = c.in_ok-name.ensures.items ∙ c.spelling.ensures;
      ink = refl;
      pairs =
          edges_as S S (Has c.relation_of-pairs.result) (PairsOfName one c.args.relation.now.value.name)
          (λ a. ((λ x. x), (λ x. x))) found.pairs c.in_ok-pairs.pairs.items c.in_ok-pairs.ensures;
    }
