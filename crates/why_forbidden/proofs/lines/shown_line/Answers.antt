use Rattle.std.proofs.Common.{◌∙◌, refl}
use Rattle.bit_rows.specs.Relation.{Has, IsMember}
use Rattle.why_witness.specs.Pairs.{HasPair}
use Rattle.why_forbidden.proofs.Pairing.{edges_as}
use Rattle.why_forbidden.proofs.lines.shown_line.Goals as goal

pub returns : goal.returns
returns c =
    let S = IsMember c.args.drawn.now in
    let v = c.args.shown.now in
    record {
      name = c.in_ok-name.ensures.items ∙ c.as_bytes.ensures;
      ink = refl;
      pairs =
          edges_as S S (Has c.shown_at-pairs.result) (HasPair v.values c.args.candidate)
          (λ a. ((λ x. x), (λ x. x))) c.shown_at-pairs.ensures.pairs c.in_ok-pairs.pairs.items
          c.in_ok-pairs.ensures;
    }
