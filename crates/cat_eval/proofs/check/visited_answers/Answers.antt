use Rattle.std.proofs.Common.{refl, arith}
use Rattle.std.proofs.lemmas.Option.{none-some}
use Rattle.cat_eval.proofs.Asked.{asked_none}
use Rattle.cat_eval.proofs.check.visited_answers.Goals as goal

pub returns : goal.returns
returns c =
    let check = c.args.check.now in
    let inputs = c.args.inputs.now in
    (c.in_ok-visit_all.ensures (
      refl,
      refl,
      refl,
      rw c.in_ok-with_capacity.ensures.items (asked_none check inputs c.args.kept),
      (λ answer base e ends. absurd (none-some answer e)),
      (λ k low high. absurd (omega (arith, high))),
    )).3
