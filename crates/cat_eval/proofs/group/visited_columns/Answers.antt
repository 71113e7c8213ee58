use Rattle.std.proofs.Common.{refl, arith}
use Rattle.cat_eval.proofs.Wanting.{shown_none}
use Rattle.cat_eval.proofs.group.visited_columns.Goals as goal

pub returns : goal.returns
returns c =
    let made = c.in_ok-columns_of in
    let none = shown_none c.args.wanted.now c.args.is_recursive c.args.bodies.now c.args.inputs.now made.field-0.items made.ensures.0 made.ensures.1 in
    (c.in_ok-visit_all.ensures (
      refl,
      refl,
      refl,
      refl,
      c.in_ok-solver_of.ensures,
      none,
      (λ k low high. absurd (omega (arith, high))),
    )).5
