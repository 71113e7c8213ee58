use Rattle.std.proofs.Common.{◌<◌, ◌∙◌, inl, inr, length, arith}
use Rattle.std.proofs.lemmas.Bool.{cases_eq}
use Rattle.cat_eval.proofs.group.repeat_all.Goals as goal

pub loop-position-preserved : goal.loop-position-preserved
loop-position-preserved c =
    let at = c.loop-position.position in
    let before = c.loop-position.invariant in (
      c.repeat.ensures.long ∙ before.0,
      (λ j less inside col. elim (cases_eq j at) [
        | inl same ↦
            let room : at < length c.loop-position.columns.items = omega (arith, before.0, inside, same) in
            rw same (rw (before.2 at (omega arith) col) at
            (c.in_ok-repeat.ensures.repeated room col))
        | inr other ↦ rw (c.repeat.ensures.others j other col)
            (before.1 j (omega (arith, less, other)) inside col)
      ]),
      (λ j ge col. c.repeat.ensures.others j (λ e. omega (arith, e, ge)) col
          ∙ before.2 j (omega (arith, ge)) col),
    )
