use Rattle.std.proofs.Common.{◌<◌, ◌∙◌, inl, inr, length, arith}
use Rattle.std.proofs.lemmas.Bool.{cases_eq}
use Rattle.std.proofs.lemmas.List.{get_or_read}
use Rattle.bit_rows.specs.Relation.{no_slot}
use Rattle.cat_eval.proofs.group.put_all.Goals as goal

pub loop-position-preserved : goal.loop-position-preserved
loop-position-preserved c =
    let at = c.loop-position.position in
    let before = c.loop-position.invariant in (
      c.put.ensures.long ∙ before.0,
      (λ j less inside col. elim (cases_eq j at) [
        | inl same ↦
            let room : at < length c.loop-position.columns.items = omega (arith, before.0, inside, same) in
            let adds = c.in_ok-put.ensures.added room col in
            let value = get_or_read c.args.values.now at c.index-values-position.result c.loop-position-test.true c.index-values-position.is no_slot in
            rw same (c.empty-none.result, rw (before.2 at (omega arith) col, value) at adds)
        | inr other ↦
            let (s, adds) = before.1 j (omega (arith, less, other)) inside col in
            (s, rw (c.put.ensures.others j other col) adds)
      ]),
      (λ j ge col. c.put.ensures.others j (λ e. omega (arith, e, ge)) col
          ∙ before.2 j (omega (arith, ge)) col),
    )
