use Rattle.std.proofs.Common.{refl, arith}
use Rattle.std.proofs.lemmas.List.{ext_get_or}
use Rattle.bit_rows.specs.Relation.{no_slot}
use Rattle.relation_columns.proofs.relations.RunColumn.is_same.Goals as goal

pub returns : goal.returns
returns c =
    let same = c.runs.invariant.1 in (
      (λ t. ext_get_or no_slot c.args.self.now c.args.other.now
          (omega (arith, c.if-count-len.false, c.len-count.ensures, c.len.ensures))
          (λ k lt. same k (omega (arith, lt, c.runs-test.false, c.len-count.ensures)))),
      (λ e. refl),
    )
