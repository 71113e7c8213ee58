use Rattle.std.proofs.Common.{arith, refl}
use Rattle.bit_rows.proofs.Columns.{taken_apart, put_together}
use Rattle.bit_relations.proofs.Making.{copied}
use Rattle.bit_relations.proofs.Asking.{same_pairs}
use Rattle.bit_relations.proofs.rel.Rel.copy_from.Goals as goal

pub invariant_of-self : goal.invariant_of-self
invariant_of-self c =
    let s = taken_apart _ _ _ c.other.invariant in
    put_together (copied
    (omega (arith, c.max-most.ensures, c.self.invariant.few, c.other.invariant.few))
    (taken_apart _ _ _ c.self.invariant) (taken_apart _ _ _ c.other.invariant)
    (omega (arith, c.max-most.ensures)) (omega (arith, c.max-most.ensures))
    (record {
      few = c.end_of_high.ensures.few;
      none = c.end_of_high.ensures.none;
      all = c.end_of_high.ensures.all;
    })
    (c.copy.ensures s.low.fits)
    (c.copy-2.ensures s.high.fits))

pub returns : goal.returns
returns c =
    let s = taken_apart _ _ _ c.other.invariant in
    rw (← c.other.view_is) (same_pairs
    (copied (omega (arith, c.max-most.ensures, c.self.invariant.few, c.other.invariant.few))
    (taken_apart _ _ _ c.self.invariant) (taken_apart _ _ _ c.other.invariant)
    (omega (arith, c.max-most.ensures)) (omega (arith, c.max-most.ensures))
    (record {
      few = c.end_of_high.ensures.few;
      none = c.end_of_high.ensures.none;
      all = c.end_of_high.ensures.all;
    })
    (c.copy.ensures s.low.fits)
    (c.copy-2.ensures s.high.fits)) s refl)
