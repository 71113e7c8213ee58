use Rattle.std.proofs.Common.{arith}
use Rattle.bit_rows.proofs.Columns.{taken_apart, put_together, made_relation}
use Rattle.bit_relations.proofs.Making.{added_low, added_high}
use Rattle.bit_relations.proofs.rel.Rel.insert.Goals as goal

pub invariant_of-self : goal.invariant_of-self
invariant_of-self c =
    put_together (added_low _ _ (taken_apart _ _ _ c.self.invariant)
    (rw (← c.self.view_is) at c.requires.from) (rw (← c.self.view_is) at c.requires.to)
    c.if-to-lt64.true c.set_bit.ensures.height c.set_bit.ensures.fits
    c.set_bit.ensures.bits)

pub invariant_of-self-else-to-lt64 : goal.invariant_of-self-else-to-lt64
invariant_of-self-else-to-lt64 c =
    put_together (added_high _ _ _ (taken_apart _ _ _ c.self.invariant)
    (rw (← c.self.view_is) at c.requires.from) (rw (← c.self.view_is) at c.requires.to)
    c.if-to-lt64.false (omega (arith, c.if-to-lt64.false))
    c.set_bit-else-to-lt64.ensures.height c.set_bit-else-to-lt64.ensures.fits
    c.set_bit-else-to-lt64.ensures.bits)

pub returns-then-to-lt64 : goal.returns-then-to-lt64
returns-then-to-lt64 c =
    rw (← c.self.view_is) (made_relation (added_low _ _ (taken_apart _ _ _ c.self.invariant)
    (rw (← c.self.view_is) at c.requires.from) (rw (← c.self.view_is) at c.requires.to)
    c.if-to-lt64.true c.set_bit.ensures.height c.set_bit.ensures.fits
    c.set_bit.ensures.bits))

pub returns-else-to-lt64 : goal.returns-else-to-lt64
returns-else-to-lt64 c =
    rw (← c.self.view_is) (made_relation (added_high _ _ _ (taken_apart _ _ _ c.self.invariant)
    (rw (← c.self.view_is) at c.requires.from) (rw (← c.self.view_is) at c.requires.to)
    c.if-to-lt64.false (omega (arith, c.if-to-lt64.false))
    c.set_bit-else-to-lt64.ensures.height c.set_bit-else-to-lt64.ensures.fits
    c.set_bit-else-to-lt64.ensures.bits))
