use Rattle.std.proofs.Common.{arith}
use Rattle.std.proofs.lemmas.Bool.{false≢true}
use Rattle.base_names.proofs.Growing.{next_load, no_load, reads_step, reads_skip}
use Rattle.base_names.proofs.changing.write_reads.Goals as goal
use Rattle.base_names.proofs.changing.write_reads.Goals.{then-is_read, else-is_read}

pub loop-load-preserved : goal.loop-load-preserved
loop-load-preserved c = elim c.if-is_read.branch [
  | then-is_read w ↦
      let read = c.is_read.ensures.0 w.if-is_read.true in
      rw (w.target-is, w.next-is) (
        omega (arith, c.loop-load.invariant.0, next_load _ _ _ c.loop-load-test.true read),
        omega (arith, c.loop-load.invariant.1),
        reads_step _ _ _ _ _ c.loop-load-test.true read c.loop-load.invariant.0
            c.loop-load.invariant.2 w.put_source.ensures,
      )
  | else-is_read w ↦
      rw (w.target-is, w.next-is) (
        omega (
          arith,
          c.loop-load.invariant.0,
          no_load _ _ _ c.loop-load-test.true (λ r.
              absurd (false≢true (rw w.if-is_read.false at (c.is_read.ensures.1 r)))),
        ),
        omega (arith, c.loop-load.invariant.1),
        reads_skip _ _ _ _ c.loop-load-test.true
            (λ r. absurd (false≢true (rw w.if-is_read.false at (c.is_read.ensures.1 r))))
            c.loop-load.invariant.2,
      )
]
