use Rattle.std.proofs.Common.{arith}
use Rattle.std.proofs.lemmas.List.{take_all}
use Rattle.base_names.proofs.Linking.{none_added, list_more, list_less}
use Rattle.base_names.proofs.fixed.put_pairs.Goals as goal
use Rattle.base_names.proofs.fixed.put_pairs.Goals.{then-from-count+then-to-count, else-from-count, else-from-count-via-then-from-count+else-to-count, else-from-count-via-else-from-count}

pub loop-from-init : goal.loop-from-init
loop-from-init c = none_added _ _ c.count-count.ensures.regular (λ a b h. omega (arith, h.2.1))

pub loop-from-preserved : goal.loop-from-preserved
loop-from-preserved c = elim c.if-from-count.branch [
  | then-from-count+then-to-count w ↦ rw w.target-is (list_more _ _ _ _ c.loop-from-test.true
      c.loop-from.invariant (omega (arith, w.if-from-count, c.count-count.ensures))
      (omega (arith, w.if-to-count, c.count-count.ensures)) w.insert.ensures)
  | else-from-count w ↦ rw w.target-is (elim w.else-from-count.branch [
    | else-from-count-via-then-from-count+else-to-count v ↦ list_less _ _ _ (0, 0)
        c.loop-from-test.true c.loop-from.invariant (λ p q.
        omega (arith, q, v.if-to-count, c.count-count.ensures))
    | else-from-count-via-else-from-count v ↦ list_less _ _ _ (0, 0) c.loop-from-test.true
        c.loop-from.invariant (λ p q. omega (arith, p, v.if-from-count, c.count-count.ensures))
  ])
]

pub returns : goal.returns
returns c =
    rw (take_all c.loop-from.from-index c.args.pairs.now c.loop-from-test.false) at
    c.loop-from.invariant
