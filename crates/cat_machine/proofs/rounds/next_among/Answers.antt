use Rattle.std.proofs.Common.{arith, IsTrue}
use Rattle.cat_machine.proofs.Among.{among_none, next_used, next_unused}
use Rattle.cat_machine.proofs.rounds.next_among.Goals as goal
use Rattle.cat_machine.proofs.rounds.next_among.Goals.{then-uses_any, else-uses_any}

pub loop-position-init : goal.loop-position-init
loop-position-init c = λ k. ((λ h. absurd (among_none k h)), (λ h. absurd (omega (arith, h.1))))

pub loop-position-preserved : goal.loop-position-preserved
loop-position-preserved c = elim c.if-uses_any.branch [
  | then-uses_any w ↦
      rw w.names-is (next_used _ _ _ _ _ _ c.loop-position-test.true c.index-bodies-position.is
      (rw (c.deref.ensures.value, ← c.index-bodies-position.is) at
      (c.uses_any.ensures.0 w.if-uses_any.true)) w.with_name-names.ensures
      c.loop-position.invariant)
  | else-uses_any w ↦
      rw w.names-is (next_unused _ _ _ _ _ c.loop-position-test.true c.index-bodies-position.is
      (λ uses.
      let t : IsTrue c.uses_any.result =
      c.uses_any.ensures.1 (rw (c.deref.ensures.value, ← c.index-bodies-position.is)
      uses) in
      cc) c.loop-position.invariant)
]

pub returns : goal.returns
returns c = λ k. (
  (λ h. let was = (c.loop-position.invariant k).0 h in (was.0, was.2, was.3)),
  (λ near. (c.loop-position.invariant k).1 (
    near.0,
    omega (arith, near.2.1, c.loop-position-test.false),
    near.1,
    near.2,
  )),
)
