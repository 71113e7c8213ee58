use Rattle.std.proofs.Common.{length, refl, arith, ◌<◌, ◌+◌, ◌∙◌, inl, inr}
use Rattle.candidate_spaces.proofs.Comparing.{next_in_row, next_row, passed, shows_next}
use Rattle.candidate_spaces.proofs.same.Candidates.next.Goals as goal
use Rattle.candidate_spaces.proofs.same.Candidates.next.Goals.{then-self-len-3, else-self-len-3, else-self-len-via-then-self-len+else-self-len-2, else-self-len-via-else-self-len}

pub returns-then-self-len-2 : goal.returns-then-self-len-2
returns-then-self-len-2 c =
    let li : c.loop-combination.self.source < length c.in-Some.combination.now.reads_from.items = omega (arith, c.if-self-len.true, c.len.ensures, c.in-Some.combination.now.reads_from.ok.0) in
    let lj : c.loop-combination.self.order < length c.in-Some.combination.now.orders = omega (arith, c.if-self-len-2.true, c.len-then-self-len.ensures) in
    c.loop-combination.invariant
    ∙ elim c.if-self-len-3.branch [
      | then-self-len-3 b ↦
          next_row c.loop-combination.self.combinations.now c.in-Some.combination.now
          c.loop-combination.self.source c.loop-combination.self.order c.index.result.now
          c.order.result.now c.in-Some.ensures.value li lj c.index.ensures c.order.ensures
          (c.loop-combination.self.source + 1) refl (omega
          (arith, b.if-self-len-3.true, c.len-then-self-len-2.ensures))
          ∙ shows_next c.in-Some.combination.now c.index.result.now.items c.order.result.now
          c.deref.result.now c.order.result.now _ c.if-self-len-3.self c.deref.ensures.value
          refl b.self-is
      | else-self-len-3 b ↦
          next_in_row c.loop-combination.self.combinations.now c.in-Some.combination.now
          c.loop-combination.self.source c.loop-combination.self.order c.index.result.now
          c.order.result.now c.in-Some.ensures.value li lj c.index.ensures c.order.ensures
          (c.loop-combination.self.order + 1) refl (λ e.
          b.if-self-len-3.false (omega (arith, e, c.len-then-self-len-2.ensures)))
          ∙ shows_next c.in-Some.combination.now c.index.result.now.items c.order.result.now
          c.deref.result.now c.order.result.now _ c.if-self-len-3.self c.deref.ensures.value
          refl b.self-is
    ]

pub loop-combination-preserved : goal.loop-combination-preserved
loop-combination-preserved c =
    c.loop-combination.invariant
    ∙ elim c.else-self-len.branch [
      | else-self-len-via-then-self-len+else-self-len-2 w ↦ passed
          c.loop-combination.self.combinations.now c.in-Some.combination.now
          c.loop-combination.self.source c.loop-combination.self.order c.in-Some.ensures.value
          (inr (omega (arith, w.if-self-len-2.false, w.len-then-self-len.ensures)))
      | else-self-len-via-else-self-len w ↦ passed c.loop-combination.self.combinations.now
          c.in-Some.combination.now c.loop-combination.self.source c.loop-combination.self.order
          c.in-Some.ensures.value (inl (omega (
            arith,
            w.if-self-len.false,
            c.len.ensures,
            c.in-Some.combination.now.reads_from.ok.0,
          )))
    ]
