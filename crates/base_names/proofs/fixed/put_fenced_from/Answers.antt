use Rattle.std.proofs.Common.{◌<◌, ◌↔◌, length, IsTrue, arith, inl, inr, rules}
use Rattle.std.proofs.lemmas.Bool.{false≢true}
use Rattle.base_names.specs.Events.{At, IsAccess, IsFence, ProgramOrder}
use Rattle.base_names.proofs.Linked.{at_number, in_order}
use Rattle.base_names.proofs.Linking.{none_added, row_nothing, row_more, row_less}
use Rattle.base_names.proofs.Fences.{is_access, no_access, fence_more, fenced_end}
use Rattle.base_names.proofs.fixed.put_fenced_from.Goals as goal
use Rattle.base_names.proofs.fixed.put_fenced_from.Goals.{then-is_fenced_end, else-is_fenced_end}

pub returns-then-is_none : goal.returns-then-is_none
returns-then-is_none c =
    none_added _ _ c.count-count.ensures.regular (λ a b h. no_access c.args.events.now c.args.from _
    (omega (arith, c.requires)) c.location_of.ensures (search rules) (rw h.0 at h.2.0))

pub loop-to-init : goal.loop-to-init
loop-to-init c = (
  ((λ t. absurd (false≢true t)), (λ h. absurd (omega (arith, h.1)))),
  none_added _ _ c.count-count.ensures.regular (row_nothing _ _),
)

pub loop-to-preserved : goal.loop-to-preserved
loop-to-preserved c =
    let row : c.args.from < length c.args.events.now = omega (arith, c.requires) in
    let column : c.loop-to.to < length c.args.events.now = omega (arith, c.requires, c.loop-to-test, c.count-count.ensures) in
    let order : IsTrue c.is_linked-follows.result ↔ ProgramOrder c.args.events.now c.args.from c.loop-to.to = (
      (λ t. (in_order _ _ _ _ _ row column).0 (c.is_linked-follows.ensures.0 t)),
      (λ p. c.is_linked-follows.ensures.1 ((in_order _ _ _ _ _ row column).1 p)),
    ) in
    let access : At c.args.events.now IsAccess c.args.from = is_access _ _ _ row c.location_of.ensures (search rules) in
    let end = fenced_end _ _ _ _ _ _ c.loop-to.invariant.0 order access in
    let at = at_number c.args.events.now IsAccess c.loop-to.to _ column in
    let met = at_number c.args.events.now (IsFence c.args.kind) c.loop-to.to _ column in (
      fence_more _ _ _ _ _ _ _ c.loop-to.invariant.0 order (
        (λ t. elim (c.meets_fence-is_fenced.ensures.0 t)
            [ inl f ↦ inl f | inr h ↦ inr (h.0, met.1 h.1) ]),
        (λ h. c.meets_fence-is_fenced.ensures.1
            (elim h [ inl f ↦ inl f | inr k ↦ inr (k.0, met.0 k.1) ])),
      ),
      elim c.if-is_fenced_end.branch [
        | then-is_fenced_end w ↦
            let t = c.is_fenced_end.ensures.0 w.if-is_fenced_end.true in
            rw w.target-is (row_more _ _ _ _ c.loop-to.invariant.1 (end.0 (t.0, t.1, at.1 t.2))
            w.insert.ensures)
        | else-is_fenced_end w ↦ rw w.target-is (row_less _ _ _ _ c.loop-to.invariant.1 (λ h.
            let b = end.1 h in
            absurd (false≢true (rw w.if-is_fenced_end.false at
            (c.is_fenced_end.ensures.1 (b.0, b.1, at.0 b.2))))))
      ],
    )
