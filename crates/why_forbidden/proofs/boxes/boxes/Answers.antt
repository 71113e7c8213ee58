use Rattle.std.proofs.Common.{◌+◌, ◌∙◌, sym, subst, ap, arith, List, length, ◌<◌}
use Rattle.std.proofs.lemmas.Bool.{false≢true}
use Rattle.bit_rows.specs.Relation.{IsMember}
use Rattle.why_text.specs.declared.event.ToldEvent.{ToldEvent}
use Rattle.why_forbidden.specs.Drawings.{IsBoxed}
use Rattle.why_forbidden.specs.Views.{scene_of}
use Rattle.why_forbidden.proofs.Boxing.{BoxesBelow, one_boxed, one_left, all_boxed, boxed_within}
use Rattle.why_forbidden.proofs.boxes.boxes.Goals as goal
use Rattle.why_forbidden.proofs.boxes.boxes.Goals.{then-is_boxed+in_ok-push, else-is_boxed}

pub loop-number-preserved : goal.loop-number-preserved
loop-number-preserved c =
    let scene = scene_of c.args.told in
    let i = c.loop-number.number in
    let P = IsBoxed scene.events (IsMember c.args.drawn.now) c.args.thread in
    let Goal : List ToldEvent → Type 0 = λ bs. BoxesBelow scene P (i + 1) bs in
    elim c.if-is_boxed.branch [
      | then-is_boxed+in_ok-push w ↦
          subst Goal (sym (ap (λ v. v.items) w.boxes-is ∙ w.in_ok-push.ensures.items))
          (one_boxed scene P i c.loop-number.boxes.items w.boxed.result
          (c.is_boxed.ensures.0 w.if-is_boxed.true) w.boxed.ensures.number
          w.boxed.ensures.event w.boxed.ensures.instruction c.loop-number.invariant)
      | else-is_boxed w ↦
          subst Goal (sym (ap (λ v. v.items) w.boxes-is))
          (one_left scene P i c.loop-number.boxes.items
          (λ h. false≢true (sym w.if-is_boxed.false ∙ c.is_boxed.ensures.1 h))
          c.loop-number.invariant)
    ]

pub returns : goal.returns
returns c =
    let events = c.args.told.events.now in
    let D = IsMember c.args.drawn.now in
    let inside = boxed_within events D c.args.thread in
    all_boxed (scene_of c.args.told) (IsBoxed events D c.args.thread) c.loop-number.number
    c.loop-number.boxes.items
    (λ n h.
    let lt : n < length events = inside n h in
    omega (arith, lt, c.loop-number-test.false, c.loop-number.auto.number-end))
    c.loop-number.invariant
