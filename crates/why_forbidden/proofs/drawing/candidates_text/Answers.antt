use Rattle.std.proofs.Common.{ℕ, ◌+◌, ◌≤◌, List, [], length, drop, arith, ap, refl, sym, subst}
use Rattle.std.specs.Prelude.{nat_lt}
use Rattle.draw_scene.specs.Drawn.{AreTexts}
use Rattle.why_forbidden.specs.Drawable.{subject_of}
use Rattle.draw_scene.proofs.Texts.{no_texts}
use Rattle.why_forbidden.specs.Drawings.{NoDrawing}
use Rattle.why_forbidden.proofs.Graphing.{AreDrawnBefore, more_drawn, not_drawn, too_many}
use Rattle.why_forbidden.proofs.drawing.candidates_text.Goals as goal
use Rattle.why_forbidden.proofs.drawing.candidates_text.Goals.{then-count-request+in_ok-put_candidate+then-branch, else-count-request, else-count-request-via-then-count-request+in_ok-put_candidate+else-branch, else-count-request-via-else-count-request}

pub loop-candidate-init : goal.loop-candidate-init
loop-candidate-init c =
    let request = c.args.request in
    let space = (subject_of c.args.scene).space in
    let none = no_texts request.format space.locations.items (length space.locations.items) request.skipped in
    let texts = subst (λ (t : List ℕ). AreTexts request.format space.locations.items (length space.locations.items) (drop request.skipped []) t) (sym c.new-text.ensures.items) none in
    ([], NoDrawing, refl, texts)

pub loop-candidate-preserved : goal.loop-candidate-preserved
loop-candidate-preserved c =
    let request = c.args.request in
    let s = subject_of c.args.scene in
    let k = c.loop-candidate.candidate in
    let count = c.loop-candidate.count in
    let old = c.loop-candidate.text.items in
    let Goal : ℕ → List ℕ → Type 0 = λ n t. AreDrawnBefore request s (k + 1) n t in
    elim c.if-count-request.branch [
      | then-count-request+in_ok-put_candidate+then-branch w ↦
          let adds = rw w.if-branch.true at w.in_ok-put_candidate.ensures in
          let more = more_drawn request s k count old w.put_candidate.new.text.items (omega (arith, w.if-count-request.true)) adds c.loop-candidate.invariant in
          subst (λ (t : List ℕ). Goal c.if-count-request.count t) (sym (ap (λ v. v.items) w.text-is))
          (subst (λ (n : ℕ). Goal n w.put_candidate.new.text.items) (sym w.count-is) more)
      | else-count-request w ↦ elim w.else-count-request.branch [
        | else-count-request-via-then-count-request+in_ok-put_candidate+else-branch v ↦
            let adds = rw v.if-branch.false at v.in_ok-put_candidate.ensures in
            let more = not_drawn request (nat_lt count request.skipped) s k count old v.put_candidate.new.text.items adds c.loop-candidate.invariant in
            rw (w.text-is, w.count-is, v.text-is) more
        | else-count-request-via-else-count-request v ↦
            let full : request.most ≤ count = omega (arith, v.if-count-request.false) in
            rw (w.text-is, w.count-is, v.text-is) (too_many request s k count old full
            c.loop-candidate.invariant)
      ]
    ]
