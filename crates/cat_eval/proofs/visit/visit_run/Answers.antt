use Rattle.std.proofs.Common.{◌≡◌, ◌+◌, ◌++◌, ◌∷◌, [], length, length-append, append_assoc, append-nil, sym, arith}
use Rattle.cat_machine.specs.Seen.{values_seen, seen_run}
use Rattle.cat_machine.proofs.Seeing.{run_long, run_step}
use Rattle.cat_eval.proofs.visit.visit_run.Goals as goal

pub loop-at-init : goal.loop-at-init
loop-at-init g c = λ first bases at given. rw (append-nil bases) (at, given)

pub loop-at-preserved : goal.loop-at-preserved
loop-at-preserved g c = λ first bases at given.
    let named = c.args.named.now in
    let count = c.args.count in
    let done = c.loop-at._at in
    let run = seen_run named (length bases) count done in
    let before = c.loop-at.invariant first bases at given in
    let next = c.in_ok-visit_next.ensures first (bases ++ run) before.0 before.1 in
    let long : length (bases ++ run) ≡ length bases + done = omega (arith, length-append bases run, run_long named (length bases) count done) in
    let grown : bases ++ seen_run named (length bases) count (done + 1) ≡ (bases ++ run) ++ values_seen named (length (bases ++ run)) count ∷ [] =
    rw (run_step named (length bases) count done, long)
    (sym (append_assoc bases run (values_seen named (length bases + done) count ∷ []))) in
    rw grown next
