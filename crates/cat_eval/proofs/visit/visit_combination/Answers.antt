use Rattle.std.proofs.Common.{◌≡◌, ◌+◌, ◌*◌, ◌++◌, length, length-append, append_assoc, append-nil, sym, arith}
use Rattle.cat_machine.specs.Seen.{seen_run}
use Rattle.cat_machine.proofs.Seeing.{run_long, run_more}
use Rattle.cat_eval.proofs.visit.visit_combination.Goals as goal

pub loop-at-init : goal.loop-at-init
loop-at-init g c = λ first bases at given.
    let none : 0 * c.len-many.result ≡ 0 = omega arith in
    rw (none, append-nil bases) (at, given)

pub loop-at-preserved : goal.loop-at-preserved
loop-at-preserved g c = λ first bases at given.
    let named = c.args.named.now in
    let count = c.len-count.result in
    let many = c.len-many.result in
    let done = c.loop-at._at * many in
    let run = seen_run named (length bases) count done in
    let before = c.loop-at.invariant first bases at given in
    let next = c.in_ok-visit_run.ensures first (bases ++ run) before.0 before.1 in
    let long : length (bases ++ run) ≡ length bases + done = omega (arith, length-append bases run, run_long named (length bases) count done) in
    let more : (c.loop-at._at + 1) * many ≡ done + many = grind arith in
    let grown : bases ++ seen_run named (length bases) count ((c.loop-at._at + 1) * many) ≡ (bases ++ run) ++ seen_run named (length (bases ++ run)) count many =
    rw (more, run_more named (length bases) count done many, long)
    (sym (append_assoc bases run (seen_run named (length bases + done) count many))) in
    rw grown next
