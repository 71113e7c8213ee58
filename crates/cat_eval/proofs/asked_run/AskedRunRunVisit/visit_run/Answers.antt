use Rattle.std.proofs.Common.{◌≡◌, ◌+◌, ◌++◌, ◌∷◌, ◌∙◌, [], length, length-append, append_assoc, append-nil, refl, sym, arith}
use Rattle.cat_machine.specs.Seen.{values_seen, seen_run}
use Rattle.cat_eval.proofs.Asking.{asked_renamed}
use Rattle.cat_machine.proofs.Seeing.{run_long, run_step}
use Rattle.cat_eval.proofs.asked_run.AskedRunRunVisit.visit_run.Goals as goal

pub loop-at-init : goal.loop-at-init
loop-at-init c =
    record {
      check = refl;
      inputs = refl;
      kept = refl;
      at = λ bases given. rw (append-nil bases) given;
    }

pub loop-at-preserved : goal.loop-at-preserved
loop-at-preserved c =
    let named = c.args.named.now in
    let count = c.args.count in
    let first = c.args.self.now in
    let mid = c.loop-at.self in
    let new = c.take.new.self in
    let done = c.loop-at._at in
    let inv = c.loop-at.invariant in
    let fixed = c.take.ensures.fixed in
    record {
      check = fixed.0 ∙ inv.check;
      inputs = fixed.1 ∙ inv.inputs;
      kept = fixed.2 ∙ inv.kept;
      at = λ bases given.
          let run = seen_run named (length bases) count done in
          let before = asked_renamed named first.check mid.check first.inputs mid.inputs first.kept mid.kept (bases ++ run) mid (sym inv.check) (sym inv.inputs) (sym inv.kept) (inv.at bases given) in
          let next = asked_renamed named mid.check first.check mid.inputs first.inputs mid.kept first.kept _ new inv.check inv.inputs inv.kept (c.in_ok-take.ensures.at (bases ++ run) before) in
          let long : length (bases ++ run) ≡ length bases + done = omega (arith, length-append bases run, run_long named (length bases) count done) in
          let grown : bases ++ seen_run named (length bases) count (done + 1) ≡ (bases ++ run) ++ values_seen named (length (bases ++ run)) count ∷ [] =
          rw (run_step named (length bases) count done, long)
          (sym (append_assoc bases run (values_seen named (length bases + done) count ∷ []))) in
          rw grown next;
    }

pub returns : goal.returns
returns c = λ first bases given.
    let start = c.args.self.now in
    let now = c.loop-at.self in
    let inv = c.loop-at.invariant in
    let all : c.loop-at._at ≡ c.args.many = omega (arith, c.loop-at-test.false, c.loop-at.auto._at-end) in
    let before = asked_renamed c.args.named.now first.check start.check first.inputs start.inputs first.kept start.kept bases start (sym given.0) (sym given.1) (sym given.2) given.3 in
    let after = rw all at (inv.at bases before) in (
      inv.check ∙ given.0,
      inv.inputs ∙ given.1,
      inv.kept ∙ given.2,
      asked_renamed c.args.named.now start.check first.check start.inputs first.inputs
          start.kept first.kept _ now given.0 given.1 given.2 after,
    )
