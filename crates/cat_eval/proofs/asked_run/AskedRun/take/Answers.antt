use Rattle.std.proofs.Common.{◌≡◌, ◌∙◌, length, refl, ap, arith}
use Rattle.std.specs.Prelude.{Vec, Bool}
use Rattle.std.specs.declared.alloc.Global.{Global}
use Rattle.cat_eval.proofs.Asking.{asked_many, asked_taken}
use Rattle.cat_eval.proofs.asked_run.AskedRun.take.Goals as goal

pub returns-clause-at : goal.returns-clause-at
returns-clause-at c = λ bases given.
    let run = c.args.self.now in
    let mid = c.evaluate_asked.new.self in
    let candidate = c.len-candidate.result in
    let many : length run.answers.items ≡ length bases = asked_many run.check.now run.inputs.now run.kept bases run.answers.items given.answers in
    let same : length mid.answers.items ≡ length run.answers.items = ap (λ (v : Vec Bool Global). length v.items) c.evaluate_asked.ensures.fixed.3 in
    let long : candidate ≡ length mid.answers.items = omega (arith, c.len-candidate.ensures, run.answers.ok.0, same) in
    let here : candidate ≡ length bases = long ∙ same ∙ many in
    let (before, evaluated) = c.evaluate_asked.ensures.at bases here given in
    asked_taken c.args.named.now run.check.now run.inputs.now run.kept bases mid _ c.args.count
    c.is_asked_at-asked.result c.is_held.result before (same ∙ many)
    (rw (← long) c.is_asked_at-asked.ensures)
    (λ so. let (of, lt) = evaluated so in (of, rw (← here) lt)) c.is_held.ensures refl refl refl
    c.in_ok-push.ensures.items
