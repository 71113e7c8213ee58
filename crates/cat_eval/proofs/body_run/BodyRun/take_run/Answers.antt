use Rattle.std.proofs.Common.{◌≡◌, ◌≤◌, ◌+◌, ◌-◌, ◌∙◌, length, refl, ap, arith}
use Rattle.cat_machine.specs.Values.{column_len}
use Rattle.cat_eval.proofs.Bodies.{adds_run_long, top_is, body_taken}
use Rattle.cat_eval.proofs.body_run.BodyRun.take_run.Goals as goal

pub returns-clause-longer : goal.returns-clause-longer
returns-clause-longer c =
    let mid = c.evaluate.new.self in
    let grown = adds_run_long mid.column c.push_run.new.self _ _ _ c.in_ok-push_run.ensures in
    let same : column_len mid.column ≡ column_len c.args.self.now.column = ap column_len c.evaluate.ensures.fixed.2 in (
      omega (
        arith,
        grown,
        same,
        c.len-candidate.ensures,
        c.max-end.ensures,
        c.min.ensures,
        c.requires.more,
      ),
      omega (
        arith,
        grown,
        same,
        c.len-candidate.ensures,
        c.max-end.ensures,
        c.min.ensures,
        c.requires.more,
      ),
    )

pub returns-clause-at : goal.returns-clause-at
returns-clause-at c = λ bases given.
    let run = c.args.self.now in
    let mid = c.evaluate.new.self in
    let candidate = c.len-candidate.result in
    let here : candidate ≡ length bases = c.len-candidate.ensures ∙ given.column.long in
    let (before, count, after) = c.evaluate.ensures.at bases here given in
    let grown = adds_run_long mid.column c.push_run.new.self _ _ _ c.in_ok-push_run.ensures in
    let same : column_len mid.column ≡ column_len run.column = ap column_len c.evaluate.ensures.fixed.2 in
    let more : column_len c.push_run.new.self - column_len run.column ≡ c.max-end.result - column_len mid.column = omega (arith, grown, same) in
    let within : length bases + (c.max-end.result - column_len mid.column) ≤ mid.until = omega (arith, here, same, c.len-candidate.ensures, c.max-end.ensures, c.min.ensures, c.requires.more, after) in
    rw more (body_taken c.args.named.now run.body.now run.inputs.now bases c.args.count
    (c.max-end.result - column_len mid.column) c.set.result c.relation.result.now mid _ before
    count within refl refl
    (top_is run.body.now.code.steps.items mid.keeper c.set.result c.relation.result.now before.ready
    c.set.ensures c.relation.ensures) c.in_ok-push_run.ensures)
