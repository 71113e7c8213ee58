use Rattle.std.proofs.Common.{◌≡◌, ◌-◌, ◌++◌, ◌∙◌, length, append-nil, refl, sym, arith}
use Rattle.cat_machine.specs.Seen.{seen_run}
use Rattle.cat_machine.specs.Values.{column_len}
use Rattle.cat_eval.proofs.Bodies.{body_moved, body_next}
use Rattle.cat_eval.proofs.body_run.BodyRunRunVisit.visit_run.Goals as goal

pub runs-init : goal.runs-init
runs-init c = record {
  body = refl;
  inputs = refl;
  more = omega arith;
  within = omega arith;
  at = λ bases given.
      let none : column_len c.args.self.now.column - column_len c.args.self.now.column ≡ 0 = omega arith in
      rw (none, append-nil bases) given;
}

pub runs-preserved : goal.runs-preserved
runs-preserved c =
    let named = c.args.named.now in
    let first = c.args.self.now in
    let mid = c.runs.self in
    let new = c.take_run.new.self in
    let inv = c.runs.invariant in
    let fixed = c.take_run.ensures.fixed in
    let longer = c.in_ok-take_run.ensures.longer in
    record {
      body = fixed.0 ∙ inv.body;
      inputs = fixed.1 ∙ inv.inputs;
      more = omega (arith, inv.more, longer.0);
      within = longer.1;
      at = λ bases given.
          let a = column_len mid.column - column_len first.column in
          let b = column_len new.column - column_len mid.column in
          let before = body_moved named first.body mid.body first.inputs mid.inputs (bases ++ seen_run named (length bases) c.args.count a) mid (sym inv.body) (sym inv.inputs) (inv.at bases given) in
          let next = body_moved named mid.body first.body mid.inputs first.inputs _ new inv.body inv.inputs (c.in_ok-take_run.ensures.at (bases ++ seen_run named (length bases) c.args.count a) before) in
          body_next named first.body.now first.inputs.now bases new c.args.count a b
          (column_len new.column - column_len first.column) (omega (arith, inv.more, longer.0))
          next;
    }

pub returns : goal.returns
returns c = λ first bases given.
    let named = c.args.named.now in
    let start = c.args.self.now in
    let now = c.runs.self in
    let inv = c.runs.invariant in
    let many : column_len now.column - column_len start.column ≡ c.args.many = omega (arith, inv.within, inv.more, c.runs-test.false) in
    let before = body_moved named first.body start.body first.inputs start.inputs bases start (sym given.0) (sym given.1) given.2 in
    let after = rw many at (inv.at bases before) in (
      inv.body ∙ given.0,
      inv.inputs ∙ given.1,
      body_moved named start.body first.body start.inputs first.inputs
          (bases ++ seen_run named (length bases) c.args.count c.args.many) now given.0
          given.1 after,
    )
