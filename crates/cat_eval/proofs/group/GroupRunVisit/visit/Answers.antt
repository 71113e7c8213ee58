use Rattle.std.proofs.Common.{◌∙◌, ◌++◌, ◌∷◌, [], length, refl, sym}
use Rattle.cat_eval.proofs.Columns.{own_moved, own_long, own_none}
use Rattle.cat_eval.proofs.Repeating.{group_steady, steady_moved}
use Rattle.cat_eval.proofs.Wanting.{evaluated_shown, solved_shown, repeated_shown, shown_moved}
use Rattle.cat_eval.proofs.group.GroupRunVisit.visit.Goals as goal

pub returns-in_ok-solve : goal.returns-in_ok-solve
returns-in_ok-solve c = λ first bases number ends given.
    let run = c.args.self.now in
    let new = c.solve.new.self in
    let fixed = c.solve.ensures.fixed in
    let columns = shown_moved first.recursive run.recursive first.bodies run.bodies first.inputs run.inputs first.wanted run.wanted (sym given.2) (sym given.0) (sym given.1) (sym given.3) bases run.columns.items given.5 in
    let own = own_moved first.recursive run.recursive first.bodies run.bodies (sym given.2) (sym given.0) run.solver.own.items given.4 in
    let now = solved_shown run.wanted.now run.bodies.now run.inputs.now bases c.args.base.now run.columns.items new.columns.items c.args.candidate c.solve.ensures.long number
    run.recursive run.solver.own.items new.solver.own.items c.if-self.true own columns
    c.in_ok-solve.ensures.added c.in_ok-solve.ensures.least in (
      fixed.0 ∙ given.0,
      fixed.1 ∙ given.1,
      fixed.2 ∙ given.2,
      fixed.5 ∙ given.3,
      own_moved run.recursive first.recursive run.bodies first.bodies given.2 given.0
          new.solver.own.items (own_long run.recursive run.bodies.now run.solver.own.items
          new.solver.own.items c.if-self.true fixed.3 own),
      shown_moved run.recursive first.recursive run.bodies first.bodies run.inputs first.inputs
          run.wanted first.wanted given.2 given.0 given.1 given.3 (bases ++ c.args.base.now ∷ [])
          new.columns.items now,
      group_steady run.inputs first.inputs given.1 bases c.args.base.now c.args.candidate run.steady
          c.steady_after-self.result new.steady number fixed.4 c.steady_after-self.ensures given.6,
    )

pub returns-in_ok-evaluate_each : goal.returns-in_ok-evaluate_each
returns-in_ok-evaluate_each c = λ first bases number ends given.
    let run = c.args.self.now in
    let new = c.evaluate_each.new.self in
    let fixed = c.evaluate_each.ensures.fixed in
    let columns = shown_moved first.recursive run.recursive first.bodies run.bodies first.inputs run.inputs first.wanted run.wanted (sym given.2) (sym given.0) (sym given.1) (sym given.3) bases run.columns.items given.5 in
    let none = own_none run.recursive run.bodies.now run.solver.own.items c.if-self.false (own_moved first.recursive run.recursive first.bodies run.bodies (sym given.2) (sym given.0) run.solver.own.items given.4) in
    let now = evaluated_shown run.wanted.now run.bodies.now run.inputs.now bases c.args.base.now run.columns.items new.columns.items c.args.candidate c.evaluate_each.ensures.long number
    run.recursive c.if-self.false columns (c.in_ok-evaluate_each.ensures.added none) in (
      fixed.0 ∙ given.0,
      fixed.1 ∙ given.1,
      fixed.2 ∙ given.2,
      fixed.5 ∙ given.3,
      rw fixed.3 given.4,
      shown_moved run.recursive first.recursive run.bodies first.bodies run.inputs first.inputs
          run.wanted first.wanted given.2 given.0 given.1 given.3 (bases ++ c.args.base.now ∷ [])
          new.columns.items now,
      group_steady run.inputs first.inputs given.1 bases c.args.base.now c.args.candidate run.steady
          c.steady_after-self.result new.steady number fixed.4 c.steady_after-self.ensures given.6,
    )

pub returns-then-same : goal.returns-then-same
returns-then-same c = λ first bases number ends given.
    let run = c.args.self.now in
    let base = c.args.base.now in
    let as_before = c.is_as_before-same.ensures c.if-same.true in
    let columns = shown_moved first.recursive run.recursive first.bodies run.bodies first.inputs run.inputs first.wanted run.wanted (sym given.2) (sym given.0) (sym given.1) (sym given.3) bases run.columns.items given.5 in
    let held = steady_moved first.inputs run.inputs (sym given.1) (length bases) run.steady given.6 in
    let now = repeated_shown run.wanted.now run.recursive run.bodies.now run.inputs.now bases base run.columns.items c.repeat_all.new.columns.items c.args.candidate run.steady (ends as_before.0) columns number held as_before.1 c.repeat_all.ensures.long c.in_ok-repeat_all.ensures.repeated in (
      given.0,
      given.1,
      given.2,
      given.3,
      given.4,
      shown_moved run.recursive first.recursive run.bodies first.bodies run.inputs first.inputs
          run.wanted first.wanted given.2 given.0 given.1 given.3 (bases ++ base ∷ [])
          c.repeat_all.new.columns.items now,
      group_steady run.inputs first.inputs given.1 bases base c.args.candidate run.steady
          c.steady_after-self.result c.steady_after-self.result number refl
          c.steady_after-self.ensures given.6,
    )
