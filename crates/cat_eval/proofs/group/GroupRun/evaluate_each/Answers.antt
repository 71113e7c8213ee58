use Rattle.std.proofs.Common.{◌≡◌, ◌<◌, ◌∙◌, inl, inr, [], List, Bool, ap, subst, length, get_or, arith}
use Rattle.std.proofs.lemmas.Bool.{cases_eq}
use denote.Ref.{Bor}
use Rattle.binding_graph.specs.declared.resolved.Body.{Body}
use Rattle.cat_machine.specs.declared.column.Column.{Column}
use Rattle.cat_eval.specs.OverNames.{IsMeaningOver}
use Rattle.cat_eval.specs.Wanted.{is_wanted, AddsIf}
use Rattle.cat_eval.proofs.group.GroupRun.evaluate_each.Goals as goal

pub loop-position-preserved : goal.loop-position-preserved
loop-position-preserved c =
    let at = c.loop-position.position in
    let before = c.loop-position.invariant in
    let fixed = c.evaluate_one.ensures.fixed in
    let others = c.evaluate_one.ensures.others in
    let run = c.loop-position.self in
    let base = c.args.base.now in
    let k = c.args.candidate in (
      fixed.0 ∙ before.0,
      fixed.1 ∙ before.1,
      fixed.2 ∙ before.2,
      fixed.3 ∙ before.3,
      c.evaluate_one.ensures.long ∙ before.4,
      (λ j ge col. others j (λ e. omega (arith, e, ge)) col ∙ before.5 j (omega (arith, ge)) col),
      (λ none j less inside col. elim (cases_eq j at) [
        | inl same ↦
            let empty : run.solver.own.items ≡ [] = ap (λ v. v.items) before.3 ∙ none in
            let room : at < length run.columns.items = omega (arith, before.4, inside, same) in
            let (s, r, adds, meant) = c.in_ok-evaluate_one.ensures.added empty room col in
            rw same (
              s,
              r,
              subst
                  (λ (x : Bor (List Bool)). AddsIf (is_wanted x.now at)
                  (get_or c.args.self.now.columns.items at col)
                  (get_or c.evaluate_one.new.self.columns.items at col) s r) before.8
                  (rw (before.5 at (omega arith) col) at adds),
              (λ b.
                  subst
                  (λ (x : Bor (List Body)). IsMeaningOver (get_or x.now at b).code.kind
                  (get_or x.now at b).code.steps.items c.args.self.now.inputs.now base k s
                  r) before.0
                  (subst
                  (λ (y : Bor (List (Bor Column))). IsMeaningOver
                  (get_or run.bodies.now at b).code.kind
                  (get_or run.bodies.now at b).code.steps.items y.now base k s r)
                  before.1
                  (meant b))),
            )
        | inr other ↦
            let (s, r, adds, meant) = before.6 none j (omega (arith, less, other)) inside col in
            (s, r, rw (others j other col) adds, meant)
      ]),
      fixed.4 ∙ before.7,
      fixed.5 ∙ before.8,
    )

pub returns-clause-added : goal.returns-clause-added
returns-clause-added c =
    λ none j lt less col.
    c.loop-position.invariant.6 none j (omega (arith, lt, c.loop-position-test.false)) less col
