use Rattle.std.proofs.Common.{◌≡◌, ◌++◌, ◌∷◌, ◌∙◌, [], List, Bool, length, length-append, inl, inr, sym, ap, subst}
use Rattle.std.specs.Prelude.{Some}
use denote.Ref.{Bor}
use Rattle.cat_machine.specs.declared.column.Column.{Column}
use Rattle.cat_eval.specs.Kept.{AreAskedOver, IsLastAnswer}
use Rattle.cat_eval.specs.OverNames.{IsAnswerOver}
use Rattle.cat_machine.specs.Steady.{IsSteady}
use Rattle.cat_eval.proofs.Asked.{asked_more, answer_before, last_now, asked_moved, last_moved}
use Rattle.cat_eval.proofs.Repeating.{steady_more}
use Rattle.cat_eval.proofs.check.CheckRunVisit.visit.Goals as goal

pub returns : goal.returns
returns c = λ first bases many ends given.
    let run = c.args.self.now in
    let base = c.args.base.now in
    let check = run.check.now in
    let inputs = run.inputs.now in
    let answers = run.answers.items in
    let n = c.args.candidate in
    let known = c.in_ok-self.field-0 in
    let before : AreAskedOver check inputs run.kept bases answers = asked_moved first.check run.check first.inputs run.inputs (sym given.0) (sym given.1) bases first.kept run.kept (sym given.2) answers given.3 in
    let last : IsLastAnswer check inputs bases run.known = last_moved first.check run.check first.inputs run.inputs (sym given.0) (sym given.1) bases run.known given.4 in
    let still : IsSteady inputs (length answers) run.steady = subst (λ (x : Bor (List (Bor Column))). IsSteady x.now (length answers) run.steady) (sym given.1) given.5 in
    let long : n ≡ length answers = many ∙ sym (before.2.long ∙ before.1.0) in
    let held : IsSteady inputs n run.steady = subst (λ m. IsSteady inputs m run.steady) (sym long) still in
    let right : (a : Bool) → known ≡ Some a → IsAnswerOver check inputs base n check.code.kind a = λ a e.
    elim (c.in_ok-self.ensures.right a e) [
      | inl t ↦
          let as_before = c.is_as_before-same.ensures t.0 in
          answer_before check inputs bases base run.known a n run.steady many (ends as_before.0)
          last held as_before.1 t.1
      | inr now ↦ now
    ] in
    let new = c.push.new.self.items in
    let now = asked_more check inputs run.kept bases base answers new known n c.is_asked_at-asked.result c.is_held.result long before right c.in_ok-self.ensures.asked c.is_asked_at-asked.ensures c.is_held.ensures c.in_ok-push.ensures.items in (
      given.0,
      given.1,
      given.2,
      asked_moved run.check first.check run.inputs first.inputs given.0 given.1 (bases ++ base ∷ [])
          run.kept first.kept given.2 new now,
      last_moved run.check first.check run.inputs first.inputs given.0 given.1 (bases ++ base ∷ [])
          known (last_now check inputs bases base known n many right),
      steady_more run.inputs first.inputs given.1 (length answers) (length new) n run.steady
          c.steady_after-self.result long
          (ap length c.in_ok-push.ensures.items ∙ length-append answers (_ ∷ []))
          c.steady_after-self.ensures given.5,
    )
